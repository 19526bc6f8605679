-- What only the proofs need of Store.
use Rattle.std.specs.Prelude.{ℕ, ◌≡◌, Bool, true, List, Option, [], Some, None, is_some, slice_set, if◌then◌else◌}
use Rattle.std.specs.FinMap.{get, insert, remove}
use Rattle.qx_machine.specs.declared.rows.Attribute.{Attribute}
use Rattle.qx_machine.specs.declared.rows.Kind.{Kind}
use Rattle.qx_machine.specs.declared.rows.Kind.TheVariants.{File}
use Rattle.qx_machine.specs.Defaults.{is_own, unnamed, with_entries_changed}
use Rattle.qx_machine.specs.Inodes.{Inodes, new_attribute, with_attribute}
use Rattle.qx_machine.specs.Names.{Key, Names, Spot, names_in, under}
use Rattle.qx_machine.specs.Resources.{resized}
use Rattle.qx_isolation.specs.Rows.{put_row, row_at, with_row}
use Rattle.qx_names.specs.Paths.{HasPath, path_of}
use Rattle.qx_names.specs.declared.spot.Spot as spots
use Rattle.qx_iofunc.specs.Store.{Stored, unused_gone}

-- a file with no bytes comes, and with no blocks, where an inode of that kind is made
abbrev pub files_with : {A : Type 0} → Kind → ℕ → List (Option (List A)) → List (Option (List A))
files_with File inode files = slice_set files inode (Some [])
files_with _ inode files = files

-- an inode of this kind and mode is made under this number, with a name in a directory, whose attribute was this
abbrev pub with_made : Spot → ℕ → Attribute → Kind → ℕ → ℕ → Stored → Stored
with_made at inode parent kind mode moment s = record s {
  inodes = with_attribute (record s.inodes { attributes = put_row s.inodes.attributes inode (new_attribute kind mode s.user moment) }) at.parent (with_entries_changed moment parent);
  names = insert s.names at.key inode;
  files = files_with kind inode s.files;
}

-- an inode has another size, and the times of that
abbrev pub with_resized : ℕ → ℕ → ℕ → Stored → Stored
with_resized inode size moment s = record s { inodes = record s.inodes { attributes = with_row s.inodes.attributes inode (resized size moment) } }

-- the blocks of a file that is made empty
abbrev pub blocks_truncated : ℕ → Stored → List (Option (List Bool)) → List (Option (List Bool))
blocks_truncated inode s blocks = if is_some (row_at s.files inode) then slice_set blocks inode (Some []) else blocks

-- a file is made empty
abbrev pub with_truncated : ℕ → ℕ → Stored → Stored
with_truncated inode moment s = if is_some (row_at s.files inode) then record (with_resized inode 0 moment s) { files = slice_set s.files inode (Some []) } else s

-- ---- names that go

-- an inode loses its name
abbrev pub name_gone : Key → ℕ → Attribute → ℕ → Stored → Stored
name_gone key inode attribute moment s = record s {
  inodes = with_attribute s.inodes inode (unnamed moment attribute);
  names = remove s.names key;
}

-- and goes, unless it is open
abbrev pub name_taken : Kind → Key → ℕ → Attribute → ℕ → Stored → Stored
name_taken own key inode attribute moment s = unused_gone own inode (name_gone key inode attribute moment s)

-- where it is there, by its attribute
abbrev pub row_taken : Key → ℕ → ℕ → Stored → Option Attribute → Stored
row_taken key inode moment s None = s
row_taken key inode moment s (Some attribute) = name_taken File key inode attribute moment s

-- so a file or a directory that has a name, if any has it
abbrev pub name_free : Key → Option ℕ → ℕ → Stored → Stored
name_free key None moment s = s
name_free key (Some inode) moment s = row_taken key inode moment s (row_at s.inodes.attributes inode)

-- what may be replaced is there, with nothing in it, and a file or a directory
abbrev pub IsReplaceable : Inodes → Names → Option ℕ → Type 0
IsReplaceable inodes names None = Unit {0}
IsReplaceable inodes names (Some inode) = (names_in names inode ≡ []) × ((target : Attribute) × ((row_at inodes.attributes inode ≡ Some target) × (is_own File target.kind ≡ true)))

-- among these names an inode has a name, and nothing another one, in directories whose paths are those that they had
pub record CanMove (before now : Names) (old : spots.Spot) (inode : ℕ) (new : spots.Spot) : Type 0 where
  pub directory : HasPath now old.parent
  pub target : HasPath now new.parent
  pub from : under (path_of now old.parent) old.name.now ≡ under (path_of before old.parent) old.name.now
  pub to : under (path_of now new.parent) new.name.now ≡ under (path_of before new.parent) new.name.now
  pub there : get now (under (path_of now old.parent) old.name.now) ≡ Some inode
  pub free : get now (under (path_of now new.parent) new.name.now) ≡ None

-- the names without that of what is replaced
abbrev pub names_free : Key → Option ℕ → Names → Names
names_free key None names = names
names_free key (Some inode) names = remove names key

-- the times of two directories change
abbrev pub both_changed : ℕ → Attribute → ℕ → Attribute → ℕ → Stored → Stored
both_changed one parent two other moment s = record s {
  inodes = with_attribute (with_attribute s.inodes one (with_entries_changed moment parent)) two (with_entries_changed moment other);
}
