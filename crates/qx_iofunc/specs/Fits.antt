-- How names, inodes and the bytes of files stand together.
use Rattle.std.specs.Prelude.{ℕ, ◌≡◌, ◌<◌, Bool, true, false, Option, Some, None, length, option_map, if◌then◌else◌}
use Rattle.std.specs.FinMap.{get}
use Rattle.qx_machine.specs.declared.rows.Attribute.{Attribute}
use Rattle.qx_machine.specs.declared.rows.Kind.{Kind}
use Rattle.qx_machine.specs.declared.rows.Kind.TheVariants.{File}
use Rattle.qx_machine.specs.Files.{Files}
use Rattle.qx_machine.specs.Inodes.{Inodes, is_unused}
use Rattle.qx_machine.specs.Names.{Key, Names}
use Rattle.qx_isolation.specs.Rows.{row_at}

-- ---- names and inodes

-- an inode that is there, and has a link
abbrev pub IsLinked : Option Attribute → Type 0
IsLinked None = ⊥
IsLinked (Some attribute) = 0 < attribute.links

pub record NamesFit (inodes : Inodes) (names : Names) : Type 0 where
  -- each path leads to an inode that is there and linked
  pub linked : (key : Key) (inode : ℕ) → get names key ≡ Some inode → IsLinked (row_at inodes.attributes inode)
  -- each inode that is there is linked or open
  pub used : (inode : ℕ) → is_unused inodes inode (row_at inodes.attributes inode) ≡ false
  -- inodes are numbered from 1
  pub places : 0 < length inodes.attributes

-- ---- sizes

abbrev pub is_file : Kind → Bool
is_file File = true
is_file _ = false

-- the size of a file; nothing else has one
abbrev pub file_size : Option Attribute → Option ℕ
file_size None = None
file_size (Some attribute) = if is_file attribute.kind then Some attribute.size else None

-- a file has as many bytes as its size says; what is no file, and where there is no inode, has none
abbrev pub AreSized : Inodes → Files → Type 0
AreSized inodes files = (inode : ℕ) → option_map (λ bytes. length bytes) (row_at files inode) ≡ file_size (row_at inodes.attributes inode)

pub record Fits (inodes : Inodes) (names : Names) (files : Files) : Type 0 where
  -- names and inodes stand together
  pub named : NamesFit inodes names
  -- files have the sizes that their inodes say
  pub sized : AreSized inodes files
  -- there is a place for the bytes of each inode
  pub room : inodes.most_inodes < length files
