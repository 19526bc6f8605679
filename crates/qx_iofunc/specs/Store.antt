-- What contracts see of a user's store.
use Rattle.std.specs.Prelude.{ℕ, Bool, List, Option, [], ◌∷◌, Some, None, slice_set, if◌then◌else◌}
use Rattle.std.specs.FinMap.{empty}
use Rattle.qx_machine.specs.declared.rows.Kind.{Kind}
use Rattle.qx_machine.specs.declared.rows.Kind.TheVariants.{File}
use Rattle.qx_machine.specs.Attributes.{root_attribute, top_inode}
use Rattle.qx_machine.specs.Files.{Files, no_files}
use Rattle.qx_machine.specs.Inodes.{Inodes, close_block, free_inode, is_unused, no_inodes}
use Rattle.qx_machine.specs.Names.{Names, with_root}
use Rattle.qx_machine.specs.Resources.{Resources}
use Rattle.qx_isolation.specs.Rows.{put_row, row_at}
use Rattle.qx_types.specs.UserLimits.{UserLimits}

-- a user's inodes and open control blocks, the names in all mounts, the bytes of files, and the user's limits
pub record Stored : Type 0 where
  pub user : ℕ
  pub inodes : Inodes
  pub names : Names
  pub files : Files
  pub limits : UserLimits

-- that, for each block of a file whether it is there, and how many more inodes, and as many more open control blocks, can be made with
-- no memory
pub record Store : Type 0 where
  pub stored : Stored
  pub blocks : List (Option (List Bool))
  pub room : ℕ

-- what the managers keep for the user, with this in it
abbrev pub with_stored : Resources → Stored → Resources
with_stored r s = record r { user = s.user; inodes = s.inodes; names = s.names; files = s.files; limits = s.limits }

-- ---- mounts

-- the user's top with its root, which is empty, and nothing open
abbrev pub boot_store : UserLimits → ℕ → Stored
boot_store limits user = record {
  user = user;
  inodes = record (no_inodes limits) { attributes = None ∷ Some (root_attribute user) ∷ [] };
  names = with_root empty top_inode;
  files = no_files;
  limits = limits;
}

-- the root of a mount is there
abbrev pub with_mount_root : ℕ → Stored → Stored
with_mount_root root s = record s {
  inodes = record s.inodes { attributes = put_row s.inodes.attributes root (root_attribute s.user) };
  names = with_root s.names root;
}

-- ---- what goes

-- the bytes of a file go, or its blocks, where a manager keeps such in its inodes
abbrev pub files_without : {A : Type 0} → Kind → ℕ → List (Option A) → List (Option A)
files_without File inode files = slice_set files inode None
files_without _ inode files = files

-- what is left of them where this inode goes, if any does
abbrev pub files_left : {A : Type 0} → Kind → Option ℕ → List (Option A) → List (Option A)
files_left own None files = files
files_left own (Some inode) files = files_without own inode files

-- an open control block goes
abbrev pub block_gone : ℕ → Stored → Stored
block_gone number s = record s { inodes = close_block s.inodes number }

-- an inode that nothing names and nothing has open goes, and the bytes of a file with it
abbrev pub unused_gone : Kind → ℕ → Stored → Stored
unused_gone own inode s =
    if is_unused s.inodes inode (row_at s.inodes.attributes inode)
    then record s { inodes = free_inode s.inodes inode; files = files_without own inode s.files }
    else s

-- and the blocks of a file with it
abbrev pub blocks_gone : Kind → ℕ → Stored → List (Option (List Bool)) → List (Option (List Bool))
blocks_gone own inode s blocks = if is_unused s.inodes inode (row_at s.inodes.attributes inode) then files_without own inode blocks else blocks
