-- The bytes of a user's files, and the blocks that are there.
use Rattle.std.specs.Prelude.{IsSomeAnd, ℕ, ◌+◌, Bool, List, [], Option, Some, None, replicate, slice_set}
use Rattle.qx_types.specs.declared.limits.TheConstants.Limits.{INODES}
use Rattle.qx_machine.specs.Files.{Files, no_files, put}
use Rattle.qx_isolation.specs.Rows.{row_at, with_row}
use Rattle.qx_files.specs.Blocks.{LacksBlock, blocks_after}

-- the bytes of files under the numbers of their inodes, and beside them for each block of a file whether it is there
pub record Kept : Type 0 where
  pub files : Files
  pub blocks : List (Option (List Bool))

-- no file, and a place for each inode
abbrev pub none_kept : Kept
none_kept = record { files = no_files; blocks = replicate (INODES + 1) None }

-- a file with no bytes, and no blocks
abbrev pub with_nothing : ℕ → Kept → Kept
with_nothing inode kept = record { files = slice_set kept.files inode (Some []); blocks = slice_set kept.blocks inode (Some []) }

-- a file is gone
abbrev pub without : ℕ → Kept → Kept
without inode kept = record { files = slice_set kept.files inode None; blocks = slice_set kept.blocks inode None }

-- bytes were put into a file, if it is there
abbrev pub pasted : Files → ℕ → ℕ → List ℕ → Files
pasted files inode offset new = with_row files inode (λ old. put old offset new)

-- so many bytes were put into a file at an offset, if it is there: the blocks that there are then
abbrev pub blocks_pasted : List (Option (List Bool)) → ℕ → ℕ → ℕ → List (Option (List Bool))
blocks_pasted blocks inode offset count = with_row blocks inode (λ old. blocks_after old offset count)

-- one of so many places of a file from an offset on is in a block that isn't there
abbrev pub FileLacksBlock : Kept → ℕ → ℕ → ℕ → Type 0
FileLacksBlock kept inode offset count = IsSomeAnd (row_at kept.files inode) (λ bytes. IsSomeAnd (row_at kept.blocks inode) (λ blocks. LacksBlock (record { bytes = bytes; blocks = blocks }) offset count))
