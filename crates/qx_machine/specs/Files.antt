-- The bytes of files, and places in them (C Library Reference: read, write, lseek).
use Rattle.std.specs.Prelude.{ℕ, ℤ, pos, negsuc, ◌+◌, ◌-◌, List, ◌++◌, Option, Some, None, drop, length, nat_lt, replicate, take, if◌then◌else◌}
use Rattle.std.specs.List.{sum_by}
use Rattle.qx_types.specs.declared.fields.Whence.{Whence}
use Rattle.qx_types.specs.declared.fields.Whence.TheVariants.{Set, Current, End}
use Rattle.qx_types.specs.declared.flags.TheConstants.OFlags.{APPEND}
use Rattle.qx_types.specs.declared.limits.TheConstants.Limits.{INODES}
use Rattle.qx_machine.specs.declared.rows.Ocb.{Ocb}
use Rattle.qx_machine.specs.Inodes.{has}

-- the bytes of a user's files, under the numbers of their inodes
abbrev pub Files : Type 0
Files = List (Option (List ℕ))

-- no file, and a place for the bytes of each inode
abbrev pub no_files : Files
no_files = replicate (INODES + 1) None

-- at most so many bytes from an offset on
abbrev pub get : List ℕ → ℕ → ℕ → List ℕ
get bytes offset count = take count (drop offset bytes)

-- the bytes, zero bytes up to the offset where they are shorter, the new ones there, and the old rest after them
abbrev pub put : List ℕ → ℕ → List ℕ → List ℕ
put bytes offset new = (take offset bytes ++ replicate (offset - length bytes) 0) ++ (new ++ drop (offset + length new) bytes)

abbrev pub size_of : Option (List ℕ) → ℕ
size_of None = 0
size_of (Some bytes) = length bytes

-- the sum of the sizes of a user's files
abbrev pub total_size : Files → ℕ
total_size files = sum_by size_of files

-- where a write begins: with APPEND at the end
abbrev pub write_offset : Ocb → List ℕ → ℕ
write_offset block bytes = if has block.flags APPEND then length bytes else block.offset

-- where a seek counts from
abbrev pub base : Whence → Ocb → List ℕ → ℕ
base Set block bytes = 0
base Current block bytes = block.offset
base End block bytes = length bytes

-- a number moved by another, where that is not below 0
abbrev pub moved_by : ℕ → ℤ → Option ℕ
moved_by from (pos n) = Some (from + n)
moved_by from (negsuc n) = if nat_lt n from then Some (from - (n + 1)) else None
