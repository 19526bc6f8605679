-- What the RAM manager does to the bytes of files (C Library Reference: open, read, write, lseek; the limits are this profile).
use Rattle.std.specs.Prelude.{ℕ, ℤ, ◌+◌, ◌==◌, ◌&&◌, List, [], Some, Result, Ok, is_some, length, nat_le, slice_set, if◌then◌else◌}
use Rattle.qx_base.specs.declared.errno.Errno.{Errno}
use Rattle.qx_base.specs.declared.errno.Errno.TheVariants.{EBADF, EFBIG, EINVAL, EISDIR, ENOSPC}
use Rattle.qx_types.specs.declared.fields.Whence.{Whence}
use Rattle.qx_types.specs.declared.flags.OFlags.{OFlags}
use Rattle.qx_types.specs.declared.flags.TheConstants.OFlags.{TRUNC}
use Rattle.qx_types.specs.declared.limits.TheConstants.Limits.{OFFSET}
use Rattle.qx_machine.specs.declared.rows.Effect.TheVariants.{Keeps}
use Rattle.qx_machine.specs.declared.rows.Opened.{Opened}
use Rattle.qx_machine.specs.Files.{base, get, moved_by, put, total_size, write_offset}
use Rattle.qx_machine.specs.Functions.{Deed, reply_alone}
use Rattle.qx_machine.specs.Inodes.{has, reads, with_offset, writes}
use Rattle.qx_isolation.specs.Judgements.{◌>>=◌, found, need}
use Rattle.qx_machine.specs.Resources.{Resources, resized}
use Rattle.qx_isolation.specs.Rows.{row_at, with_row}

-- a file has other bytes, and its times are the moment
abbrev pub with_bytes : ℕ → ℕ → List ℕ → Resources → Resources
with_bytes inode moment bytes r = record r {
  inodes = record r.inodes { attributes = with_row r.inodes.attributes inode (resized (length bytes) moment) };
  files = slice_set r.files inode (Some bytes);
}

-- an open for writing with TRUNC makes a file empty, and nothing else (C Library Reference: open, O_TRUNC)
abbrev pub emptied : OFlags → ℕ → ℕ → Resources → Resources
emptied flags inode moment r = if has flags TRUNC && writes flags && is_some (row_at r.files inode) then with_bytes inode moment [] r else r

-- a block stands at another offset, and bytes are given
abbrev pub moved : ℕ → ℕ → ℕ → List ℕ → Resources → Deed Resources
moved number offset status bytes r = reply_alone status bytes Keeps (record r { inodes = with_offset r.inodes number offset })

-- a read gives at most so many bytes from the offset on, and moves past them
abbrev pub read_file : Resources → Opened → ℕ → Result (Deed Resources) Errno
read_file r opened count = do
  block ← found (row_at r.inodes.blocks opened.number) EBADF
  reading ← need (reads block.flags) EBADF
  bytes ← found (row_at r.files block.inode) EISDIR
  Ok (moved opened.number (block.offset + length (get bytes block.offset count)) (length (get bytes block.offset count)) (get bytes block.offset count) r)

-- a write of some bytes at an offset of a file that has these: wholly or not at all
abbrev pub written_at : Resources → ℕ → ℕ → List ℕ → ℕ → List ℕ → ℕ → Result (Deed Resources) Errno
written_at r number inode bytes offset new moment = do
  short ← need (nat_le (offset + length new) r.limits.file) EFBIG
  few ← need (nat_le (total_size (slice_set r.files inode (Some (put bytes offset new)))) r.limits.bytes) ENOSPC
  Ok (moved number (offset + length new) (length new) [] (with_bytes inode moment (put bytes offset new) r))

-- no bytes change nothing, wherever they would stand
abbrev pub write_file : Resources → Opened → List ℕ → Result (Deed Resources) Errno
write_file r opened new = do
  block ← found (row_at r.inodes.blocks opened.number) EBADF
  writing ← need (writes block.flags) EBADF
  bytes ← found (row_at r.files block.inode) EBADF
  if length new == 0 then Ok (reply_alone 0 [] Keeps r) else written_at r opened.number block.inode bytes (write_offset block bytes) new opened.moment

-- a seek moves to a further offset, past the end too; a directory has none
abbrev pub seek_file : Resources → Opened → Whence → ℤ → Result (Deed Resources) Errno
seek_file r opened whence by = do
  block ← found (row_at r.inodes.blocks opened.number) EBADF
  bytes ← found (row_at r.files block.inode) EINVAL
  offset ← found (moved_by (base whence block bytes) by) EINVAL
  small ← need (nat_le offset OFFSET) EINVAL
  Ok (moved opened.number offset offset [] r)
