-- Whether a path's target may be opened or made, in the order in which that is judged.
use Rattle.std.specs.Prelude.{ℕ, ◌&&◌, not, Result, Ok}
use Rattle.qx_base.specs.declared.errno.Errno.{Errno}
use Rattle.qx_base.specs.declared.errno.Errno.TheVariants.{EACCES, EEXIST, EISDIR, ENOENT}
use Rattle.qx_types.specs.declared.flags.OFlags.{OFlags}
use Rattle.qx_types.specs.declared.flags.TheConstants.OFlags.{CREAT, EXCL}
use Rattle.qx_iofunc.specs.declared.found.New.{New}
use Rattle.qx_machine.specs.Inodes.{Inodes, block_number, has, inode_number, writes}
use Rattle.qx_isolation.specs.Judgements.{◌>>=◌, found, need}
use Rattle.qx_machine.specs.Names.{is_directory}
use Rattle.qx_machine.specs.Defaults.{allows, writable}
use Rattle.qx_isolation.specs.Rows.{row_at}

-- the number of an open control block of what is there
abbrev pub may_open : Inodes → ℕ → ℕ → OFlags → Result ℕ Errno
may_open inodes user inode flags = do
  attribute ← found (row_at inodes.attributes inode) ENOENT
  shared ← need (not (has flags CREAT && has flags EXCL)) EEXIST
  fitting ← need (not (is_directory attribute.kind && writes flags)) EISDIR
  allowed ← need (allows attribute user flags) EACCES
  block_number inodes

-- what is to be made, and the number of its open control block
abbrev pub may_make : Inodes → ℕ → ℕ → OFlags → Result (New × ℕ) Errno
may_make inodes user directory flags = do
  making ← need (has flags CREAT) ENOENT
  parent ← writable inodes user directory
  block ← block_number inodes
  inode ← inode_number inodes
  Ok (record { inode = inode; parent = parent }, block)
