-- An open control block, by what it was opened for.
use Rattle.std.specs.Prelude.{ℕ, Result, Ok}
use Rattle.qx_base.specs.declared.errno.Errno.{Errno}
use Rattle.qx_base.specs.declared.errno.Errno.TheVariants.{EBADF}
use Rattle.qx_types.specs.declared.flags.OFlags.{OFlags}
use Rattle.qx_machine.specs.declared.rows.Ocb.{Ocb}
use Rattle.qx_machine.specs.Inodes.{Inodes, has}
use Rattle.qx_isolation.specs.Judgements.{◌>>=◌, found, need}
use Rattle.qx_isolation.specs.Rows.{row_at}

-- an open control block that was opened with a flag (C Library Reference: EBADF)
abbrev pub block_for : Inodes → ℕ → OFlags → Result Ocb Errno
block_for inodes number flag = do
  block ← found (row_at inodes.blocks number) EBADF
  allowed ← need (has block.flags flag) EBADF
  Ok block
