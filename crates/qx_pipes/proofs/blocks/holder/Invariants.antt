use Rattle.std.proofs.Common.{◌≡◌, ◌<◌, ℕ, false}
use Rattle.qx_machine.specs.Waiting.{holds, is_call}
use Rattle.qx_isolation.specs.Rows.{row_at}
use Rattle.qx_shared.specs.Shared.{pipes_of}
use Rattle.qx_pipes.proofs.blocks.holder.Given as goal

-- the call waits in no pipe that was passed
abbrev pub invariant-pipes : goal.invariant-pipes
invariant-pipes l = (inode : ℕ) → inode < l.inode → holds (is_call l.thread.proc.num l.thread.tid l.call) (row_at (pipes_of l.shared l.thread.proc.user.0) inode) ≡ false
