use Rattle.qx_shared.specs.Shared.{pipe_at}
use Rattle.qx_pipe.specs.inner.Turns.{Turning, waiting_count}
use Rattle.qx_pipe.proofs.pipe.settle_of.Given as goal

abbrev pub invariant-turns : goal.invariant-turns
invariant-turns l = Turning l.initial.shared l.shared l.user.0 l.inode l.filled

abbrev pub decreases-turns : goal.decreases-turns
decreases-turns l = waiting_count (pipe_at l.shared l.user.0 l.inode)
