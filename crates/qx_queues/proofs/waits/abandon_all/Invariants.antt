use Rattle.std.proofs.Common.{take}
use Rattle.qx_queues.specs.inner.Kept.{Abandoned}
use Rattle.qx_queues.proofs.waits.abandon_all.Given as goal

abbrev pub invariant-loop-row : goal.invariant-loop-row
invariant-loop-row l = Abandoned l.initial.table l.table (take l.row-index l.threads)
