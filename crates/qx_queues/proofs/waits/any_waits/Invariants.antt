use Rattle.std.proofs.Common.{◌≡◌, false, take}
use Rattle.std.specs.List.{list_any}
use Rattle.qx_queues.specs.inner.Kept.{waits_with}
use Rattle.qx_queues.proofs.waits.any_waits.Given as goal

abbrev pub invariant-loop-row : goal.invariant-loop-row
invariant-loop-row l = list_any (waits_with l.table) (take l.row-index l.threads) ≡ false
