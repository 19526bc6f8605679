use Rattle.std.proofs.Common.{map, take}
use Rattle.qx_storing.specs.inner.Marks.{AgreesSoFar}
use Rattle.qx_storing.proofs.agreement.agree.Given as goal

abbrev pub invariant-loop-seat : goal.invariant-loop-seat
invariant-loop-seat g l = AgreesSoFar l.entries l.marks (take l.seat-index (map (λ s. s.notes.items) l.seats))
