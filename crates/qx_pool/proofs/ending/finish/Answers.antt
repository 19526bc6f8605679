use Rattle.std.proofs.Common.{◌∙◌, ap, arith, length}
use Rattle.qx_world.specs.Trace.{Trace}
use Rattle.qx_pool.proofs.ending.finish.Goals as goal

pub returns-else-is_whole-clause-faults : goal.returns-else-is_whole-clause-faults
returns-else-is_whole-clause-faults g c =
    (grind arith, ap (λ (t : Trace). length t.steps) c.end-traced.ensures.traced ∙ c.end-traced.ensures.sum, c.end-traced.ensures.seats, λ agrees. (rw c.if-is_whole.false at c.end-traced.ensures.agrees) (rw c.end-traced.ensures.traced at agrees))
