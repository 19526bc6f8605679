use Rattle.std.proofs.Common.{◌∙◌}
use Rattle.qx_world.proofs.TraceLemmas.{is_run-last}
use Rattle.qx_world.proofs.trace.Traced.last.Goals as goal

pub returns : goal.returns
returns c = rw (← c.self.view_is) (λ earlier e is. c.last_outcome.ensures _ _ (c.as_slice.ensures.value ∙ is_run-last _ _ _ earlier e c.self.invariant is))
