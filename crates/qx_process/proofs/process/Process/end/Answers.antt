use Rattle.std.proofs.Common.{◌∙◌, refl}
use Rattle.std.proofs.lemmas.List.{length-map}
use Rattle.qx_process.proofs.EndLemmas.{all-left, left, left-settled, loses-all}
use Rattle.qx_process.proofs.process.Process.end.Goals as goal

pub invariant_of-self : goal.invariant_of-self
invariant_of-self c = rw (c.clear.ensures, c.leave.ensures.left) (left-settled c.self.inside.servers.items, length-map c.self.inside.servers.items left ∙ c.self.invariant.1)

pub returns-clause-process : goal.returns-clause-process
returns-clause-process c = rw (← c.self.view_is, c.end.ensures.held, c.end.ensures.gone, c.clear.ensures, c.leave.ensures.left, all-left 0 c.self.inside.servers.items) refl

pub returns-clause-lost : goal.returns-clause-lost
returns-clause-lost c = rw (← c.self.view_is) (loses-all _ _ c.self.invariant.1 c.leave.ensures.left)
