use Rattle.qx_shared.proofs.CallLemmas.{received}
use Rattle.qx_shared.proofs.shared.Shared.answer.Goals as goal

pub answer-requires-clause-received : goal.answer-requires-clause-received
answer-requires-clause-received c = received _ _ c.self.invariant _ (rw (← c.self.view_is) at c.requires.received)
