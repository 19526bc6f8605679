use Rattle.qx_shared.proofs.CallLemmas.{received}
use Rattle.qx_shared.proofs.ChangeLemmas.{waited}
use Rattle.qx_shared.proofs.OwnLemmas.{has_row}
use Rattle.qx_shared.proofs.shared.Shared.wait.Goals as goal

pub list-list-requires : goal.list-list-requires
list-list-requires c = record { there = rw c.deref.ensures.value (has_row c.self.inside.queues c.self.inside.pipes.items c.args.user.0 c.args.inode (rw (← c.self.view_is) at c.requires.pipe)) }

pub wait-requires-clause-list : goal.wait-requires-clause-list
wait-requires-clause-list c = c.self.invariant.there _ _ (rw c.deref.ensures.value at c.list-list.ensures.list)

pub wait-requires-clause-received : goal.wait-requires-clause-received
wait-requires-clause-received c = received _ _ c.self.invariant _ (rw (← c.self.view_is) at c.requires.received)

pub invariant_of-self : goal.invariant_of-self
invariant_of-self c = (waited _ _ c.self.invariant _ _ _ _ (rw c.deref.ensures.value at c.list-list.ensures.list) _ _ c.wait.ensures).all_are

pub returns : goal.returns
returns c = rw (← c.self.view_is) (waited _ _ c.self.invariant _ _ _ _ (rw c.deref.ensures.value at c.list-list.ensures.list) _ _ c.wait.ensures).told_is
