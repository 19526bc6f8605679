use Rattle.qx_queues.specs.Waits.{handed, leaves}
use Rattle.qx_shared.proofs.ChangeLemmas.{dismissed}
use Rattle.qx_shared.proofs.OwnLemmas.{has_row}
use Rattle.qx_shared.proofs.shared.Shared.dismiss.Goals as goal

pub list-list-requires : goal.list-list-requires
list-list-requires c = record { there = rw c.deref.ensures.value (has_row c.self.inside.queues c.self.inside.pipes.items c.args.user.0 c.args.inode (rw (← c.self.view_is) at c.requires.pipe)) }

pub dismiss-requires-clause-list : goal.dismiss-requires-clause-list
dismiss-requires-clause-list c = c.self.invariant.there _ _ (rw c.deref.ensures.value at c.list-list.ensures.list)

pub invariant_of-self : goal.invariant_of-self
invariant_of-self c = (dismissed _ _ c.self.invariant _ _ _ _ (rw c.deref.ensures.value at c.list-list.ensures.list) (leaves c.args.which) (handed c.args.answer) _ c.dismiss.ensures).all_are

pub returns : goal.returns
returns c = rw (← c.self.view_is) (dismissed _ _ c.self.invariant _ _ _ _ (rw c.deref.ensures.value at c.list-list.ensures.list) (leaves c.args.which) (handed c.args.answer) _ c.dismiss.ensures).told_is
