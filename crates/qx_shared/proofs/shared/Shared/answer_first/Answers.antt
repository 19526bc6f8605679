use Rattle.std.proofs.Common.{◌∙◌}
use Rattle.qx_queues.specs.Waits.{handed}
use Rattle.qx_shared.proofs.ChangeLemmas.{first-written, first_answered, same-bytes, waiting-some}
use Rattle.qx_shared.proofs.OwnLemmas.{has_row}
use Rattle.qx_shared.proofs.shared.Shared.answer_first.Goals as goal

pub list-list-requires : goal.list-list-requires
list-list-requires c = record { there = rw c.deref.ensures.value (has_row c.self.inside.queues c.self.inside.pipes.items c.args.user.0 c.args.inode (rw (← c.self.view_is) at c.requires.pipe)) }

pub answer_first-requires-clause-list : goal.answer_first-requires-clause-list
answer_first-requires-clause-list c = c.self.invariant.there _ _ (rw c.deref.ensures.value at c.list-list.ensures.list)

pub answer_first-requires-clause-waits : goal.answer_first-requires-clause-waits
answer_first-requires-clause-waits c = waiting-some _ _ c.self.invariant _ _ _ _ (rw c.deref.ensures.value at c.list-list.ensures.list) (rw (← c.self.view_is) at c.requires.waits)

pub invariant_of-self : goal.invariant_of-self
invariant_of-self c =
    let is = rw c.deref.ensures.value at c.list-list.ensures.list in
    (first_answered _ _ c.self.invariant _ _ _ _ is _ _ _ _ c.answer_first.ensures.answered (same-bytes _ _ c.self.invariant _ _ _ _ is)).all_are

pub returns-clause-answered : goal.returns-clause-answered
returns-clause-answered c =
    let is = rw c.deref.ensures.value at c.list-list.ensures.list in
    rw (← c.self.view_is) (first_answered _ _ c.self.invariant _ _ _ _ is _ _ _ _ c.answer_first.ensures.answered (same-bytes _ _ c.self.invariant _ _ _ _ is)).told_is

pub returns-clause-written : goal.returns-clause-written
returns-clause-written c = rw (← c.self.view_is) (c.answer_first.ensures.written ∙ first-written _ _ c.self.invariant _ _ _ _ (rw c.deref.ensures.value at c.list-list.ensures.list) (handed c.args.answer))
