use Rattle.std.proofs.Common.{◌<◌, ◌∙◌, ◌∷◌, [], ap, length, refl, rules, sym}
use Rattle.std.proofs.Math.Bool.{or-false}
use Rattle.qx_types.specs.declared.outcome.Answer.TheVariants.{Failed, Reply}
use Rattle.qx_machine.specs.Verdicts.{read_of}
use Rattle.qx_shared.proofs.AnswerLemmas.{became-own, device-own, fails-told, gives-told, left-own, same-own, waits-told}
use Rattle.qx_shared.proofs.CallLemmas.{received}
use Rattle.qx_shared.proofs.ChangeLemmas.{no_answers}
use Rattle.qx_shared.proofs.OwnLemmas.{has_row, row_of-within}
use Rattle.qx_shared.specs.inner.Own.{shown_shared}
use Rattle.qx_shared.proofs.shared.Shared.serve_read.Goals as goal

pub index_mut-rows-requires : goal.index_mut-rows-requires
index_mut-rows-requires c =
    let row = has_row c.self.inside.queues c.self.inside.pipes.items c.args.user.0 c.args.inode (rw (← c.self.view_is) at c.requires.pipe) in
    let within : c.args.user.0 < length c.self.inside.pipes.items = (row_of-within c.self.inside.pipes.items c.args.user.0 c.args.inode row.0 row.1).0 in
    search rules

pub read-requires-clause-device : goal.read-requires-clause-device
read-requires-clause-device c =
    let row = has_row c.self.inside.queues c.self.inside.pipes.items c.args.user.0 c.args.inode (rw (← c.self.view_is) at c.requires.pipe) in
    device-own _ _ c.self.invariant _ _ row.0 row.1 _ c.index_mut-rows.ensures.value (rw (← c.self.view_is) at c.requires.device)

pub invariant_of-self : goal.invariant_of-self
invariant_of-self c =
    let row = has_row c.self.inside.queues c.self.inside.pipes.items c.args.user.0 c.args.inode (rw (← c.self.view_is) at c.requires.pipe) in
    (became-own _ _ c.self.invariant _ _ row.0 row.1 _ c.index_mut-rows.ensures.value _ c.read.ensures.others [] c.self.inside.queues (sym (no_answers _))).all_are

pub reply_given-requires : goal.reply_given-requires
reply_given-requires c = record { received = received _ _ c.self.invariant _ (rw (← c.self.view_is) at c.requires.received) }

pub invariant_of-self-in-Gives : goal.invariant_of-self-in-Gives
invariant_of-self-in-Gives c =
    let row = has_row c.self.inside.queues c.self.inside.pipes.items c.args.user.0 c.args.inode (rw (← c.self.view_is) at c.requires.pipe) in
    (became-own _ _ c.self.invariant _ _ row.0 row.1 _ c.index_mut-rows.ensures.value _ c.read.ensures.others ((c.args.call, Reply c.in-Gives.status c.read.new.given) ∷ []) _ c.reply_given.ensures.answered).all_are

pub answer-requires-clause-received : goal.answer-requires-clause-received
answer-requires-clause-received c = received _ _ c.self.invariant _ (rw (← c.self.view_is) at c.requires.received)

pub invariant_of-self-in-Fails : goal.invariant_of-self-in-Fails
invariant_of-self-in-Fails c =
    let row = has_row c.self.inside.queues c.self.inside.pipes.items c.args.user.0 c.args.inode (rw (← c.self.view_is) at c.requires.pipe) in
    (became-own _ _ c.self.invariant _ _ row.0 row.1 _ c.index_mut-rows.ensures.value _ c.read.ensures.others ((c.args.call, Failed c.in-Fails.error) ∷ []) _ c.answer.ensures.answered).all_are

pub returns-in-Waits-clause-waits : goal.returns-in-Waits-clause-waits
returns-in-Waits-clause-waits c =
    let row = has_row c.self.inside.queues c.self.inside.pipes.items c.args.user.0 c.args.inode (rw (← c.self.view_is) at c.requires.pipe) in
    let left = left-own _ _ c.self.invariant _ _ row.0 row.1 _ c.index_mut-rows.ensures.value _ (λ device bytes. read_of device c.args.call.wanted bytes) (rw (c.wanted.ensures.wanted, c.in-Waits.is) at c.read.ensures.left) in
    let told = waits-told _ _ _ _ left in
    rw (← c.self.view_is) (refl, told.0, ap (shown_shared c.self.inside.queues) (same-own _ _ c.self.invariant _ _ row.0 row.1 _ c.index_mut-rows.ensures.value _ c.read.ensures.others told.1))

pub returns-in-Gives-clause-told : goal.returns-in-Gives-clause-told
returns-in-Gives-clause-told c =
    let row = has_row c.self.inside.queues c.self.inside.pipes.items c.args.user.0 c.args.inode (rw (← c.self.view_is) at c.requires.pipe) in
    let left = left-own _ _ c.self.invariant _ _ row.0 row.1 _ c.index_mut-rows.ensures.value _ (λ device bytes. read_of device c.args.call.wanted bytes) (rw (c.wanted.ensures.wanted, c.in-Gives.is) at c.read.ensures.left) in
    rw (← c.self.view_is, gives-told _ _ _ _ _ left) refl

pub returns-in-Gives-clause-served : goal.returns-in-Gives-clause-served
returns-in-Gives-clause-served c =
    let row = has_row c.self.inside.queues c.self.inside.pipes.items c.args.user.0 c.args.inode (rw (← c.self.view_is) at c.requires.pipe) in
    let left = left-own _ _ c.self.invariant _ _ row.0 row.1 _ c.index_mut-rows.ensures.value _ (λ device bytes. read_of device c.args.call.wanted bytes) (rw (c.wanted.ensures.wanted, c.in-Gives.is) at c.read.ensures.left) in
    rw (← c.self.view_is, gives-told _ _ _ _ _ left)
    (became-own _ _ c.self.invariant _ _ row.0 row.1 _ c.index_mut-rows.ensures.value _ c.read.ensures.others ((c.args.call, Reply c.in-Gives.status c.read.new.given) ∷ []) _ c.reply_given.ensures.answered).told_is

pub returns-in-Gives-clause-written : goal.returns-in-Gives-clause-written
returns-in-Gives-clause-written c =
    let row = has_row c.self.inside.queues c.self.inside.pipes.items c.args.user.0 c.args.inode (rw (← c.self.view_is) at c.requires.pipe) in
    let left = left-own _ _ c.self.invariant _ _ row.0 row.1 _ c.index_mut-rows.ensures.value _ (λ device bytes. read_of device c.args.call.wanted bytes) (rw (c.wanted.ensures.wanted, c.in-Gives.is) at c.read.ensures.left) in
    rw (← c.self.view_is, gives-told _ _ _ _ _ left) (c.reply_given.ensures.written ∙ sym (or-false _))

pub returns-in-Fails-clause-told : goal.returns-in-Fails-clause-told
returns-in-Fails-clause-told c =
    let row = has_row c.self.inside.queues c.self.inside.pipes.items c.args.user.0 c.args.inode (rw (← c.self.view_is) at c.requires.pipe) in
    let left = left-own _ _ c.self.invariant _ _ row.0 row.1 _ c.index_mut-rows.ensures.value _ (λ device bytes. read_of device c.args.call.wanted bytes) (rw (c.wanted.ensures.wanted, c.in-Fails.is) at c.read.ensures.left) in
    rw (← c.self.view_is, fails-told _ _ _ _ _ left) refl

pub returns-in-Fails-clause-served : goal.returns-in-Fails-clause-served
returns-in-Fails-clause-served c =
    let row = has_row c.self.inside.queues c.self.inside.pipes.items c.args.user.0 c.args.inode (rw (← c.self.view_is) at c.requires.pipe) in
    let left = left-own _ _ c.self.invariant _ _ row.0 row.1 _ c.index_mut-rows.ensures.value _ (λ device bytes. read_of device c.args.call.wanted bytes) (rw (c.wanted.ensures.wanted, c.in-Fails.is) at c.read.ensures.left) in
    rw (← c.self.view_is, fails-told _ _ _ _ _ left)
    (became-own _ _ c.self.invariant _ _ row.0 row.1 _ c.index_mut-rows.ensures.value _ c.read.ensures.others ((c.args.call, Failed c.in-Fails.error) ∷ []) _ c.answer.ensures.answered).told_is

pub returns-in-Fails-clause-written : goal.returns-in-Fails-clause-written
returns-in-Fails-clause-written c =
    let row = has_row c.self.inside.queues c.self.inside.pipes.items c.args.user.0 c.args.inode (rw (← c.self.view_is) at c.requires.pipe) in
    let left = left-own _ _ c.self.invariant _ _ row.0 row.1 _ c.index_mut-rows.ensures.value _ (λ device bytes. read_of device c.args.call.wanted bytes) (rw (c.wanted.ensures.wanted, c.in-Fails.is) at c.read.ensures.left) in
    rw (← c.self.view_is, fails-told _ _ _ _ _ left) (c.answer.ensures.written ∙ sym (or-false _))
