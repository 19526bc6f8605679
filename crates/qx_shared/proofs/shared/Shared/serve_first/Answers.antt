use Rattle.std.proofs.Common.{◌∙◌, [], ap, refl, sym}
use Rattle.qx_types.specs.declared.outcome.Answer.TheVariants.{Failed, Reply}
use Rattle.qx_shared.proofs.AnswerLemmas.{became-own, device-own, fails-told, first-own, first-told, gives-told, left-own, nobody-told, same-own, unchanged-own, waits-told}
use Rattle.qx_shared.proofs.ChangeLemmas.{first-there, first-written, no_answers}
use Rattle.qx_shared.proofs.OwnLemmas.{has_row}
use Rattle.qx_shared.specs.inner.Own.{shown_shared}
use Rattle.qx_shared.specs.inner.Row.{verdict_on}
use Rattle.qx_shared.proofs.shared.Shared.serve_first.Goals as goal

pub list-list-requires : goal.list-list-requires
list-list-requires c = record { there = rw c.deref.ensures.value (has_row c.self.inside.queues c.self.inside.pipes.items c.args.user.0 c.args.inode (rw (← c.self.view_is) at c.requires.pipe)) }

pub first_waiting-requires : goal.first_waiting-requires
first_waiting-requires c = record { list = c.self.invariant.there _ _ (rw c.deref.ensures.value at c.list-list.ensures.list) }

pub returns-in_err-call-clause-told : goal.returns-in_err-call-clause-told
returns-in_err-call-clause-told c =
    let list_is = rw c.deref.ensures.value at c.list-list.ensures.list in
    let none = nobody-told c.args.side _ (sym (first-there _ _ c.self.invariant _ _ _ _ list_is) ∙ sym c.in_err-call.ensures) in
    rw (← c.self.view_is, c.from_residual.ensures, none) refl

pub returns-in_err-call-clause-served : goal.returns-in_err-call-clause-served
returns-in_err-call-clause-served c =
    let row = has_row c.self.inside.queues c.self.inside.pipes.items c.args.user.0 c.args.inode (rw (← c.self.view_is) at c.requires.pipe) in
    let list_is = rw c.deref.ensures.value at c.list-list.ensures.list in
    let none = nobody-told c.args.side _ (sym (first-there _ _ c.self.invariant _ _ _ _ list_is) ∙ sym c.in_err-call.ensures) in
    rw (← c.self.view_is, none) (unchanged-own _ _ c.self.invariant _ _ row.0 row.1)

pub ask-requires-clause-device : goal.ask-requires-clause-device
ask-requires-clause-device c =
    let row = has_row c.self.inside.queues c.self.inside.pipes.items c.args.user.0 c.args.inode (rw (← c.self.view_is) at c.requires.pipe) in
    device-own _ _ c.self.invariant _ _ row.0 row.1 _ c.index_mut-rows.ensures.value (rw (← c.self.view_is) at c.requires.device)

pub invariant_of-self-in-Waits : goal.invariant_of-self-in-Waits
invariant_of-self-in-Waits c =
    let row = has_row c.self.inside.queues c.self.inside.pipes.items c.args.user.0 c.args.inode (rw (← c.self.view_is) at c.requires.pipe) in
    (became-own _ _ c.self.invariant _ _ row.0 row.1 _ c.index_mut-rows.ensures.value _ c.ask.ensures.others [] c.self.inside.queues (sym (no_answers _))).all_are

pub invariant_of-self-in-Gives : goal.invariant_of-self-in-Gives
invariant_of-self-in-Gives c =
    let row = has_row c.self.inside.queues c.self.inside.pipes.items c.args.user.0 c.args.inode (rw (← c.self.view_is) at c.requires.pipe) in
    let list_is = rw c.deref.ensures.value at c.list-list.ensures.list in
    (first-own _ _ c.self.invariant _ _ row.0 row.1 _ c.index_mut-rows.ensures.value _ c.ask.ensures.others _ _ list_is (Reply c.in-Gives.status c.ask.new.given) _ c.reply_first.ensures.answered).all_are

pub invariant_of-self-in-Fails : goal.invariant_of-self-in-Fails
invariant_of-self-in-Fails c =
    let row = has_row c.self.inside.queues c.self.inside.pipes.items c.args.user.0 c.args.inode (rw (← c.self.view_is) at c.requires.pipe) in
    let list_is = rw c.deref.ensures.value at c.list-list.ensures.list in
    (first-own _ _ c.self.invariant _ _ row.0 row.1 _ c.index_mut-rows.ensures.value _ c.ask.ensures.others _ _ list_is (Failed c.in-Fails.error) _ c.answer_first.ensures.answered).all_are

pub returns-in-Waits-clause-told : goal.returns-in-Waits-clause-told
returns-in-Waits-clause-told c =
    let row = has_row c.self.inside.queues c.self.inside.pipes.items c.args.user.0 c.args.inode (rw (← c.self.view_is) at c.requires.pipe) in
    let list_is = rw c.deref.ensures.value at c.list-list.ensures.list in
    let first = first-told c.args.side _ c.in_ok-call.call.now (sym (first-there _ _ c.self.invariant _ _ _ _ list_is) ∙ sym c.in_ok-call.ensures) in
    let told = waits-told _ _ _ _ (left-own _ _ c.self.invariant _ _ row.0 row.1 _ c.index_mut-rows.ensures.value _ (verdict_on c.args.side c.in_ok-call.call.now) (rw c.in-Waits.is at c.ask.ensures.left)) in
    rw (← c.self.view_is, first, told.0) refl

pub returns-in-Waits-clause-served : goal.returns-in-Waits-clause-served
returns-in-Waits-clause-served c =
    let row = has_row c.self.inside.queues c.self.inside.pipes.items c.args.user.0 c.args.inode (rw (← c.self.view_is) at c.requires.pipe) in
    let list_is = rw c.deref.ensures.value at c.list-list.ensures.list in
    let first = first-told c.args.side _ c.in_ok-call.call.now (sym (first-there _ _ c.self.invariant _ _ _ _ list_is) ∙ sym c.in_ok-call.ensures) in
    let told = waits-told _ _ _ _ (left-own _ _ c.self.invariant _ _ row.0 row.1 _ c.index_mut-rows.ensures.value _ (verdict_on c.args.side c.in_ok-call.call.now) (rw c.in-Waits.is at c.ask.ensures.left)) in
    rw (← c.self.view_is, first, told.0) (ap (shown_shared c.self.inside.queues) (same-own _ _ c.self.invariant _ _ row.0 row.1 _ c.index_mut-rows.ensures.value _ c.ask.ensures.others told.1) ∙ unchanged-own _ _ c.self.invariant _ _ row.0 row.1)

pub returns-in-Waits-clause-same : goal.returns-in-Waits-clause-same
returns-in-Waits-clause-same c =
    let row = has_row c.self.inside.queues c.self.inside.pipes.items c.args.user.0 c.args.inode (rw (← c.self.view_is) at c.requires.pipe) in
    let list_is = rw c.deref.ensures.value at c.list-list.ensures.list in
    let first = first-told c.args.side _ c.in_ok-call.call.now (sym (first-there _ _ c.self.invariant _ _ _ _ list_is) ∙ sym c.in_ok-call.ensures) in
    let told = waits-told _ _ _ _ (left-own _ _ c.self.invariant _ _ row.0 row.1 _ c.index_mut-rows.ensures.value _ (verdict_on c.args.side c.in_ok-call.call.now) (rw c.in-Waits.is at c.ask.ensures.left)) in
    rw (← c.self.view_is) (ap (shown_shared c.self.inside.queues) (same-own _ _ c.self.invariant _ _ row.0 row.1 _ c.index_mut-rows.ensures.value _ c.ask.ensures.others told.1))

pub returns-in-Gives-clause-told : goal.returns-in-Gives-clause-told
returns-in-Gives-clause-told c =
    let row = has_row c.self.inside.queues c.self.inside.pipes.items c.args.user.0 c.args.inode (rw (← c.self.view_is) at c.requires.pipe) in
    let list_is = rw c.deref.ensures.value at c.list-list.ensures.list in
    let first = first-told c.args.side _ c.in_ok-call.call.now (sym (first-there _ _ c.self.invariant _ _ _ _ list_is) ∙ sym c.in_ok-call.ensures) in
    let told = gives-told _ _ _ _ _ (left-own _ _ c.self.invariant _ _ row.0 row.1 _ c.index_mut-rows.ensures.value _ (verdict_on c.args.side c.in_ok-call.call.now) (rw c.in-Gives.is at c.ask.ensures.left)) in
    rw (← c.self.view_is, first, told) refl

pub returns-in-Gives-clause-served : goal.returns-in-Gives-clause-served
returns-in-Gives-clause-served c =
    let row = has_row c.self.inside.queues c.self.inside.pipes.items c.args.user.0 c.args.inode (rw (← c.self.view_is) at c.requires.pipe) in
    let list_is = rw c.deref.ensures.value at c.list-list.ensures.list in
    let first = first-told c.args.side _ c.in_ok-call.call.now (sym (first-there _ _ c.self.invariant _ _ _ _ list_is) ∙ sym c.in_ok-call.ensures) in
    let told = gives-told _ _ _ _ _ (left-own _ _ c.self.invariant _ _ row.0 row.1 _ c.index_mut-rows.ensures.value _ (verdict_on c.args.side c.in_ok-call.call.now) (rw c.in-Gives.is at c.ask.ensures.left)) in
    rw (← c.self.view_is, first, told) (first-own _ _ c.self.invariant _ _ row.0 row.1 _ c.index_mut-rows.ensures.value _ c.ask.ensures.others _ _ list_is (Reply c.in-Gives.status c.ask.new.given) _ c.reply_first.ensures.answered).told_is

pub returns-in-Gives-clause-written : goal.returns-in-Gives-clause-written
returns-in-Gives-clause-written c =
    let row = has_row c.self.inside.queues c.self.inside.pipes.items c.args.user.0 c.args.inode (rw (← c.self.view_is) at c.requires.pipe) in
    let list_is = rw c.deref.ensures.value at c.list-list.ensures.list in
    let first = first-told c.args.side _ c.in_ok-call.call.now (sym (first-there _ _ c.self.invariant _ _ _ _ list_is) ∙ sym c.in_ok-call.ensures) in
    let told = gives-told _ _ _ _ _ (left-own _ _ c.self.invariant _ _ row.0 row.1 _ c.index_mut-rows.ensures.value _ (verdict_on c.args.side c.in_ok-call.call.now) (rw c.in-Gives.is at c.ask.ensures.left)) in
    rw (← c.self.view_is, first, told) (c.reply_first.ensures.written ∙ first-written _ _ c.self.invariant _ _ _ _ list_is (Reply c.in-Gives.status c.ask.new.given))

pub returns-in-Fails-clause-told : goal.returns-in-Fails-clause-told
returns-in-Fails-clause-told c =
    let row = has_row c.self.inside.queues c.self.inside.pipes.items c.args.user.0 c.args.inode (rw (← c.self.view_is) at c.requires.pipe) in
    let list_is = rw c.deref.ensures.value at c.list-list.ensures.list in
    let first = first-told c.args.side _ c.in_ok-call.call.now (sym (first-there _ _ c.self.invariant _ _ _ _ list_is) ∙ sym c.in_ok-call.ensures) in
    let told = fails-told _ _ _ _ _ (left-own _ _ c.self.invariant _ _ row.0 row.1 _ c.index_mut-rows.ensures.value _ (verdict_on c.args.side c.in_ok-call.call.now) (rw c.in-Fails.is at c.ask.ensures.left)) in
    rw (← c.self.view_is, first, told) refl

pub returns-in-Fails-clause-served : goal.returns-in-Fails-clause-served
returns-in-Fails-clause-served c =
    let row = has_row c.self.inside.queues c.self.inside.pipes.items c.args.user.0 c.args.inode (rw (← c.self.view_is) at c.requires.pipe) in
    let list_is = rw c.deref.ensures.value at c.list-list.ensures.list in
    let first = first-told c.args.side _ c.in_ok-call.call.now (sym (first-there _ _ c.self.invariant _ _ _ _ list_is) ∙ sym c.in_ok-call.ensures) in
    let told = fails-told _ _ _ _ _ (left-own _ _ c.self.invariant _ _ row.0 row.1 _ c.index_mut-rows.ensures.value _ (verdict_on c.args.side c.in_ok-call.call.now) (rw c.in-Fails.is at c.ask.ensures.left)) in
    rw (← c.self.view_is, first, told) (first-own _ _ c.self.invariant _ _ row.0 row.1 _ c.index_mut-rows.ensures.value _ c.ask.ensures.others _ _ list_is (Failed c.in-Fails.error) _ c.answer_first.ensures.answered).told_is

pub returns-in-Fails-clause-written : goal.returns-in-Fails-clause-written
returns-in-Fails-clause-written c =
    let row = has_row c.self.inside.queues c.self.inside.pipes.items c.args.user.0 c.args.inode (rw (← c.self.view_is) at c.requires.pipe) in
    let list_is = rw c.deref.ensures.value at c.list-list.ensures.list in
    let first = first-told c.args.side _ c.in_ok-call.call.now (sym (first-there _ _ c.self.invariant _ _ _ _ list_is) ∙ sym c.in_ok-call.ensures) in
    let told = fails-told _ _ _ _ _ (left-own _ _ c.self.invariant _ _ row.0 row.1 _ c.index_mut-rows.ensures.value _ (verdict_on c.args.side c.in_ok-call.call.now) (rw c.in-Fails.is at c.ask.ensures.left)) in
    rw (← c.self.view_is, first, told) (c.answer_first.ensures.written ∙ first-written _ _ c.self.invariant _ _ _ _ list_is (Failed c.in-Fails.error))
