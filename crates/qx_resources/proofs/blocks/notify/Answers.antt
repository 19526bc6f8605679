use Rattle.std.proofs.Common.{rules, ◌≡◌, ◌∙◌, false, inl, inr, Err, Some, sym, ap, subst, ℕ}
use Rattle.std.specs.Prelude.{◌&&◌}
use Rattle.std.proofs.lemmas.Bool.{cases_Bool}
use Rattle.qx_machine.specs.declared.rows.Conditions.{Conditions}
use Rattle.qx_machine.specs.Events.{notified}
use Rattle.qx_machine.specs.Notification.{conditions_at, event_of}
use Rattle.qx_isolation.specs.Rows.{row_at}
use Rattle.qx_notify.specs.Events.{arms_event, events_of, notified_after, status_given, wants_node}
use Rattle.qx_resources.proofs.NotifyLemmas.{notify-did, notify-wanted}
use Rattle.qx_resources.specs.State.{told}
use Rattle.qx_resources.specs.contracts.resources.Resources.{the_view}
use Rattle.qx_resources.proofs.blocks.notify.Goals as goal

pub returns-in_err-told-clause-wanted : goal.returns-in_err-told-clause-wanted
returns-in_err-told-clause-wanted c =
    let k = the_view c.state.inside in
    let tables = c.args.tables.now in
    let there : row_at k.inodes.blocks c.in-Ok.opened.number ≡ Some c.in-Some.block.now = search rules in
    let holding : c.conditions-holding.result ≡ conditions_at (told k tables) (Some c.in-Some.block.now) = rw (← c.state.view_is) at c.conditions-holding.ensures in
    let failed : c.from_residual.result ≡ Err c.in_err-told.field-0.0 = search rules in
    let event = event_of c.in-Ok.opened c.args.wish in
    let user : c.user.result.0 ≡ k.user = search rules in
    let most : c.get-most.result ≡ k.limits.events = search rules in
    let sure = c.in_err-told.ensures.sure in
    rw (failed, c.in-Ok.is, ← c.state.view_is)
    (elim (cases_Bool (arms_event c.args.action event (conditions_at (told k tables) (Some c.in-Some.block.now)) && wants_node k.limits.events event (events_of tables.events k.user))) [
      | inl wants ↦ notify-wanted (told k tables) c.in-Ok.opened c.in-Some.block.now c.args.action c.args.wish there wants
      | inr none ↦ let clash = sure (subst (λ (m : ℕ). (arms_event c.args.action event c.conditions-holding.result && wants_node m event (events_of tables.events c.user.result.0)) ≡ false) (sym most) (subst (λ user. (arms_event c.args.action event c.conditions-holding.result && wants_node k.limits.events event (events_of tables.events user)) ≡ false) (sym user) (subst (λ (h : Conditions). (arms_event c.args.action event h && wants_node k.limits.events event (events_of tables.events k.user)) ≡ false) (sym holding) none))) in absurd (cc)
    ])

pub returns-clause-did : goal.returns-clause-did
returns-clause-did c =
    let k = the_view c.state.inside in
    let tables = c.args.tables.now in
    let there : row_at k.inodes.blocks c.in-Ok.opened.number ≡ Some c.in-Some.block.now = search rules in
    let holding : c.conditions-holding.result ≡ conditions_at (told k tables) (Some c.in-Some.block.now) = rw (← c.state.view_is) at c.conditions-holding.ensures in
    let event = event_of c.in-Ok.opened c.args.wish in
    let told_is : c.in_ok-told.told ≡ status_given (notified k.limits.events c.args.action event c.conditions-holding.result (events_of tables.events k.user)) = search rules in
    let left_is : c.notify.new.self ≡ notified_after tables.events k.user (notified k.limits.events c.args.action event c.conditions-holding.result (events_of tables.events k.user)) = search rules in
    rw (c.in-Ok.is, ← c.state.view_is)
    (notify-did k tables c.in-Ok.opened c.in-Some.block.now c.args.action c.args.wish there (rw (← c.state.view_is) at c.requires.fits) (record { shared = tables.shared; mounts = tables.mounts; events = c.notify.new.self }) c.in_ok-told.told c.map.result
    (told_is ∙ ap (λ (holding : Conditions). status_given (notified k.limits.events c.args.action event holding (events_of tables.events k.user))) holding)
    (λ i. record { shared = tables.shared; mounts = tables.mounts; events = (left_is ∙ ap (λ (holding : Conditions). notified_after tables.events k.user (notified k.limits.events c.args.action event holding (events_of tables.events k.user))) holding) i })
    (search rules))
