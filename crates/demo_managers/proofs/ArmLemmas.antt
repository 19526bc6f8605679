-- A notification that wants memory arms one event more.
use Rattle.std.proofs.Common.{◌≡◌, ◌<◌, inl, inr, ℕ, Bool, true, false, not, List, [], ◌∷◌, Option, Some, None, Ok, length-append, refl, ap, arith}
use Rattle.std.specs.Prelude.{◌&&◌, filter, is_some, nat_lt}
use Rattle.std.specs.List.{list_any}
use Rattle.std.proofs.lemmas.Bool.{cases_Bool, and_parts}
use Rattle.std.proofs.lemmas.Bool.Decides.{nat_tests}
use Rattle.qx_types.specs.declared.fields.NotifyAction.{NotifyAction}
use Rattle.qx_types.specs.declared.fields.NotifyAction.TheVariants.{Poll, PollArm, TranArm}
use Rattle.qx_types.specs.declared.limits.TheConstants.Limits.{EVENTS}
use Rattle.qx_machine.specs.declared.rows.Conditions.{Conditions}
use Rattle.qx_machine.specs.declared.rows.Event.{Event}
use Rattle.qx_machine.specs.declared.rows.Ocb.{Ocb}
use Rattle.qx_machine.specs.declared.rows.Opened.{Opened}
use Rattle.qx_machine.specs.declared.rows.PulseWish.{PulseWish}
use Rattle.qx_machine.specs.Events.{Events, armed_anew, disarmed, event_count, is_any, is_on, notified, wanted_of}
use Rattle.qx_machine.specs.Notification.{event_of}
use Rattle.qx_isolation.specs.Rows.{row_at}
use Rattle.qx_machine.specs.Wants.{is_done_so}
use Rattle.qx_notify.specs.Events.{arms_event, wants_node}
use Rattle.demo_managers.specs.Null.{Told, got_events, holding, notify_deed}

not-true : (b : Bool) → not b ≡ true → b ≡ false
not-true true is = let clash : false ≡ true = is in absurd (cc)
not-true false is = refl

-- where nothing is on the block, nothing goes
all-stay : (block : ℕ) (events : List Event) → list_any (is_on block) events ≡ false → filter (λ event. not (is_on block event)) events ≡ events
all-stay block [] none = refl
all-stay block (e ∷ es) none = elim (cases_Bool (is_on block e)) [
  | inl is ↦ let clash : true ≡ false = rw is at none in absurd (cc)
  | inr other ↦ rw other (ap (λ es. e ∷ es) (all-stay block es (rw other at none)))
]

module _ (event : Event) (events : Events) (wants : wants_node EVENTS event events ≡ true) where
  count-left : event_count (disarmed event.block events) ≡ event_count events
  count-left = let own = and_parts _ _ wants in ap (λ armed. event_count (record events { armed = armed })) (all-stay event.block events.armed (not-true _ own.0))

  few : nat_lt (event_count (disarmed event.block events)) EVENTS ≡ true
  few = rw count-left (and_parts _ _ wants).1

  pub one-more : nat_lt (event_count events) (event_count (armed_anew event events)) ≡ true
  one-more =
      let more : event_count events < event_count (armed_anew event events) = omega (arith, length-append (disarmed event.block events).armed (event ∷ []), count-left) in
      grind (arith, nat_tests)

  -- what a notification that arms comes to
  pub armed : (action : NotifyAction) (conditions : Conditions) → arms_event action event conditions ≡ true → notified EVENTS action event conditions events ≡ Ok (record { status = 0; events = armed_anew event events })
  armed Poll conditions arms = let clash : false ≡ true = arms in absurd (cc)
  armed TranArm conditions arms = rw few refl
  armed PollArm conditions arms = rw (not-true (is_any (wanted_of event.conditions conditions)) arms, few) refl

some-of : (there : Option Ocb) → is_some there ≡ true → (block : Ocb) × (there ≡ Some block)
some-of (Some block) is = (block, refl)
some-of None is = let clash : false ≡ true = is in absurd (cc)

pub wanted : (own : Told) (opened : Opened) (action : NotifyAction) (wish : PulseWish) → is_some (row_at own.blocks opened.number) ≡ true → (arms_event action (event_of opened wish) holding && wants_node EVENTS (event_of opened wish) own.events) ≡ true → is_done_so got_events own (notify_deed own opened action wish) ≡ true
wanted own opened action wish there arms =
    let event = event_of opened wish in
    let each = and_parts (arms_event action event holding) (wants_node EVENTS event own.events) arms in
    rw ((some-of (row_at own.blocks opened.number) there).1, armed event own.events each.1 action holding each.0) (one-more event own.events each.1)
