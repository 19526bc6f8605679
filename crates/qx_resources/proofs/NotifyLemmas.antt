-- What a notification comes to, by what the events tell of it.
use Rattle.std.proofs.Common.{◌≡◌, ◌+◌, ◌<◌, ◌++◌, inl, inr, ℕ, true, false, not, List, [], ◌∷◌, Some, Result, Ok, Err, MatchResult, IsTrue, length-append, refl, sym, ap, ◌∙◌, subst, arith}
use Rattle.std.specs.Prelude.{◌&&◌, filter, nat_lt}
use Rattle.std.specs.List.{list_any}
use Rattle.std.proofs.lemmas.Bool.{and_parts, cases_Bool}
use Rattle.std.proofs.lemmas.Bool.Decides.{nat_tests}
use Rattle.std.proofs.lemmas.List.{get_or-set_same}
use Rattle.qx_base.specs.declared.errno.Errno.{Errno}
use Rattle.qx_types.specs.declared.fields.NotifyAction.{NotifyAction}
use Rattle.qx_types.specs.declared.fields.NotifyAction.TheVariants.{Poll, PollArm, TranArm}
use Rattle.qx_machine.specs.declared.rows.Conditions.{Conditions}
use Rattle.qx_machine.specs.declared.rows.Effect.TheVariants.{Keeps}
use Rattle.qx_machine.specs.declared.rows.Event.{Event}
use Rattle.qx_machine.specs.declared.rows.Ocb.{Ocb}
use Rattle.qx_machine.specs.declared.rows.Opened.{Opened}
use Rattle.qx_machine.specs.declared.rows.PulseWish.{PulseWish}
use Rattle.qx_machine.specs.Events.{Events, Notified, armed_anew, arming, disarmed, event_count, is_any, is_on, no_events, notified, wanted_of}
use Rattle.qx_machine.specs.Functions.{reply_alone}
use Rattle.qx_isolation.specs.Judgements.{◌>>=◌}
use Rattle.qx_machine.specs.Notification.{conditions_at, event_of, notify_block}
use Rattle.qx_machine.specs.Resources.{Resources}
use Rattle.qx_isolation.specs.Rows.{row_at}
use Rattle.qx_machine.specs.Wants.{got_events, is_done_so}
use Rattle.qx_notify.specs.Events.{arms_event, events_of, notified_after, status_given, wants_node}
use Rattle.qx_notify.proofs.ArmLemmas.{arm-few}
use Rattle.qx_pipes.proofs.PipesLemmas.{given-same}
use Rattle.qx_resmgr.specs.Deeds.{Did}
use Rattle.qx_resmgr.specs.declared.functions.Done.{Done}
use Rattle.qx_resmgr.specs.declared.functions.Done.TheVariants.{Reply}
use Rattle.qx_resources.specs.State.{HasUser, Kept, state, told}
use Rattle.qx_resources.specs.declared.tables.Tables.{Tables}

-- ---- what wants memory

none-on : (block : ℕ) (events : List Event) → list_any (is_on block) events ≡ false → filter (λ event. not (is_on block event)) events ≡ events
none-on block [] none = refl
none-on block (event ∷ events) none = elim (cases_Bool (is_on block event)) [
  | inl on ↦ let clash : true ≡ false = rw on at none in absurd (cc)
  | inr off ↦ rw off (ap (λ rest. event ∷ rest) (none-on block events (rw off at none)))
]

module _ (most : ℕ) (event : Event) (events : Events) (wants : wants_node most event events ≡ true) where
  none : list_any (is_on event.block) events.armed ≡ false
  none = elim (cases_Bool (list_any (is_on event.block) events.armed)) [
    | inl any ↦ let clash : false ≡ true = rw any at wants in absurd (cc)
    | inr nobody ↦ nobody
  ]

  same : disarmed event.block events ≡ events
  same = ap (λ armed. record events { armed = armed }) (none-on event.block events.armed none)

  few : event_count events < most
  few = let test : nat_lt (event_count events) most ≡ true = (and_parts (not (list_any (is_on event.block) events.armed)) (nat_lt (event_count events) most) wants).1 in grind (arith, nat_tests)

  more : nat_lt (event_count events) (event_count (armed_anew event events)) ≡ true
  more =
      let count : event_count (armed_anew event events) ≡ event_count events + 1 = ap (λ (e : Events). event_count (record events { armed = e.armed ++ event ∷ [] })) same ∙ search (length-append, arith) in
      grind (arith, nat_tests)

  armed : arming most event events ≡ Ok (record { status = 0; events = armed_anew event events })
  armed = rw (arm-few most event events (subst (λ (e : Events). event_count e < most) (sym same) few)) refl

  -- what arms then leaves more events
  pub arms-more : (action : NotifyAction) (holding : Conditions) → arms_event action event holding ≡ true → notified most action event holding events ≡ Ok (record { status = 0; events = armed_anew event events })
  arms-more Poll holding arms = absurd (cc)
  arms-more TranArm holding arms = armed
  arms-more PollArm holding arms = elim (cases_Bool (is_any (wanted_of event.conditions holding))) [
    | inl any ↦ let clash : false ≡ true = rw any at arms in absurd (cc)
    | inr quiet ↦ rw quiet armed
  ]

module _ (r : Resources) (opened : Opened) (block : Ocb) (action : NotifyAction) (wish : PulseWish) (there : row_at r.inodes.blocks opened.number ≡ Some block) where
  abbrev event : Event
  event = event_of opened wish

  pub notify-wanted : (arms_event action event (conditions_at r (Some block)) && wants_node r.limits.events event r.events) ≡ true → IsTrue (is_done_so got_events r (notify_block r opened action wish))
  notify-wanted both =
      let parts = and_parts (arms_event action event (conditions_at r (Some block))) (wants_node r.limits.events event r.events) both in
      rw (there, arms-more r.limits.events event r.events parts.1 action (conditions_at r (Some block)) parts.0) (more r.limits.events event r.events parts.1)

-- ---- what becomes of the events

module _ (k : Kept) (w : Tables) (opened : Opened) (block : Ocb) (action : NotifyAction) (wish : PulseWish) (there : row_at k.inodes.blocks opened.number ≡ Some block) (has : HasUser k w) where
  abbrev meant : Result Notified Errno
  meant = notified k.limits.events action (event_of opened wish) (conditions_at (told k w) (Some block)) (events_of w.events k.user)

  abbrev left_by : Result Notified Errno → Tables
  left_by meant = record w { events = notified_after w.events k.user meant }

  did-by : (meant : Result Notified Errno) (given : Result ℕ Errno) (result : Result Done Errno) → given ≡ status_given meant → MatchResult given (λ status. result ≡ Ok (Reply status Keeps)) (λ error. result ≡ Err error)
      → Did state k w k (left_by meant) [] result (meant >>= (λ given. Ok (reply_alone given.status [] Keeps (record (told k w) { events = given.events }))))
  did-by (Ok notified) (Ok status) result is gives =
      let same : status ≡ notified.status = cc in
      rw (gives, same) (
        refl,
        ap (λ events. record (told k w) { events = events }) (get_or-set_same w.events.events k.user notified.events no_events has.events),
        λ i. record (left_by (Ok notified)) { shared = given-same w.shared k.user i },
        refl,
      )
  did-by (Err error) (Err given) result is gives = let same : given ≡ error = cc in rw gives (same, refl, refl, refl)
  did-by (Ok notified) (Err given) result is gives = absurd (cc)
  did-by (Err error) (Ok status) result is gives = absurd (cc)

  pub notify-did : (v : Tables) (given : Result ℕ Errno) (result : Result Done Errno) → given ≡ status_given meant → v ≡ left_by meant → MatchResult given (λ status. result ≡ Ok (Reply status Keeps)) (λ error. result ≡ Err error) → Did state k w k v [] result (notify_block (told k w) opened action wish)
  notify-did v given result is left gives = rw (left, there) (did-by meant given result is gives)
