-- A user's events stay within the limits, as events come and go.
use Rattle.std.proofs.Common.{◌≡◌, ◌+◌, ◌<◌, ◌≤◌, inl, inr, ℕ, Bool, true, false, not, List, [], ◌∷◌, ◌++◌, length, get_or, length-append, refl, ◌∙◌, arith}
use Rattle.std.specs.Prelude.{◌&&◌, filter, sum_by}
use Rattle.std.specs.List.{AllByRecursion}
use Rattle.std.proofs.lemmas.Bool.{cases_Bool, and_parts}
use Rattle.std.proofs.lemmas.Bool.Decides.{eqb_tells}
use Rattle.std.proofs.lemmas.List.{length-set}
use Rattle.std.proofs.lemmas.List.Elements.{filter-append}
use Rattle.std.proofs.lemmas.List.Sums.{sum_by-set}
use Rattle.std.proofs.lemmas.Option.{unwrap_or-slice_get}
use Rattle.qx_types.specs.declared.limits.TheConstants.Limits.{EVENTS, PROCESSES}
use Rattle.qx_machine.specs.declared.rows.Conditions.{Conditions}
use Rattle.qx_machine.specs.declared.rows.Event.{Event}
use Rattle.qx_machine.specs.declared.rows.Pulse.{Pulse}
use Rattle.qx_machine.specs.Events.{Events, armed_anew, disarmed, event_count, is_due, is_on, pulse_of, triggered, with_pulse, with_pulses}
use Rattle.qx_isolation.specs.Lines.{line_at, with_line}
use Rattle.qx_notify.specs.Events.{AreLimited}

-- ---- fewer events

filter-fewer : (p q : Event → Bool) (events : List Event) → length (filter q (filter p events)) ≤ length (filter q events)
filter-fewer p q [] = omega arith
filter-fewer p q (e ∷ es) = elim (cases_Bool (p e)) [
  | inl stays ↦ rw stays (elim (cases_Bool (q e)) [ inl is ↦ rw is (omega (arith, filter-fewer p q es)) | inr not ↦ rw not (filter-fewer p q es) ])
  | inr goes ↦ rw goes (elim (cases_Bool (q e)) [ inl is ↦ rw is (omega (arith, filter-fewer p q es)) | inr not ↦ rw not (filter-fewer p q es) ])
]

length-fewer : (p : Event → Bool) (events : List Event) → length (filter p events) ≤ length events
length-fewer p [] = omega arith
length-fewer p (e ∷ es) = elim (cases_Bool (p e)) [ inl is ↦ rw is (omega (arith, length-fewer p es)) | inr not ↦ rw not (omega (arith, length-fewer p es)) ]

all-fewer : (P : Event → Type 0) (p : Event → Bool) (events : List Event) → AllByRecursion P events → AllByRecursion P (filter p events)
all-fewer P p [] all = tt
all-fewer P p (e ∷ es) all = elim (cases_Bool (p e)) [ inl is ↦ rw is (all.0, all-fewer P p es all.1) | inr not ↦ rw not (all-fewer P p es all.1) ]

all-push : (P : Event → Type 0) (events : List Event) (event : Event) → AllByRecursion P events → P event → AllByRecursion P (events ++ event ∷ [])
all-push P [] event all here = (here, tt)
all-push P (e ∷ es) event all here = (all.0, all-push P es event all.1 here)

-- once those on a block went, none is on it
none-left : (block : ℕ) (events : List Event) → length (filter (is_on block) (filter (λ event. not (is_on block event)) events)) ≡ 0
none-left block [] = refl
none-left block (e ∷ es) = elim (cases_Bool (is_on block e)) [ inl is ↦ rw is (none-left block es) | inr not ↦ rw not (rw not (none-left block es)) ]

pub limited-disarmed : (block : ℕ) (events : Events) → AreLimited events → AreLimited (disarmed block events)
limited-disarmed block events are = record {
  few = omega (arith, are.few, length-fewer (λ event. not (is_on block event)) events.armed);
  places = are.places;
  processes = all-fewer _ (λ event. not (is_on block event)) events.armed are.processes;
  once = λ other. omega (arith, are.once other, filter-fewer (λ event. not (is_on block event)) (is_on other) events.armed);
}

pub limited-armed : (event : Event) (events : Events) → AreLimited events → event.process ≤ PROCESSES → event_count (disarmed event.block events) < EVENTS → AreLimited (armed_anew event events)
limited-armed event events are process few =
    let left = limited-disarmed event.block events are in
    record {
      few = rw length-append (omega (arith, few));
      places = are.places;
      processes = all-push _ (disarmed event.block events).armed event left.processes process;
      once = λ block. rw (filter-append (is_on block) (disarmed event.block events).armed (event ∷ []), length-append) (elim (eqb_tells event.block block) [
        | inl same ↦ rw same.0 (let none : length (filter (is_on block) (disarmed event.block events).armed) ≡ 0 = rw (← same.1) (none-left event.block events.armed) in omega (arith, none))
        | inr differs ↦ rw differs.0 (omega (arith, left.once block))
      ]);
    }

-- ---- pulses

pub line_at-get : (pulses : List (List Pulse)) (process : ℕ) → line_at pulses process ≡ get_or pulses process []
line_at-get pulses process = unwrap_or-slice_get pulses process []

-- one queue is another
pub queue-count : (pulses : List (List Pulse)) (process : ℕ) (change : List Pulse → List Pulse) → process < length pulses → sum_by length (with_line pulses process change) + length (line_at pulses process) ≡ sum_by length pulses + length (change (line_at pulses process))
queue-count pulses process change within = rw (line_at-get pulses process) (sum_by-set length pulses process (change (get_or pulses process [])) [] within)

pub limited-queue : (events : Events) (process : ℕ) (change : List Pulse → List Pulse) → process ≤ PROCESSES → AreLimited events → length (change (line_at events.pulses process)) ≤ length (line_at events.pulses process) → AreLimited (record events { pulses = with_line events.pulses process change })
limited-queue events process change within are fewer =
    let here : process < length events.pulses = omega (arith, are.places) in
    record {
      few = omega (arith, are.few, fewer, queue-count events.pulses process change here);
      places = length-set events.pulses process _ ∙ are.places;
      processes = are.processes;
      once = are.once;
    }

-- one more pulse stands in a queue
pub pulse-count : (pulses : List (List Pulse)) (process : ℕ) (new : Pulse) → process < length pulses → sum_by length (with_pulse process new pulses) ≡ sum_by length pulses + 1
pulse-count pulses process new within =
    let one : length (line_at pulses process ++ new ∷ []) ≡ length (line_at pulses process) + 1 = rw length-append refl in
    omega (arith, queue-count pulses process (λ queue. queue ++ new ∷ []) within, one)

module _ (gives : Event → Bool) (after : ℕ → Conditions) where
  given-length : (events : List Event) (pulses : List (List Pulse)) → length (with_pulses gives after events pulses) ≡ length pulses
  given-length [] pulses = refl
  given-length (e ∷ es) pulses = elim (cases_Bool (gives e)) [
    | inl is ↦ rw is (given-length es (with_pulse e.process (pulse_of e (after e.block)) pulses) ∙ length-set pulses e.process _)
    | inr not ↦ rw not (given-length es pulses)
  ]

  -- each event that gives a pulse goes
  given-count : (due : Event → Bool) → ((event : Event) → gives event ≡ true → due event ≡ true) → (events : List Event) (pulses : List (List Pulse)) → length pulses ≡ PROCESSES + 1 → AllByRecursion (λ event. event.process ≤ PROCESSES) events
      → length (filter (λ event. not (due event)) events) + sum_by length (with_pulses gives after events pulses) ≤ length events + sum_by length pulses
  given-count due are_due [] pulses places within = omega arith
  given-count due are_due (e ∷ es) pulses places within = elim (cases_Bool (gives e)) [
    | inl is ↦
        let here : e.process < length pulses = omega (arith, within.0, places) in
        let next = with_pulse e.process (pulse_of e (after e.block)) pulses in
        rw (is, are_due e is) (omega (arith, given-count due are_due es next (length-set pulses e.process _ ∙ places) within.1, pulse-count pulses e.process (pulse_of e (after e.block)) here))
    | inr not ↦ rw not (elim (cases_Bool (due e)) [
      | inl goes ↦ rw goes (omega (arith, given-count due are_due es pulses places within.1))
      | inr stays ↦ rw stays (omega (arith, given-count due are_due es pulses places within.1))
    ])
  ]

module _ (lives : ℕ → Bool) (before after : ℕ → Conditions) (events : Events) (are : AreLimited events) where
  -- an event that gives a pulse is due
  is_due-given : (event : Event) → (is_due before after event && lives event.process) ≡ true → is_due before after event ≡ true
  is_due-given event is = (and_parts (is_due before after event) (lives event.process) is).0

  count-triggered : event_count (triggered lives before after events) ≤ event_count events
  count-triggered = given-count (λ event. is_due before after event && lives event.process) after (is_due before after) is_due-given events.armed events.pulses are.places are.processes

  pub limited-triggered : AreLimited (triggered lives before after events)
  limited-triggered = record {
    few = omega (arith, count-triggered, are.few);
    places = given-length (λ event. is_due before after event && lives event.process) after events.armed events.pulses ∙ are.places;
    processes = all-fewer _ (λ event. not (is_due before after event)) events.armed are.processes;
    once = λ block. omega (arith, are.once block, filter-fewer (λ event. not (is_due before after event)) (is_on block) events.armed);
  }
