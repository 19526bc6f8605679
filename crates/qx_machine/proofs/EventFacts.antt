-- Which events are due rests on the conditions of their blocks alone.
use Rattle.std.proofs.Common.{◌≡◌, inl, inr, ℕ, Bool, true, false, not, List, [], ◌∷◌, refl, sym, ◌∙◌, ap}
use Rattle.std.proofs.Math.Bool.{and-false, and-not_self}
use Rattle.std.specs.Prelude.{filter, ◌&&◌, ◌||◌}
use Rattle.std.specs.List.{AllByRecursion}
use Rattle.std.proofs.lemmas.Bool.{cases_Bool, and_parts}
use Rattle.qx_types.specs.declared.flags.TheConstants.Conds.{INPUT, OUTPUT}
use Rattle.qx_machine.specs.declared.rows.Conditions.{Conditions}
use Rattle.qx_machine.specs.declared.rows.Event.{Event}
use Rattle.qx_machine.specs.declared.rows.Pulse.{Pulse}
use Rattle.qx_machine.specs.Events.{Events, come_to_hold, is_any, is_due, is_wanted, pulse_of, triggered, wanted_of, with_pulse, with_pulses}

module _ (before after other later : ℕ → Conditions) where
  -- an event is due by both alike, and gives the same pulse then
  pub record Agree (event : Event) : Type 0 where
    pub due : is_due before after event ≡ is_due other later event
    pub holding : is_due before after event ≡ true → after event.block ≡ later event.block

  stay-alike : (events : List Event) → AllByRecursion Agree events → filter (λ event. not (is_due before after event)) events ≡ filter (λ event. not (is_due other later event)) events
  stay-alike [] agree = refl
  stay-alike (e ∷ es) agree = elim (cases_Bool (is_due before after e)) [
    | inl is ↦ let also : is_due other later e ≡ true = sym agree.0.due ∙ is in rw (is, also) (stay-alike es agree.1)
    | inr not ↦ let also : is_due other later e ≡ false = sym agree.0.due ∙ not in rw (not, also) (ap (λ xs. e ∷ xs) (stay-alike es agree.1))
  ]

  -- by any two tests
  given-alike : (one two : Event → Bool) (events : List Event) (pulses : List (List Pulse)) → AllByRecursion (λ event. (one event ≡ two event) × (one event ≡ true → after event.block ≡ later event.block)) events → with_pulses one after events pulses ≡ with_pulses two later events pulses
  given-alike one two [] pulses agree = refl
  given-alike one two (e ∷ es) pulses agree = elim (cases_Bool (one e)) [
    | inl is ↦ let also : two e ≡ true = sym agree.0.0 ∙ is in rw (is, also) (given-alike one two es (with_pulse e.process (pulse_of e (after e.block)) pulses) agree.1 ∙ ap (λ c. with_pulses two later es (with_pulse e.process (pulse_of e c) pulses)) (agree.0.1 is))
    | inr not ↦ let also : two e ≡ false = sym agree.0.0 ∙ not in rw (not, also) (given-alike one two es pulses agree.1)
  ]

  module _ (lives : ℕ → Bool) where
    both : (events : List Event) → AllByRecursion Agree events
        → AllByRecursion (λ event. ((is_due before after event && lives event.process) ≡ (is_due other later event && lives event.process)) × ((is_due before after event && lives event.process) ≡ true → after event.block ≡ later event.block)) events
    both [] agree = tt
    both (e ∷ es) agree = ((ap (λ due. due && lives e.process) agree.0.due, λ gives. agree.0.holding (and_parts _ _ gives).0), both es agree.1)

    pub triggered-alike : (events : Events) → AllByRecursion Agree events.armed → triggered lives before after events ≡ triggered lives other later events
    triggered-alike events agree =
        let armed = stay-alike events.armed agree in
        let pulses = given-alike (λ event. is_due before after event && lives event.process) (λ event. is_due other later event && lives event.process) events.armed events.pulses (both events.armed agree) in
        λ i. record { armed = armed i; pulses = pulses i }

-- ---- nothing is due where all conditions are as they were

none-new : (wanted_input wanted_output : Bool) (c : Conditions) → ((wanted_input && (c.input && not c.input)) || (wanted_output && (c.output && not c.output))) ≡ false
none-new wanted_input wanted_output c = rw (and-not_self c.input, and-not_self c.output, and-false wanted_input, and-false wanted_output) refl

module _ (before after : ℕ → Conditions) where
  pub not-due : (event : Event) → before event.block ≡ after event.block → is_due before after event ≡ false
  not-due event same = ap (λ c. is_any (wanted_of event.conditions (come_to_hold c (after event.block)))) same ∙ none-new (is_wanted event.conditions INPUT) (is_wanted event.conditions OUTPUT) (after event.block)

  all-stay : (events : List Event) → AllByRecursion (λ event. before event.block ≡ after event.block) events → filter (λ event. not (is_due before after event)) events ≡ events
  all-stay [] same = refl
  all-stay (e ∷ es) same = rw (not-due e same.0) (ap (λ xs. e ∷ xs) (all-stay es same.1))

  none-given : (due : Event → Bool) (events : List Event) (pulses : List (List Pulse)) → AllByRecursion (λ event. due event ≡ false) events → with_pulses due after events pulses ≡ pulses
  none-given due [] pulses none = refl
  none-given due (e ∷ es) pulses none = rw none.0 (none-given due es pulses none.1)

  module _ (lives : ℕ → Bool) where
    none-due : (events : List Event) → AllByRecursion (λ event. before event.block ≡ after event.block) events → AllByRecursion (λ event. (is_due before after event && lives event.process) ≡ false) events
    none-due [] same = tt
    none-due (e ∷ es) same = (ap (λ due. due && lives e.process) (not-due e same.0), none-due es same.1)

    pub triggered-none : (events : Events) → AllByRecursion (λ event. before event.block ≡ after event.block) events.armed → triggered lives before after events ≡ events
    triggered-none events same =
        let armed = all-stay events.armed same in
        let pulses = none-given (λ event. is_due before after event && lives event.process) events.armed events.pulses (none-due events.armed same) in
        λ i. record { armed = armed i; pulses = pulses i }
