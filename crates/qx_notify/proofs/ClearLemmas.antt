-- All pulses of a process go, one after another.
use Rattle.std.proofs.Common.{◌≡◌, ◌+◌, ◌-◌, ◌<◌, ◌≤◌, ℕ, zero, suc, List, [], ◌∷◌, None, Some, drop, length, set, slice_get, refl, ◌∙◌, ap, arith}
use Rattle.std.proofs.lemmas.List.{get_or-set_same, length-set}
use Rattle.qx_machine.specs.declared.rows.Pulse.{Pulse}
use Rattle.qx_machine.specs.Events.{Events, event_count, first_pulse, no_events, without_first_pulse, without_pulses}
use Rattle.qx_isolation.specs.Lines.{line_at}
use Rattle.qx_notify.specs.Events.{AllEvents, events_of, with_events}
use Rattle.qx_notify.proofs.EventLemmas.{line_at-get, queue-count}

set-again : {A : Type 0} (xs : List A) (i : ℕ) (x y : A) → set (set xs i x) i y ≡ set xs i y
set-again [] i x y = refl
set-again (z ∷ zs) zero x y = refl
set-again (z ∷ zs) (suc i) x y = ap (λ ws. z ∷ ws) (set-again zs i x y)

drop-fewer : {A : Type 0} (xs : List A) → length (drop 1 xs) ≤ length xs
drop-fewer [] = omega arith
drop-fewer (x ∷ xs) = omega arith

drop-less : {A : Type 0} (xs : List A) (x : A) → slice_get xs 0 ≡ Some x → length (drop 1 xs) < length xs
drop-less [] x is = let clash : None ≡ Some x = is in absurd (cc)
drop-less (y ∷ ys) x is = omega arith

no-first : {A : Type 0} (xs : List A) → slice_get xs 0 ≡ None → xs ≡ []
no-first [] is = refl
no-first (x ∷ xs) is = let clash : Some x ≡ None = is in absurd (cc)

module _ (all : AllEvents) (user process : ℕ) (within : user < length all.events) (places : process < length (events_of all user).pulses) where
  abbrev before : Events
  before = events_of all user

  abbrev one_less : AllEvents
  one_less = with_events all user (without_first_pulse process before)

  less-is : events_of one_less user ≡ without_first_pulse process before
  less-is = get_or-set_same all.events user (without_first_pulse process before) no_events within

  fewer : event_count (without_first_pulse process before) ≤ event_count before
  fewer = omega (arith, queue-count before.pulses process (drop 1) places, drop-fewer (line_at before.pulses process))

  -- once one went, as many are left to go
  pub clear-one : with_events one_less user (without_pulses process (events_of one_less user)) ≡ with_events all user (without_pulses process before)
  clear-one =
      let cleared : without_pulses process (without_first_pulse process before) ≡ without_pulses process before = ap (λ qs. record before { pulses = qs }) (set-again before.pulses process (drop 1 (line_at before.pulses process)) []) in
      let counted = ap event_count cleared in
      let events_are : set one_less.events user (without_pulses process (without_first_pulse process before)) ≡ set all.events user (without_pulses process before) = set-again all.events user (without_first_pulse process before) (without_pulses process (without_first_pulse process before)) ∙ ap (set all.events user) cleared in
      let room_is : one_less.room + event_count (without_first_pulse process before) - event_count (without_pulses process (without_first_pulse process before)) ≡ all.room + event_count before - event_count (without_pulses process before) = omega (arith, fewer, counted) in
      let then_is : record { events = set one_less.events user (without_pulses process (without_first_pulse process before)); room = one_less.room + event_count (without_first_pulse process before) - event_count (without_pulses process (without_first_pulse process before)) } ≡ with_events all user (without_pulses process before) = λ i. record { events = events_are i; room = room_is i } in
      ap (λ e. record { events = set one_less.events user (without_pulses process e); room = one_less.room + event_count e - event_count (without_pulses process e) }) less-is ∙ then_is

  pub clear-places : process < length (events_of one_less user).pulses
  clear-places = rw (less-is, length-set before.pulses process (drop 1 (line_at before.pulses process))) places

  -- and one fewer
  pub clear-fewer : (pulse : Pulse) → first_pulse process before ≡ Some pulse → length (line_at (events_of one_less user).pulses process) < length (line_at before.pulses process)
  clear-fewer pulse first =
      let queue : line_at (events_of one_less user).pulses process ≡ drop 1 (line_at before.pulses process) = ap (λ e. line_at e.pulses process) less-is ∙ line_at-get (without_first_pulse process before).pulses process ∙ get_or-set_same before.pulses process (drop 1 (line_at before.pulses process)) [] places in
      rw queue (drop-less (line_at before.pulses process) pulse first)

  -- where there was none, all went
  pub clear-last : first_pulse process before ≡ None → one_less ≡ with_events all user (without_pulses process before)
  clear-last none = ap (λ queue. with_events all user (record before { pulses = set before.pulses process (drop 1 queue) })) (no-first (line_at before.pulses process) none)
