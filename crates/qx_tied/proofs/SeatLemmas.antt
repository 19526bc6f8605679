-- What was done at a seat, with events more, and how much was tried there.
use Rattle.std.proofs.Common.{◌≡◌, ◌≢◌, ◌∙◌, ◌∷◌, ◌++◌, ◌==◌, ◌+◌, ◌<◌, [], List, ℕ, Bool, true, false, zero, suc, length, map, refl, ap, sym, subst, arith, if◌then◌else◌, ◌≤◌, slice_index_or, slice_set, length-append, ne_eqb}
use Rattle.std.proofs.lemmas.List.{get_or-set_same, get_or-set_other, length-set}
use Rattle.std.proofs.lemmas.Bool.Decides.{nat_tests}
use Rattle.std.proofs.lemmas.Bool.{eq-eqb}
use mathlib.Core.List.{IsPrefix}
use Rattle.crossbeam_utils.specs.Padded.{padded_value}
use Rattle.crossbeam_utils.specs.declared.cache_padded.CachePadded.{CachePadded}
use Rattle.qx_types.specs.declared.step.Step.{Step}
use Rattle.qx_isolation.specs.declared.rows.Entry.{Entry}
use Rattle.qx_machine.specs.Machine.{World, step}
use Rattle.qx_machine.specs.Runs.{world_after}
use Rattle.qx_tied.specs.declared.event.Event.{Event}
use Rattle.qx_tied.specs.declared.event.Event.TheVariants.{Tried, CameBack}
use Rattle.qx_tied.specs.declared.event.Tagged.{Tagged}
use Rattle.qx_tied.specs.Tied.{Known, came_back, entry, own_from, steps_of, tagged, taken}
use Rattle.qx_tied.specs.inner.Counts.{AreCounts, GoesOn, IsIdle, seat_of, tries_at}
use Rattle.qx_tied.proofs.EventLemmas.{taken-append}

-- ---- one step more

abbrev entry_at : World → Tagged → Entry
entry_at w t = entry t.step (step w t.step).outcome

more : (b : Bool) (e : Entry) (xs ys zs : List Entry) → xs ≡ ys ++ zs → (if b then e ∷ xs else xs) ≡ (if b then e ∷ ys else ys) ++ zs
more true e xs ys zs is = ap (λ l. e ∷ l) is
more false e xs ys zs is = is

own-append : (seat : ℕ) (w : World) (steps later : List Tagged) → own_from seat w (steps ++ later) ≡ own_from seat w steps ++ own_from seat (world_after w (steps_of steps)) later
own-append seat w [] later = refl
own-append seat w (t ∷ steps) later = more (t.seat == seat) _ _ _ _ (own-append seat (step w t.step).world steps later)

pub own_more : (seat : ℕ) (w : World) (steps : List Tagged) (e : Step) → own_from seat w (steps ++ tagged seat e ∷ []) ≡ own_from seat w steps ++ entry e (step (world_after w (steps_of steps)) e).outcome ∷ []
own_more seat w steps e =
    own-append seat w steps (tagged seat e ∷ [])
    ∙ ap (λ (b : Bool). own_from seat w steps ++ (if b then entry e (step (world_after w (steps_of steps)) e).outcome ∷ [] else [])) (eq-eqb seat seat refl)

-- ---- how much was tried

pub tries-append : (seat : ℕ) (events later : List Event) → tries_at seat (events ++ later) ≡ tries_at seat events + tries_at seat later
tries-append seat [] later = omega arith
tries-append seat (e ∷ events) later = by (seat_of e == seat) _ _ _ (tries-append seat events later)
  where
    by : (b : Bool) (n k m : ℕ) → n ≡ k + m → (if b then suc n else n) ≡ (if b then suc k else k) + m
    by true n k m is = omega (arith, is)
    by false n k m is = is

pub tries-length : (seat : ℕ) (events : List Event) → tries_at seat events ≤ length events
tries-length seat [] = omega arith
tries-length seat (e ∷ events) = by (seat_of e == seat) _ _ (tries-length seat events)
  where
    by : (b : Bool) (n k : ℕ) → n ≤ k → (if b then suc n else n) ≤ suc k
    by true n k le = omega (arith, le)
    by false n k le = omega (arith, le)

-- ---- no event more of a seat

one_less : (b : Bool) (n : ℕ) → (if b then suc n else n) ≡ 0 → (b ≡ false) × (n ≡ 0)
one_less true n is = absurd (omega (arith, is))
one_less false n is = (refl, is)

-- of a step that was tried, by whether it came back and whether it was tried there
abbrev shown : Bool → Bool → Entry → List Entry → List Entry → List Entry
shown back here e without others = if back then without else (if here then e ∷ others else others)

own-tried : (seat : ℕ) (w : World) (t : Tagged) (events : List Event)
    → own_from seat w (taken (Tried t ∷ events)) ≡ shown (came_back t.seat events) (t.seat == seat) (entry_at w t) (own_from seat w (taken events)) (own_from seat (step w t.step).world (taken events))
own-tried seat w t events = by (came_back t.seat events)
  where
    by : (b : Bool) → own_from seat w (if b then taken events else t ∷ taken events) ≡ shown b (t.seat == seat) (entry_at w t) (own_from seat w (taken events)) (own_from seat (step w t.step).world (taken events))
    by true = refl
    by false = refl

-- with no event of the seat nothing was done there
none_done : (seat : ℕ) (w : World) (events : List Event) → tries_at seat events ≡ 0 → own_from seat w (taken events) ≡ []
none_done seat w [] none = refl
none_done seat w (CameBack at ∷ events) none = none_done seat w events ((one_less (at == seat) (tries_at seat events) none).1)
none_done seat w (Tried t ∷ events) none =
    let later = (one_less (t.seat == seat) (tries_at seat events) none).1 in
    own-tried seat w t events
    ∙ by (came_back t.seat events) (t.seat == seat) (one_less (t.seat == seat) (tries_at seat events) none).0 _ _ (none_done seat w events later) (none_done seat (step w t.step).world events later)
  where
    by : (back here : Bool) → here ≡ false → (without others : List Entry) → without ≡ [] → others ≡ [] → shown back here (entry_at w t) without others ≡ []
    by true here apart without others one other = one
    by false true apart without others one other = absurd (cc apart)
    by false false apart without others one other = other

-- what came back first of all was tried at another seat
other_back : (seat at : ℕ) (events : List Event) → tries_at seat events ≡ 0 → came_back at events ≡ true → (at == seat) ≡ false
other_back seat at [] none back = absurd cc
other_back seat at (Tried t ∷ events) none back = absurd cc
other_back seat at (CameBack by ∷ events) none back =
    let other : (by == seat) ≡ false = (one_less (by == seat) (tries_at seat events) none).0 in
    grind (arith, nat_tests)

back-append : (at : ℕ) (e : Event) (events later : List Event) → came_back at (e ∷ events ++ later) ≡ came_back at (e ∷ events)
back-append at (Tried t) events later = refl
back-append at (CameBack by) events later = refl

-- with no event more of the seat no more was done there, and no less
pub none_more : (seat : ℕ) (w : World) (events later : List Event) → tries_at seat later ≡ 0 → own_from seat w (taken (events ++ later)) ≡ own_from seat w (taken events)
none_more seat w [] later none = none_done seat w later none
none_more seat w (CameBack at ∷ events) later none = none_more seat w events later none
none_more seat w (Tried t ∷ []) later none =
    own-tried seat w t later
    ∙ by (came_back t.seat later) (t.seat == seat) (other_back seat t.seat later none) _ _ (none_done seat w later none) (none_done seat (step w t.step).world later none)
    ∙ sym (own-tried seat w t [])
  where
    by : (back here : Bool) → (back ≡ true → here ≡ false) → (without others : List Entry) → without ≡ [] → others ≡ [] → shown back here (entry_at w t) without others ≡ shown false here (entry_at w t) [] []
    by true true apart without others one other = absurd (cc (apart refl))
    by true false apart without others one other = one
    by false here apart without others one other = ap (λ l. shown false here (entry_at w t) without l) other
none_more seat w (Tried t ∷ e ∷ events) later none =
    own-tried seat w t (e ∷ events ++ later)
    ∙ (λ i. shown (back-append t.seat e events later i) (t.seat == seat) (entry_at w t) (none_more seat w (e ∷ events) later none i) (none_more seat (step w t.step).world (e ∷ events) later none i))
    ∙ sym (own-tried seat w t (e ∷ events))

-- a seat whose count is the run's knows all that was done there
pub whole : (seat : ℕ) (w : World) (old now : List Event) → IsIdle seat old now → own_from seat w (taken now) ≡ own_from seat w (taken old)
whole seat w old now idle =
    let later = idle.0.0 in
    let is : old ++ later ≡ now = idle.0.1 in
    let count : tries_at seat old + tries_at seat later ≡ tries_at seat now = sym (tries-append seat old later) ∙ ap (tries_at seat) is in
    let none : tries_at seat later ≡ 0 = omega (arith, count, idle.1) in
    ap (λ l. own_from seat w (taken l)) (sym is) ∙ none_more seat w old later none

-- ---- counts

-- one event more of a seat, and two
pub goes_tried : (events : List Event) (t : Tagged) → GoesOn t.seat 1 events (events ++ Tried t ∷ [])
goes_tried events t = record {
  later = Tried t ∷ [];
  is = refl;
  here = ap (λ (b : Bool). if b then suc zero else zero) (eq-eqb t.seat t.seat refl);
  apart = λ other apart. ap (λ (b : Bool). if b then suc zero else zero) (ne_eqb t.seat other (λ same. apart (sym same)));
}

pub goes_back : (events : List Event) (t : Tagged) → GoesOn t.seat 2 events (events ++ Tried t ∷ CameBack t.seat ∷ [])
goes_back events t = record {
  later = Tried t ∷ CameBack t.seat ∷ [];
  is = refl;
  here = ap (λ (b : Bool). if b then suc (if b then suc zero else zero) else (if b then suc zero else zero)) (eq-eqb t.seat t.seat refl);
  apart = λ other apart. ap (λ (b : Bool). if b then suc (if b then suc zero else zero) else (if b then suc zero else zero)) (ne_eqb t.seat other (λ same. apart (sym same)));
}

-- the count of the seat then
pub kept_count : (seat count k : ℕ) (old events now : List Event) (known : Known) → record { seat = seat; events = old } ≡ known → k ≡ tries_at seat old → IsIdle known.seat known.events events → GoesOn known.seat count events now → k + count ≡ tries_at seat now
kept_count seat count k old events now known known_is is idle more =
    let seat_is : seat ≡ known.seat = ap (λ s. s.seat) known_is in
    let long = tries-append known.seat events more.later in
    let here = more.here in
    let same = idle.1 in
    let known_here : k ≡ tries_at known.seat known.events = is ∙ ap (λ s. tries_at s.seat s.events) known_is in
    omega (arith, known_here, same, here, long) ∙ ap (tries_at known.seat) (sym more.is) ∙ ap (λ n. tries_at n now) (sym seat_is)

-- and of all
pub kept_counts : (counts : List (CachePadded ℕ)) (seat count : ℕ) (one : CachePadded ℕ) (events now : List Event) → seat < length counts → AreCounts counts events → padded_value one ≡ tries_at seat now → GoesOn seat count events now
    → AreCounts (slice_set counts seat one) now
kept_counts counts seat count one events now lt are is more other any within = by (seat == other) refl
  where
    by : (b : Bool) → (seat == other) ≡ b → padded_value (slice_index_or (slice_set counts seat one) other any) ≡ tries_at other now
    by true same =
        let here : seat ≡ other = grind (arith, nat_tests) in
        subst (λ (j : ℕ). padded_value (slice_index_or (slice_set counts seat one) j any) ≡ tries_at j now) here (ap padded_value (get_or-set_same counts seat one any lt) ∙ is)
    by false differ =
        let apart : other ≢ seat = grind (arith, nat_tests) in
        let long = tries-append other events more.later in
        let rest = more.apart other apart in
        let same : tries_at other events ≡ tries_at other (events ++ more.later) = omega (arith, long, rest) in
        ap padded_value (get_or-set_other counts seat other one any apart) ∙ are other any (subst (λ (l : ℕ). other < l) (length-set counts seat one) within) ∙ same ∙ ap (tries_at other) (sym more.is)
