-- Marks of places: what a place that is noted twice says of all seats.
use Rattle.std.proofs.Common.{◌≡◌, ◌<◌, ◌≤◌, ◌+◌, ◌-◌, ◌∷◌, [], ◌∙◌, Bool, List, ℕ, zero, suc, true, false, ap, sym, arith, get_or, length, map, take, take_all, refl}
use Rattle.std.specs.List.{All, count_by, list_all}
use Rattle.std.specs.Prelude.{◌==◌, MatchBool, if◌then◌else◌}
use Rattle.std.proofs.lemmas.Bool.{eq-eqb}
use Rattle.std.proofs.lemmas.Grind.{common_steps}
use Rattle.std.proofs.lemmas.List.{get_or-map, length-map}
use Rattle.std.proofs.lemmas.List.Elements.{All-get_or, All-more}
use Rattle.std.proofs.lemmas.List.Sums.{AllPass-from_list_all, count_by_more_yes, sum_by_more, sum_by_more_le}
use Rattle.qx_isolation.specs.declared.rows.Entry.{Entry}
use Rattle.qx_storing.specs.declared.seat.Note.{Note}
use Rattle.qx_storing.specs.Notes.{Agrees, StandsIn, rises_from, times_noted}
use Rattle.qx_storing.specs.inner.Marks.{AddsMarks, AgreesSoFar, IsFit, IsUnfit, MarksTwice, marked}

-- no more are counted among the first ones than among all
count_take : {X : Type 0} (p : X → Bool) (xs : List X) (n : ℕ) → count_by p (take n xs) ≤ count_by p xs
count_take p [] zero = omega arith
count_take p [] (suc n) = omega arith
count_take p (x ∷ xs) zero = omega arith
count_take p (x ∷ xs) (suc n) = let h = count_take p xs n in grind (arith, common_steps)

-- a note whose place is marked stands at one that was marked before, or that an earlier note has
pub marks_twice : (old marks : List Bool) (notes : List Note) (j : ℕ) (n : Note) → j < length notes → n ≡ get_or notes j n → 0 < n.at → n.at ≤ length old → AddsMarks old (take j notes) marks → get_or marks (n.at - 1) false ≡ true → MarksTwice old notes
marks_twice old marks notes j n here is some within adds full =
    let at : n.at - 1 + 1 ≡ n.at = omega arith in
    let one : marked marks (n.at - 1) ≡ 1 = ap (λ b. if b then 1 else 0) full in
    let sum = adds (n.at - 1) (omega arith) in
    let more = count_by_more_yes (λ m. m.at == (n.at - 1 + 1)) notes j n here (rw (← is, at) (eq-eqb n.at n.at refl)) in
    let most = count_take (λ m. m.at == (n.at - 1 + 1)) notes (j + 1) in
    (n.at - 1, omega arith, omega (arith, one, sum, more, most))

-- where the notes of the next seat are wrong, or note a place twice, the seats don't agree
unfit_disagrees : (entries : List Entry) (marks : List Bool) (seats : List (List Note)) (k : ℕ) (notes : List Note) → k < length seats → notes ≡ get_or seats k notes
    → AgreesSoFar entries marks (take k seats) → IsUnfit entries marks notes → Agrees entries seats → ⊥
unfit_disagrees entries marks seats k notes here is so wrong h =
    let twice = wrong (rw is (All-get_or (All (StandsIn entries)) seats k notes here h.stand)) (rw is (All-get_or (λ ns. rises_from 0 ns ≡ true) seats k notes here h.rise)) in
    let place = twice.0 in
    let lt : place < length entries = rw (← so.len) twice.1 in
    let most = sum_by_more_le (times_noted (place + 1)) seats k notes here in
    let same : times_noted (place + 1) notes ≡ times_noted (place + 1) (get_or seats k notes) = ap (times_noted (place + 1)) is in
    omega (arith, most, same, so.once place lt, h.once place lt, twice.2)

-- one seat more whose notes fit
fit_agrees : (entries : List Entry) (old new : List Bool) (seats : List (List Note)) (k : ℕ) (notes : List Note) → k < length seats → notes ≡ get_or seats k notes
    → AgreesSoFar entries old (take k seats) → length new ≡ length old → IsFit entries old notes new → AgreesSoFar entries new (take (k + 1) seats)
fit_agrees entries old new seats k notes here is so len fit = record {
  len = len ∙ so.len;
  stand = All-more (All (StandsIn entries)) seats k notes here so.stand (rw (← is) fit.0);
  rise = All-more (λ ns. rises_from 0 ns ≡ true) seats k notes here so.rise (rw (← is) fit.1);
  once = λ place lt.
      let sum = sum_by_more (times_noted (place + 1)) seats k notes here in
      let same : times_noted (place + 1) notes ≡ times_noted (place + 1) (get_or seats k notes) = ap (times_noted (place + 1)) is in
      omega (arith, sum, same, so.once place lt, fit.2 place (rw so.len lt));
}

all_marked : (marks : List Bool) → list_all (λ m. m) marks ≡ true → (place : ℕ) → place < length marks → marked marks place ≡ 1
all_marked marks all place lt = ap (λ b. if b then 1 else 0) (All-get_or (λ m. m ≡ true) marks place false lt (AllPass-from_list_all (λ m. m) marks all))

not_marked : (marks : List Bool) → list_all (λ m. m) marks ≡ false → ((place : ℕ) → place < length marks → marked marks place ≡ 1) → ⊥
not_marked [] none each = cc
not_marked (true ∷ marks) none each = not_marked marks none (λ place lt. each (suc place) (omega arith))
not_marked (false ∷ marks) none each = absurd (omega (arith, each 0 (omega arith)))

-- with all seats, it is the marks that tell
marks_tell : (entries : List Entry) (marks : List Bool) (seats : List (List Note)) (all : Bool) → AgreesSoFar entries marks seats → all ≡ list_all (λ m. m) marks → MatchBool all (Agrees entries seats) (Agrees entries seats → ⊥)
marks_tell entries marks seats true so is = record {
  stand = so.stand;
  rise = so.rise;
  once = λ place lt. sym (so.once place lt) ∙ all_marked marks (sym is) place (rw so.len lt);
}
marks_tell entries marks seats false so is = λ h.
    not_marked marks (sym is) (λ place lt. let lt : place < length entries = rw (← so.len) lt in so.once place lt ∙ h.once place lt)

-- the same of seats whose notes are told by a function
module _ {X : Type 0} (notes_of : X → List Note) (entries : List Entry) (seats : List X) (k : ℕ) where
  here_too : (x : X) (notes : List Note) → k < length seats → x ≡ get_or seats k x → notes ≡ notes_of x → (k < length (map notes_of seats)) × (notes ≡ get_or (map notes_of seats) k notes)
  here_too x notes lt is same = (rw (length-map seats notes_of) lt, same ∙ ap notes_of is ∙ sym (get_or-map notes_of seats k x notes lt))

  pub seat_disagrees : (marks : List Bool) (x : X) (notes : List Note) → k < length seats → x ≡ get_or seats k x → notes ≡ notes_of x → AgreesSoFar entries marks (take k (map notes_of seats)) → IsUnfit entries marks notes → Agrees entries (map notes_of seats) → ⊥
  seat_disagrees marks x notes lt is same =
      let here = here_too x notes lt is same in
      unfit_disagrees entries marks (map notes_of seats) k notes here.0 here.1

  pub seat_agrees : (old new : List Bool) (x : X) (notes : List Note) → k < length seats → x ≡ get_or seats k x → notes ≡ notes_of x → AgreesSoFar entries old (take k (map notes_of seats)) → length new ≡ length old → IsFit entries old notes new → AgreesSoFar entries new (take (k + 1) (map notes_of seats))
  seat_agrees old new x notes lt is same =
      let here = here_too x notes lt is same in
      fit_agrees entries old new (map notes_of seats) k notes here.0 here.1

  pub seats_end : (marks : List Bool) (all : Bool) → length seats ≤ k → AgreesSoFar entries marks (take k (map notes_of seats)) → all ≡ list_all (λ m. m) marks → MatchBool all (Agrees entries (map notes_of seats)) (Agrees entries (map notes_of seats) → ⊥)
  seats_end marks all end so = marks_tell entries marks (map notes_of seats) all (rw (take_all k (map notes_of seats) (rw (length-map seats notes_of) end)) at so)
