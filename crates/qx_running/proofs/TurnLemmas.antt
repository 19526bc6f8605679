-- Lines that are as urgent take turns.
use Rattle.std.proofs.Common.{◌≡◌, ◌≢◌, ◌∙◌, ◌++◌, ◌+◌, ◌-◌, ◌<◌, ◌≤◌, ℕ, Bool, true, false, Option, Some, ap, arith, drop, find, ◌⊎◌, inl, inr, le-leb, length, refl, slice_get, sym, take}
use Rattle.std.specs.Prelude.{if◌then◌else◌, nat_le}
use Rattle.std.specs.List.{position_or_len}
use Rattle.std.proofs.lemmas.Bool.{cases_lt, lt-leb}
use Rattle.std.proofs.lemmas.List.{length-drop, length-take}
use Rattle.std.proofs.lemmas.List.Folds.{find_at}
use Rattle.std.proofs.lemmas.List.Sums.{fails_before_first}
use Rattle.std.proofs.lemmas.Option.{get_or_from_slice_get, slice_get_within}
use Rattle.circular_buffer.proofs.Places.{slice_get-append_left, slice_get-append_right, slice_get-drop, slice_get-take}
use Rattle.qx_types.specs.Managers.{manager_count, manager_number, managers}
use Rattle.qx_types.specs.declared.names.Manager.{Manager}
use Rattle.qx_types.specs.declared.names.Manager.TheVariants.{Ram}
use Rattle.qx_types.proofs.Managers.{count_managers, manager_at, number_at, number_below, same_manager}
use Rattle.qx_running.specs.Running.{stand_before}

-- ---- how many of so many stand before one by its number

abbrev before : ℕ → ℕ → ℕ → ℕ
before count turn number = if nat_le turn number then number - turn else count - turn + number

behind_turn : (count turn number : ℕ) → turn ≤ number → before count turn number ≡ number - turn
behind_turn count turn number le = ap (λ b. if b then number - turn else count - turn + number) (le-leb turn number le)

before_turn : (count turn number : ℕ) → number < turn → before count turn number ≡ count - turn + number
before_turn count turn number lt = ap (λ b. if b then number - turn else count - turn + number) (lt-leb turn number lt)

less_of : (a b : ℕ) → a ≤ b → a ≢ b → a < b
less_of a b le differs = elim (cases_lt a b) [
  | inl lt ↦ lt
  | inr ge ↦ absurd (differs (omega (arith, le, ge)))
]

-- ---- the managers from a turn on, and then those before it

turned_at : (turn : ℕ) (manager : Manager) → slice_get (drop turn managers ++ take turn managers) (stand_before turn manager) ≡ Some manager
turned_at turn manager =
    let number = manager_number manager in
    let below = number_below manager in
    let parted : length (drop turn managers) ≡ manager_count - turn = length-drop turn managers ∙ ap (λ n. n - turn) count_managers in
    elim (cases_lt number turn) [
      | inl lt ↦
          ap (slice_get (drop turn managers ++ take turn managers)) (before_turn manager_count turn number lt)
          ∙ slice_get-append_right (drop turn managers) (take turn managers) (manager_count - turn + number) number (ap (λ n. n + number) (sym parted))
          ∙ slice_get-take turn managers number lt ∙ manager_at manager
      | inr le ↦
          ap (slice_get (drop turn managers ++ take turn managers)) (behind_turn manager_count turn number le)
          ∙ slice_get-append_left (drop turn managers) (take turn managers) (number - turn) (omega (arith, parted, le, below))
          ∙ slice_get-drop turn managers (number - turn) number (omega (arith, le)) ∙ manager_at manager
    ]

-- one stands at a place of them, by its number and how many there are
abbrev IsAt : ℕ → ℕ → ℕ → ℕ → Type 0
IsAt count turn place number = ((number ≡ turn + place) × (place < count - turn)) ⊎ ((place ≡ count - turn + number) × (number < turn))

number_turned : (turn place : ℕ) (manager : Manager) → slice_get (drop turn managers ++ take turn managers) place ≡ Some manager → IsAt manager_count turn place (manager_number manager)
number_turned turn place manager is =
    let parted : length (drop turn managers) ≡ manager_count - turn = length-drop turn managers ∙ ap (λ n. n - turn) count_managers in
    elim (cases_lt place (length (drop turn managers))) [
      | inl lt ↦
          let at = sym (slice_get-append_left (drop turn managers) (take turn managers) place lt) ∙ is in
          inl (number_at (turn + place) manager (sym (slice_get-drop turn managers place (turn + place) refl) ∙ at), omega (arith, lt, parted))
      | inr le ↦
          let rest = place - length (drop turn managers) in
          let at = sym (slice_get-append_right (drop turn managers) (take turn managers) place rest (omega (arith, le))) ∙ is in
          let within = slice_get_within (take turn managers) rest manager at in
          let few = length-take turn managers in
          let lt : rest < turn = omega (arith, within, few) in
          let its = number_at rest manager (sym (slice_get-take turn managers rest lt) ∙ at) in
          inr (omega (arith, its, le, parted), omega (arith, its, lt))
    ]

nearer : (count turn place next other : ℕ) → next < count → other < count → next ≢ other → IsAt count turn place next → place ≤ before count turn other → before count (next + 1) other < before count turn other
nearer count turn place next other few_next few differs (inl at) not_later = elim (cases_lt other turn) [
  | inl lt ↦
      let own = before_turn count turn other lt in
      let at_number = at.0 in
      let then_own = before_turn count (next + 1) other (omega (arith, at_number, lt)) in
      omega (arith, own, then_own, at_number, few_next)
  | inr le ↦
      let own = behind_turn count turn other le in
      let at_number = at.0 in
      let more = less_of next other (omega (arith, at_number, own, not_later, le)) differs in
      let then_own = behind_turn count (next + 1) other (omega (arith, more)) in
      omega (arith, own, then_own, at_number, more)
]
nearer count turn place next other few_next few differs (inr at) not_later = elim (cases_lt other turn) [
  | inl lt ↦
      let own = before_turn count turn other lt in
      let at_place = at.0 in
      let more = less_of next other (omega (arith, at_place, own, not_later)) differs in
      let then_own = behind_turn count (next + 1) other (omega (arith, more)) in
      omega (arith, own, then_own, more)
  | inr le ↦
      let own = behind_turn count turn other le in
      let at_place = at.0 in
      absurd (omega (arith, own, at_place, not_later, few, le))
]

pub passed_over : (p : Manager → Bool) (turn : ℕ) (next other : Manager) → find p (drop turn managers ++ take turn managers) ≡ Some next → p other ≡ true → next ≢ other → stand_before (manager_number next + 1) other < stand_before turn other
passed_over p turn next other found passes apart =
    let turned = drop turn managers ++ take turn managers in
    let place = position_or_len p turned in
    let at : slice_get turned place ≡ Some next = sym (find_at p turned) ∙ found in
    let not_later : place ≤ stand_before turn other = elim (cases_lt (stand_before turn other) place) [
      | inl lt ↦
          let clash : true ≡ false = sym passes ∙ ap p (sym (get_or_from_slice_get turned (stand_before turn other) other Ram (turned_at turn other))) ∙ fails_before_first p turned (stand_before turn other) Ram lt in
          absurd (cc)
      | inr le ↦ le
    ] in
    nearer manager_count turn place (manager_number next) (manager_number other) (number_below next) (number_below other) (λ same. apart (same_manager next other same)) (number_turned turn place next at) not_later
