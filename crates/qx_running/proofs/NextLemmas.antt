-- Managers one by one, and whether one of them is next.
use Rattle.std.proofs.Common.{◌≡◌, ◌∙◌, ◌∷◌, ◌++◌, ◌+◌, ◌<◌, ◌||◌, ◌&&◌, ◌==◌, [], List, ℕ, zero, suc, Bool, true, false, Option, Some, None, cond, length, drop, take, max, find, is_some, slice_get, option_map, nat_lt, refl, ap, ap₂, sym, inl, inr, arith, take-append-drop, lt-ltb, eq-eqb, ne_eqb}
use Rattle.std.specs.List.{list_any}
use Rattle.std.specs.Option.{option_or}
use Rattle.std.proofs.lemmas.Bool.{cases_eq, cases_lt}
use Rattle.std.proofs.lemmas.Bool.Decides.{nat_tests}
use Rattle.std.proofs.lemmas.List.Folds.{find-append, list_any-append}
use Rattle.qx_types.specs.Managers.{managers}
use Rattle.qx_types.specs.declared.names.Manager.{Manager}
use Rattle.qx_isolation.specs.declared.rows.Queued.{Queued}
use Rattle.qx_machine.specs.Machine.{World, line_of}
use Rattle.qx_machine.specs.Reads as reads
use Rattle.qx_machine.specs.Reads.{has_item}
use Rattle.qx_running.specs.Running.{greatest_urgency, in_turn, is_as_urgent, urgency, urgency_of}

-- ---- managers whose lines are empty tell nothing

not_urgent : (line : List Queued) → nat_lt 0 (length line) ≡ false → urgency_of (option_map (λ first. first.prio) (slice_get line 0)) ≡ 0
not_urgent [] none = refl
not_urgent (first ∷ line) none = let clash : true ≡ false = sym (lt-ltb 0 (suc (length line)) (omega arith)) ∙ none in absurd (cc)

pub empty_urges : (w : World) (manager : Manager) (some : List Manager) → has_item w manager ≡ false → greatest_urgency w (manager ∷ some) ≡ greatest_urgency w some
empty_urges w manager some none = ap (λ own. max own (greatest_urgency w some)) (not_urgent (line_of w manager) none) ∙ (omega arith)

pub empty_found : (w : World) (most : ℕ) (manager : Manager) (some : List Manager) → has_item w manager ≡ false → find (is_as_urgent w most) (manager ∷ some) ≡ find (is_as_urgent w most) some
empty_found w most manager some none = ap (λ test. cond test (Some manager) (find (is_as_urgent w most) some)) (ap (λ own. nat_lt 0 most && (own == most)) (not_urgent (line_of w manager) none) ∙ never most)
  where
    never : (most : ℕ) → (nat_lt 0 most && (0 == most)) ≡ false
    never zero = refl
    never (suc most) = grind (arith, nat_tests)

-- ---- whether there is one

has_first : (line : List Queued) → nat_lt 0 (length line) ≡ nat_lt 0 (urgency_of (option_map (λ first. first.prio) (slice_get line 0)))
has_first [] = refl
has_first (first ∷ line) = lt-ltb 0 (suc (length line)) (omega arith) ∙ sym (lt-ltb 0 (first.prio.0 + 1) (omega arith))

either_above : (a b : ℕ) → (nat_lt 0 a || nat_lt 0 b) ≡ nat_lt 0 (max a b)
either_above zero b = ap (nat_lt 0) (omega arith)
either_above (suc a) b = ap (λ t. t || nat_lt 0 b) (lt-ltb 0 (suc a) (omega arith)) ∙ sym (lt-ltb 0 (max (suc a) b) (omega arith))

any_item : (w : World) (some : List Manager) → list_any (has_item w) some ≡ nat_lt 0 (greatest_urgency w some)
any_item w [] = refl
any_item w (manager ∷ some) = ap₂ (λ a b. a || b) (has_first (line_of w manager)) (any_item w some) ∙ either_above (urgency w manager) (greatest_urgency w some)

none_urgent : (w : World) (some : List Manager) → list_any (is_as_urgent w 0) some ≡ false
none_urgent w [] = refl
none_urgent w (manager ∷ some) = none_urgent w some

one_urgent : (w : World) (some : List Manager) (most : ℕ) → most ≡ greatest_urgency w some → 0 < most → list_any (is_as_urgent w most) some ≡ true
one_urgent w [] most is lt = absurd (omega (arith, is, lt))
one_urgent w (manager ∷ some) most is lt = elim (cases_eq (urgency w manager) most) [
  | inl same ↦ rw (lt-ltb 0 most lt, eq-eqb (urgency w manager) most same) refl
  | inr other ↦ rw (lt-ltb 0 most lt, ne_eqb (urgency w manager) most other) (one_urgent w some most (lesser (urgency w manager) (greatest_urgency w some) most is other) lt)
]
  where
    lesser : (a b most : ℕ) → most ≡ max a b → (a ≡ most → ⊥) → most ≡ b
    lesser a b most is other = elim (cases_lt a b) [
      | inl lt ↦ omega (arith, is, lt)
      | inr le ↦ absurd (other (omega (arith, is, le)))
    ]

any_urgent : (w : World) (some : List Manager) → list_any (is_as_urgent w (greatest_urgency w some)) some ≡ list_any (has_item w) some
any_urgent w some = by_most (greatest_urgency w some) refl ∙ sym (any_item w some)
  where
    by_most : (most : ℕ) → most ≡ greatest_urgency w some → list_any (is_as_urgent w (greatest_urgency w some)) some ≡ nat_lt 0 (greatest_urgency w some)
    by_most zero is = rw (← is) (none_urgent w some)
    by_most (suc most) is = rw (← is) (one_urgent w some (suc most) is (omega arith) ∙ sym (lt-ltb 0 (suc most) (omega arith)))

found_any : {A : Type 0} (p : A → Bool) (some : List A) → is_some (find p some) ≡ list_any p some
found_any p [] = refl
found_any p (x ∷ some) = settled (p x) x (find p some) (list_any p some) (found_any p some)
  where
    settled : {A : Type 0} (here : Bool) (x : A) (later : Option A) (any : Bool) → is_some later ≡ any → is_some (cond here (Some x) later) ≡ (here || any)
    settled true x later any is = refl
    settled false x later any is = is

turned : {A : Type 0} (p : A → Bool) (turn : ℕ) (some : List A) → list_any p (drop turn some ++ take turn some) ≡ list_any p some
turned p turn some = list_any-append p (drop turn some) (take turn some) ∙ either (list_any p (drop turn some)) (list_any p (take turn some)) ∙ sym (list_any-append p (take turn some) (drop turn some)) ∙ ap (list_any p) (take-append-drop turn some)
  where
    either : (a b : Bool) → (a || b) ≡ (b || a)
    either true true = refl
    either true false = refl
    either false true = refl
    either false false = refl

-- a manager is next where one has an item
pub next_some : (w : World) (turn : ℕ) → is_some (in_turn w turn) ≡ is_some (reads.next_manager w)
next_some w turn =
    let p = is_as_urgent w (greatest_urgency w managers) in
    found_any p (drop turn managers ++ take turn managers) ∙ turned p turn managers ∙ any_urgent w managers ∙ sym (found_any (has_item w) managers)

-- from the turn on, and then from the first one on
pub find_turned : {A : Type 0} (p : A → Bool) (turn : ℕ) (some : List A) → find p (drop turn some ++ take turn some) ≡ option_or (find p (drop turn some)) (find p (take turn some))
find_turned p turn some = find-append p (drop turn some) (take turn some)

-- ---- the next manager, found in two parts

pub next_behind : (w : World) (most turn now : ℕ) (manager : Manager) → most ≡ greatest_urgency w managers → turn ≡ now → Some manager ≡ find (is_as_urgent w most) (drop turn managers) → Some manager ≡ in_turn w now
next_behind w most turn now manager is same here =
    let p = is_as_urgent w most in
    ap (λ o. option_or o (find p (take turn managers))) here ∙ sym (find_turned p turn managers) ∙ ap₂ (λ m t. find (is_as_urgent w m) (drop t managers ++ take t managers)) is same

-- none is behind: the first of all is before
pub next_before : (w : World) (most turn now : ℕ) (result : Option Manager) → most ≡ greatest_urgency w managers → turn ≡ now → None ≡ find (is_as_urgent w most) (drop turn managers) → result ≡ find (is_as_urgent w most) (drop 0 managers) → result ≡ in_turn w now
next_before w most turn now result is same here later =
    let p = is_as_urgent w most in
    later ∙ ap (find p) (sym (take-append-drop turn managers)) ∙ find-append p (take turn managers) (drop turn managers) ∙ ap (option_or (find p (take turn managers))) (sym here) ∙ or_none (find p (take turn managers))
    ∙ ap (λ o. option_or o (find p (take turn managers))) here ∙ sym (find_turned p turn managers) ∙ ap₂ (λ m t. find (is_as_urgent w m) (drop t managers ++ take t managers)) is same
  where
    or_none : {A : Type 0} (found : Option A) → option_or found None ≡ found
    or_none None = refl
    or_none (Some x) = refl
