-- Which lines have an item: the lowest bit from a number on; a line's mark, once the line was changed.
use Rattle.std.proofs.Common.{◌≡◌, ◌≢◌, ℕ, zero, suc, ◌+◌, ◌-◌, ◌/◌, ◌%◌, ◌^◌, ◌<◌, ◌≤◌, ◌==◌, Bool, true, false, cond, List, [], ◌∷◌, Option, Some, None, drop, find, length, map, nat_lt, option_map, replicate, unwrap_or, slice_get, slice_set, refl, sym, subst, ◌∙◌, ap, arith, inl, inr, lt-ltb}
use Rattle.std.specs.Int.{bit_at, trailing_zeros, w64}
use Rattle.std.proofs.lemmas.Nat.{shr-shr, shr_le}
use Rattle.std.proofs.lemmas.Nat.Bits.{bit_at-trailing_zeros, bit_at-zero}
use Rattle.std.proofs.lemmas.Bool.Decides.{eqb_tells}
use Rattle.std.proofs.lemmas.List.{length-map}
use Rattle.qx_lists.specs.Table.{Table, nodes_of}
use Rattle.qx_lines.specs.declared.Line.{Line}
use Rattle.qx_lines.specs.Line.{IsLineOf, item_count, nodes_in}
use Rattle.std.proofs.lemmas.Option.{same_Some, slice_get-map, slice_get_cases, slice_get_within}
use Rattle.qx_isolation.specs.Lines.{into, line_at}
use Rattle.qx_isolation.specs.declared.rows.Queued.{Queued}
use Rattle.qx_machine.specs.Machine.{rank}
use Rattle.qx_types.specs.declared.names.Manager.{Manager}
use Rattle.qx_types.specs.declared.names.TheConstants.Manager.{MOST}
use Rattle.qx_types.specs.Managers.{manager_number, managers}
use Rattle.qx_types.proofs.Managers.{count_managers, few_managers, number_at}
use Rattle.qx_queues.specs.Waiting.{Waiting, rank_of}
use Rattle.qx_queues.proofs.KeptLemmas.{line_at-shown, shown-none}
use Rattle.qx_queues.specs.inner.Kept.{PutIn, entries, entry_of_node}
use Rattle.qx_queues.specs.inner.Marks.{AreMarked, IsLowestFrom, has_items, is_marked}

shifted : (bits number i : ℕ) → bit_at (bits / 2 ^ number) i ≡ bit_at bits (number + i)
shifted bits number i = ap (λ n. n % 2) (shr-shr bits number i)

shifted_to : (bits number other : ℕ) → number ≤ other → bit_at bits other ≡ bit_at (bits / 2 ^ number) (other - number)
shifted_to bits number other from =
    let is : number + (other - number) ≡ other = omega (arith, from) in
    sym (ap (bit_at bits) is) ∙ sym (shifted bits number (other - number))

-- no bit is left from a number on
pub none_left : (marks number : ℕ) → marks / 2 ^ number ≡ 0 → (other : ℕ) → number ≤ other → is_marked marks other ≡ false
unfolding is_marked
none_left marks number none other from = ap (λ b. b == 1) (shifted_to marks number other from ∙ ap (λ n. bit_at n (other - number)) none ∙ bit_at-zero (other - number))

-- the lowest bit that is left
pub lowest_left : (marks number : ℕ) → marks < 2 ^ 64 → 0 < marks / 2 ^ number → IsLowestFrom marks number (number + trailing_zeros w64 (marks / 2 ^ number))
unfolding is_marked
lowest_left marks number few some =
    let left = marks / 2 ^ number in
    let within : left < 2 ^ 64 = omega (arith, few, shr_le marks number) in
    let low = bit_at-trailing_zeros w64 left some within in
    record {
      behind = omega arith;
      marked = ap (λ b. b == 1) (sym (shifted marks number (trailing_zeros w64 left)) ∙ low.1);
      lowest = λ other from below. ap (λ b. b == 1) (shifted_to marks number other from ∙ low.2 (other - number) (omega (arith, from, below)));
    }

-- one place of a list was set
set_here : {A : Type 0} (xs : List A) (i : ℕ) (x y : A) → slice_get xs i ≡ Some y → slice_get (slice_set xs i x) i ≡ Some x
set_here [] i x y is = absurd (cc)
set_here (first ∷ xs) zero x y is = refl
set_here (first ∷ xs) (suc i) x y is = set_here xs i x y is

set_elsewhere : {A : Type 0} (xs : List A) (i j : ℕ) (x : A) → j ≢ i → slice_get (slice_set xs i x) j ≡ slice_get xs j
set_elsewhere [] i j x differs = refl
set_elsewhere (first ∷ xs) zero zero x differs = absurd (differs refl)
set_elsewhere (first ∷ xs) zero (suc j) x differs = refl
set_elsewhere (first ∷ xs) (suc i) zero x differs = refl
set_elsewhere (first ∷ xs) (suc i) (suc j) x differs = set_elsewhere xs i j x (λ same. differs (ap suc same))

-- one line was changed, and its mark with it
pub remarked : (marks after place number : ℕ) (lines : List Line) (before line : Line) → place ≡ number → slice_get lines number ≡ Some before → AreMarked marks lines
    → is_marked after place ≡ nat_lt 0 (item_count line) → ((other : ℕ) → other < MOST → other ≢ place → is_marked after other ≡ is_marked marks other) → AreMarked after (slice_set lines number line)
remarked marks after place number lines before line same is were here there = λ other within. elim (eqb_tells other number) [
  | inl at ↦ subst (λ n. is_marked after n ≡ has_items (slice_get (slice_set lines number line) other)) (same ∙ sym at.1)
      (here ∙ ap has_items (sym (set_here lines number line before is)) ∙ ap (λ n. has_items (slice_get (slice_set lines number line) n)) (sym at.1))
  | inr differs ↦ there other within (λ at. differs.1 (at ∙ same)) ∙ were other within ∙ ap has_items (sym (set_elsewhere lines number other line differs.1))
]

one_at_least : {A : Type 0} (here : Bool) (x y : A) (xs ys : List A) → 0 < length (cond here (x ∷ xs) (y ∷ ys))
one_at_least true x y xs ys = omega arith
one_at_least false x y xs ys = omega arith

one_came : {A : Type 0} (rank : A → ℕ) (line : List A) (item : A) → 0 < length (into rank line item)
one_came rank [] item = omega arith
one_came rank (first ∷ line) item = one_at_least (nat_lt (rank first) (rank item)) item first (first ∷ line) (into rank line item)

-- a line into which an item was put has one
pub has_one : (old new : Table Waiting) (before after : Line) (node : ℕ) (waiting : Waiting) → PutIn old new before after node waiting → nat_lt 0 (item_count after) ≡ true
has_one old new before after node waiting put =
    let count = put.line.counted in
    let shown = length-map (nodes_in new after) (entry_of_node new) in
    let more = ap length put.entries in
    let came = one_came rank (entries old before) waiting.queued in
    lt-ltb 0 (item_count after) (omega (arith, count, shown, more, came))

-- the first value of a list that passes a test, and none, from a place on
pub found_from : {A : Type 0} (p : A → Bool) (values : List A) (from place : ℕ) (value : A) → from ≤ place → slice_get values place ≡ Some value → p value ≡ true
    → ((other : ℕ) (its : A) → from ≤ other → other < place → slice_get values other ≡ Some its → p its ≡ false) → find p (drop from values) ≡ Some value
found_from p [] from place value behind is passes before = absurd (cc)
found_from p (first ∷ rest) zero zero value behind is passes before = let same = same_Some first value is in rw (same, passes) refl
found_from p (first ∷ rest) zero (suc place) value behind is passes before =
    let fails = before 0 first (omega arith) (omega arith) refl in
    rw fails (found_from p rest zero place value (omega arith) is passes (λ other its from below at. before (suc other) its (omega arith) (omega (arith, below)) at))
found_from p (first ∷ rest) (suc from) zero value behind is passes before = absurd (omega (arith, behind))
found_from p (first ∷ rest) (suc from) (suc place) value behind is passes before =
    found_from p rest from place value (omega (arith, behind)) is passes (λ other its later below at. before (suc other) its (omega (arith, later)) (omega (arith, below)) at)

pub none_from : {A : Type 0} (p : A → Bool) (values : List A) (from : ℕ) → ((other : ℕ) (its : A) → from ≤ other → slice_get values other ≡ Some its → p its ≡ false) → find p (drop from values) ≡ None
none_from p [] zero none = refl
none_from p [] (suc from) none = refl
none_from p (first ∷ rest) zero none = let fails = none 0 first (omega arith) refl in rw fails (none_from p rest zero (λ other its from at. none (suc other) its (omega arith) at))
none_from p (first ∷ rest) (suc from) none = none_from p rest from (λ other its later at. none (suc other) its (omega (arith, later)) at)

-- ---- marks, and lines as contracts see them

-- an item stands in a line as contracts see it where the line has one
pub shows : (table : Table Waiting) (lines : List Line) (n : ℕ) → ((number : ℕ) (line : Line) → slice_get lines number ≡ Some line → IsLineOf rank_of table line) → nat_lt 0 (length (line_at (map (entries table) lines) n)) ≡ has_items (slice_get lines n)
shows table lines n of = by_line (slice_get lines n) refl
  where
    by_line : (found : Option Line) → slice_get lines n ≡ found → nat_lt 0 (length (line_at (map (entries table) lines) n)) ≡ has_items (slice_get lines n)
    by_line None is = ap (λ o. nat_lt 0 (length (unwrap_or o []))) (slice_get-map (entries table) lines n ∙ ap (option_map (entries table)) is) ∙ ap has_items (sym is)
    by_line (Some line) is = ap (nat_lt 0) (ap length (line_at-shown table lines n line is) ∙ length-map (nodes_in table line) (entry_of_node table) ∙ sym (of n line is).counted) ∙ ap has_items (sym is)

empty_at : {A : Type 0} (count n : ℕ) → line_at {A = A} (replicate count []) n ≡ []
empty_at zero n = refl
empty_at (suc count) zero = refl
empty_at (suc count) (suc n) = empty_at count n

-- where no list has a node, no line is marked
pub none_marked : (table : Table Waiting) (lines : List Line) → ((number : ℕ) (line : Line) → slice_get lines number ≡ Some line → IsLineOf rank_of table line) → ((list : ℕ) → nodes_of table list ≡ []) → AreMarked 0 lines
unfolding is_marked
none_marked table lines of none = λ n within.
    ap (λ b. b == 1) (bit_at-zero n)
    ∙ sym (ap (λ rows. nat_lt 0 (length (line_at rows n))) (shown-none table none lines) ∙ ap (λ line. nat_lt 0 (length line)) (empty_at (length lines) n))
    ∙ shows table lines n of

module _ (marks : ℕ) (lines : List Line) (rows : List (List Queued)) (shown : (n : ℕ) → nat_lt 0 (length (line_at rows n)) ≡ has_items (slice_get lines n)) (marked : AreMarked marks lines) where
  abbrev waits : Manager → Bool
  waits manager = nat_lt 0 (length (line_at rows (manager_number manager)))

  -- an item waits for a manager that is marked
  tells : (n : ℕ) (manager : Manager) → slice_get managers n ≡ Some manager → waits manager ≡ is_marked marks n
  tells n manager at = ap (λ k. nat_lt 0 (length (line_at rows k))) (number_at n manager at) ∙ shown n ∙ sym (marked n (within n manager at))
    where
      within : (n : ℕ) (manager : Manager) → slice_get managers n ≡ Some manager → n < MOST
      within n manager at = omega (arith, slice_get_within managers n manager at, count_managers, few_managers)

  pub next_at : (from place : ℕ) → IsLowestFrom marks from place → (found : Option Manager) → found ≡ slice_get managers place → found ≡ find (λ manager. nat_lt 0 (length (line_at rows (manager_number manager)))) (drop from managers)
  next_at from place lowest None at = sym (none_from waits managers from (λ other its later there. tells other its there ∙ lowest.lowest other later (before other its there)))
    where
      past : slice_get managers place ≡ None → length managers ≤ place
      past is = elim (slice_get_cases managers place).1 [
        | inl some ↦ let clash : Some some.0 ≡ None = sym some.2 ∙ is in absurd (cc)
        | inr none ↦ none.0
      ]

      before : (other : ℕ) (its : Manager) → slice_get managers other ≡ Some its → other < place
      before other its there = omega (arith, slice_get_within managers other its there, past (sym at))
  next_at from place lowest (Some manager) at =
      sym (found_from waits managers from place manager lowest.behind (sym at) (tells place manager (sym at) ∙ lowest.marked) (λ other its later below there. tells other its there ∙ lowest.lowest other later below))

  pub next_none : (from : ℕ) → ((other : ℕ) → from ≤ other → other < MOST → is_marked marks other ≡ false) → None ≡ find (λ manager. nat_lt 0 (length (line_at rows (manager_number manager)))) (drop from managers)
  next_none from none = sym (none_from waits managers from (λ other its later there. tells other its there ∙ none other later (omega (arith, slice_get_within managers other its there, count_managers, few_managers))))
