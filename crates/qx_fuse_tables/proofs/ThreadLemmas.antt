-- A request that takes a thread leaves as many free as it has to.
use Rattle.std.proofs.Common.{◌≡◌, ◌∙◌, ℕ, ◌+◌, ◌<◌, ◌≤◌, Bool, true, false, cond, eqb, ltb, List, [], ◌∷◌, ◌++◌, refl, sym, subst, ap, arith, Option, None, Some, inl, inr}
use Rattle.std.specs.Prelude.{count_by, nat_eq, not, ◌||◌}
use Rattle.std.specs.List.{AllByRecursion, IsDistinct, list_any}
use Rattle.std.proofs.lemmas.Bool.{and_right, cases_Bool, cases_lt, eqb-true, le-ltb, or_from}
use Rattle.std.proofs.lemmas.List.Folds.{list_any-append}
use Rattle.std.proofs.lemmas.List.Sums.{sum_by-cons}
use Rattle.std.proofs.lemmas.Option.{none-some}
use Rattle.qx_fuse_tables.specs.declared.waits.Waiting.{Waiting}
use Rattle.qx_fuse_tables.specs.Waits.{ThreadsKept, WaitingList, free_count, is_free, is_of, kept, first_free}

abbrev one_if : Bool → ℕ
one_if passes = cond passes 1 0

one_most : (passes : Bool) → one_if passes ≤ 1
one_most true = omega arith
one_most false = omega arith

-- ---- counts by two tests that differ at one number only, which stands once

module _ (p q : ℕ → Bool) (n : ℕ) (agree : (k : ℕ) → eqb n k ≡ false → q k ≡ p k) where
  same_count : (ns : List ℕ) → AllByRecursion (λ k. eqb n k ≡ false) ns → count_by q ns ≡ count_by p ns
  same_count [] apart = refl
  same_count (k ∷ ns) apart =
      sum_by-cons (λ x. one_if (q x)) k ns
      ∙ (ap (λ (m : ℕ). m + count_by q ns) (ap one_if (agree k apart.0))
      ∙ (ap (λ (m : ℕ). one_if (p k) + m) (same_count ns apart.1)
      ∙ sym (sum_by-cons (λ x. one_if (p x)) k ns)))

  one_less : (ns : List ℕ) → IsDistinct nat_eq ns → count_by p ns ≤ count_by q ns + 1
  unfolding IsDistinct
  one_less [] distinct = omega arith
  one_less (k ∷ ns) distinct =
      let by_p : count_by p (k ∷ ns) ≡ one_if (p k) + count_by p ns = sum_by-cons (λ x. one_if (p x)) k ns in
      let by_q : count_by q (k ∷ ns) ≡ one_if (q k) + count_by q ns = sum_by-cons (λ x. one_if (q x)) k ns in
      elim (cases_Bool (eqb n k)) [
        | inl here ↦
            let same : k ≡ n = sym (eqb-true n k here) in
            let rest = same_count ns (subst (λ (m : ℕ). AllByRecursion (λ y. eqb m y ≡ false) ns) same distinct.0) in
            omega (arith, by_p, by_q, rest, one_most (p k))
        | inr apart ↦
            let first : one_if (q k) ≡ one_if (p k) = ap one_if (agree k apart) in
            let rest = one_less ns distinct.1 in
            omega (arith, by_p, by_q, first, rest)
      ]

-- ---- another thread is as free as it was

or_none : (b : Bool) → (b || false) ≡ b
or_none true = refl
or_none false = refl

free_same : (waits : WaitingList) (one : Waiting) (tid : ℕ) → eqb one.tid tid ≡ false → is_free (waits ++ one ∷ []) one.process tid ≡ is_free waits one.process tid
free_same waits one tid apart =
    let of : Waiting → Bool = λ other. is_of one.process tid other in
    let none : list_any of (one ∷ []) ≡ false = or_from (of one) false (and_right (eqb one.process one.process) (eqb one.tid tid) apart) refl in
    ap not (list_any-append of waits (one ∷ []) ∙ (ap (λ (b : Bool). list_any of waits || b) none ∙ or_none (list_any of waits)))

-- ---- what is taken

enough : (m n : ℕ) (found : Option ℕ) (tid : ℕ) → cond (ltb m n) found None ≡ Some tid → m < n
enough m n found tid is = elim (cases_lt m n) [
  | inl lt ↦ lt
  | inr le ↦ absurd (none-some tid (sym (ap (λ (b : Bool). cond b found None) (le-ltb m n le)) ∙ is))
]

pub kept_free : ThreadsKept
kept_free tids writers waits one distinct taken =
    let more : kept one.wait writers < free_count tids waits one.process = enough (kept one.wait writers) (free_count tids waits one.process) (first_free tids waits one.process) one.tid taken in
    let less : free_count tids waits one.process ≤ free_count tids (waits ++ one ∷ []) one.process + 1 =
    one_less (λ tid. is_free waits one.process tid) (λ tid. is_free (waits ++ one ∷ []) one.process tid) one.tid (free_same waits one) tids distinct in
    omega (arith, more, less)
