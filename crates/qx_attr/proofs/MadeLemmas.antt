-- The numbers of rows in order of making, as rows come and go.
use Rattle.std.proofs.Common.{◌≡◌, ◌≢◌, inl, inr, ℕ, zero, suc, ◌+◌, ◌≤◌, ◌==◌, Bool, true, false, not, List, [], ◌∷◌, ◌++◌, add-one, drop, take, length, refl, sym, ap, ◌∙◌, subst, arith, cond, Option, Some, None, slice_get, slice_set}
use Rattle.std.specs.Prelude.{filter, is_some, if◌then◌else◌}
use Rattle.std.proofs.lemmas.Bool.{cases_Bool, cases_eq, ne_eqb}
use Rattle.std.proofs.lemmas.Bool.Decides.{nat_tests}
use Rattle.std.proofs.lemmas.List.{append-nil}
use Rattle.std.proofs.lemmas.List.Elements.{filter-append}
use Rattle.qx_isolation.proofs.Places.{row_at-set_other}
use Rattle.qx_isolation.specs.Rows.{put_row, row_at}
use Rattle.qx_attr.specs.inner.Blocks.{AreMadeOnce}
use Rattle.qx_attr.proofs.TableLemmas.{put_at, put_other, row-freed}

abbrev is_other : ℕ → ℕ → Bool
is_other n m = not (m == n)

is_same : (n : ℕ) → (n == n) ≡ true
is_same n = grind (arith, nat_tests)

-- ---- two tests

-- what passes both is the same in either order, also where one of them has changed for what fails the other
filter_swap : (p now q : ℕ → Bool) → ((n : ℕ) → q n ≡ true → now n ≡ p n) → (ns : List ℕ) → filter now (filter q ns) ≡ filter q (filter p ns)
filter_swap p now q same [] = refl
filter_swap p now q same (n ∷ ns) =
    let again = filter_swap p now q same ns in
    elim (cases_Bool (q n)) [
      | inl is ↦ elim (cases_Bool (p n)) [
        | inl has ↦ rw (has, is, same n is ∙ has) (ap (λ l. n ∷ l) again)
        | inr lacks ↦ rw (lacks, is, same n is ∙ lacks) again
      ]
      | inr other ↦ elim (cases_Bool (p n)) [
        | inl has ↦ rw (has, other) again
        | inr lacks ↦ rw (lacks, other) again
      ]
    ]

-- ---- numbers that were made

-- a number that is not there goes from nowhere
stays : (n : ℕ) (made : List ℕ) → filter (λ m. m == n) made ≡ [] → filter (is_other n) made ≡ made
stays n [] none = refl
stays n (m ∷ made) none = elim (cases_Bool (m == n)) [
  | inl is ↦ let clash : m ∷ filter (λ m. m == n) made ≡ [] = rw is at none in absurd (cc)
  | inr other ↦ rw other (ap (λ l. m ∷ l) (stays n made (rw other at none)))
]

module _ {A : Type 0} (rows : List (Option A)) (made : List ℕ) (n : ℕ) (are : AreMadeOnce rows made) where
  pub nothing_unmade : row_at rows n ≡ None → filter (is_other n) made ≡ made
  nothing_unmade none = stays n made (are n ∙ ap (λ (row : Option A). if is_some row then n ∷ [] else []) none)

  pub made_put : (row : A) → n ≤ length rows → row_at rows n ≡ None → AreMadeOnce (put_row rows n row) (made ++ n ∷ [])
  made_put row within free m = filter-append (λ m'. m' == m) made (n ∷ []) ∙ elim (cases_eq m n) [
    | inl same ↦ subst (λ m. filter (λ m'. m' == m) made ++ cond (n == m) (n ∷ []) [] ≡ (if is_some (row_at (put_row rows n row) m) then m ∷ [] else [])) (sym same) here
    | inr apart ↦ rw (are m, ne_eqb n m (λ same. apart (sym same)), put_other rows n row within m apart) (append-nil _)
  ]
    where
      here : filter (λ m. m == n) made ++ cond (n == n) (n ∷ []) [] ≡ (if is_some (row_at (put_row rows n row) n) then n ∷ [] else [])
      here = rw (are n, free, is_same n, put_at rows n row within) refl

  pub made_without : AreMadeOnce (slice_set rows n None) (filter (is_other n) made)
  made_without m = filter_swap (λ m'. m' == m) (λ m'. m' == m) (is_other n) (λ m' other. refl) made ∙ (ap (filter (is_other n)) (are m) ∙ elim (cases_eq m n) [
    | inl same ↦ subst (λ m. filter (is_other n) (if is_some (row_at rows m) then m ∷ [] else []) ≡ (if is_some (row_at (slice_set rows n None) m) then m ∷ [] else [])) (sym same) (rw (row-freed rows n) (here (is_some (row_at rows n))))
    | inr apart ↦ rw (row_at-set_other rows n m None apart) (other m apart (is_some (row_at rows m)))
  ])
    where
      here : (there : Bool) → filter (is_other n) (if there then n ∷ [] else []) ≡ []
      here true = rw (is_same n) refl
      here false = refl

      other : (m : ℕ) → m ≢ n → (there : Bool) → filter (is_other n) (if there then m ∷ [] else []) ≡ (if there then m ∷ [] else [])
      other m apart true = rw (ne_eqb m n apart) refl
      other m apart false = refl

-- ---- no two of them are the same

-- a number that stands at a place stands at none, or at that alone
module _ (n : ℕ) where
  nowhere : (ns : List ℕ) (place : ℕ) → slice_get ns place ≡ Some n → filter (λ m. m == n) ns ≡ [] → ⊥
  nowhere [] place is none = cc
  nowhere (m ∷ ns) zero is none =
      let same : (m == n) ≡ true = let here : m ≡ n = cc in ap (λ k. k == n) here ∙ is_same n in
      let clash : m ∷ filter (λ m. m == n) ns ≡ [] = rw same at none in cc
  nowhere (m ∷ ns) (suc place) is none = elim (cases_Bool (m == n)) [
    | inl same ↦ let clash : m ∷ filter (λ m. m == n) ns ≡ [] = rw same at none in absurd (cc)
    | inr other ↦ nowhere ns place is (rw other at none)
  ]

  -- where one stands of it at most, the others are those before and behind
  gone_at : (ns : List ℕ) (place : ℕ) → slice_get ns place ≡ Some n → ((m : ℕ) (more : List ℕ) → filter (λ m. m == n) ns ≡ m ∷ more → more ≡ []) → filter (is_other n) ns ≡ take place ns ++ drop (suc place) ns
  gone_at [] place is few = absurd (cc)
  gone_at (m ∷ ns) zero is few =
      let same : (m == n) ≡ true = let here : m ≡ n = cc in ap (λ k. k == n) here ∙ is_same n in
      let first : filter (λ m. m == n) (m ∷ ns) ≡ m ∷ filter (λ m. m == n) ns = rw same refl in
      rw same (stays n ns (few m (filter (λ m. m == n) ns) first))
  gone_at (m ∷ ns) (suc place) is few = elim (cases_Bool (m == n)) [
    | inl same ↦
        let first : filter (λ m. m == n) (m ∷ ns) ≡ m ∷ filter (λ m. m == n) ns = rw same refl in
        absurd (nowhere ns place is (few m (filter (λ m. m == n) ns) first))
    | inr other ↦
        let later : filter (λ m. m == n) (m ∷ ns) ≡ filter (λ m. m == n) ns = rw other refl in
        rw other (ap (λ l. m ∷ l) (gone_at ns place is (λ k more is. few k more (later ∙ is))))
  ]

-- of those that pass a test too
pub once_at : {A : Type 0} (rows : List (Option A)) (made : List ℕ) (n place : ℕ) (p : ℕ → Bool) → AreMadeOnce rows made → slice_get (filter p made) place ≡ Some n → filter (is_other n) (filter p made) ≡ take place (filter p made) ++ drop (place + 1) (filter p made)
once_at rows made n place p are is = rw (add-one place) (gone_at n (filter p made) place is few)
  where
    one : (there passes : Bool) (m : ℕ) (more : List ℕ) → filter (λ k. passes) (if there then n ∷ [] else []) ≡ m ∷ more → more ≡ []
    one true true m more e = cc
    one true false m more e = absurd (cc)
    one false passes m more e = absurd (cc)

    alone : (there : Bool) → filter p (if there then n ∷ [] else []) ≡ filter (λ k. p n) (if there then n ∷ [] else [])
    alone true = refl
    alone false = refl

    few : (m : ℕ) (more : List ℕ) → filter (λ k. k == n) (filter p made) ≡ m ∷ more → more ≡ []
    few m more e =
        let there = is_some (row_at rows n) in
        one there (p n) m more (sym (alone there) ∙ ap (filter p) (sym (are n)) ∙ filter_swap p p (λ k. k == n) (λ k passes. refl) made ∙ e)
