-- What is read of a row, where a row of the table changes or comes.
use Rattle.std.proofs.Common.{◌≡◌, ◌≢◌, inl, inr, ℕ, ◌-◌, ◌<◌, ◌≤◌, ◌∷◌, ◌++◌, [], ◌⊎◌, List, Option, Some, None, Result, Ok, Err, option_map, get_or, slice_set, length, refl, sym, ◌∙◌, ap, arith}
use Rattle.std.proofs.lemmas.Bool.{cases_lt}
use Rattle.std.proofs.lemmas.Bool.Decides.{nat_tests}
use Rattle.std.proofs.lemmas.Grind.{common_steps}
use Rattle.std.proofs.lemmas.List.{get_or-set_same, get_or-set_other, length-set, set-set}
use Rattle.std.proofs.Math.ListN.{get_or-append}
use Rattle.std.proofs.Math.Seq.{get_or-append_seam, get_or-append_right}
use Rattle.qx_isolation.specs.Rows.{row_at, lowest_from, put_row, taken_places, with_row}
use Rattle.qx_rows.proofs.RowLemmas.{row_at-get_or, set-row}

pub option_cases : {A : Type 0} (o : Option A) → (o ≡ None) ⊎ ((x : A) × (o ≡ Some x))
option_cases None = inl refl
option_cases (Some x) = inr (x, refl)

pub result_cases : {A E : Type 0} (r : Result A E) → ((x : A) × (r ≡ Ok x)) ⊎ ((e : E) × (r ≡ Err e))
result_cases (Ok x) = inl (x, refl)
result_cases (Err e) = inr (e, refl)

past : {A : Type 0} (xs : List A) (i : ℕ) (d : A) → length xs ≤ i → get_or xs i d ≡ d
past xs i d beyond = grind (arith, common_steps)

pub row_at-set_same : {A : Type 0} (xs : List (Option A)) (n : ℕ) (place : Option A) → n < length xs → row_at (slice_set xs n place) n ≡ place
row_at-set_same xs n place within = row_at-get_or (slice_set xs n place) n ∙ get_or-set_same xs n place None within

pub row_at-set_other : {A : Type 0} (xs : List (Option A)) (n m : ℕ) (place : Option A) → m ≢ n → row_at (slice_set xs n place) m ≡ row_at xs m
row_at-set_other xs n m place differs = row_at-get_or (slice_set xs n place) m ∙ get_or-set_other xs n m place None differs ∙ sym (row_at-get_or xs m)

pub row_at-past : {A : Type 0} (xs : List (Option A)) (n : ℕ) → length xs ≤ n → row_at xs n ≡ None
row_at-past xs n beyond = row_at-get_or xs n ∙ past xs n None beyond

pub row_within : {A : Type 0} (xs : List (Option A)) (n : ℕ) (x : A) → row_at xs n ≡ Some x → n < length xs
row_within xs n x is = elim (cases_lt n (length xs)) [
  | inl within ↦ within
  | inr beyond ↦ let clash : None ≡ Some x = sym (row_at-past xs n beyond) ∙ is in absurd (cc)
]

-- a row that is put where one was
pub row_at-put : {A : Type 0} (xs : List (Option A)) (n : ℕ) (x y : A) → row_at xs n ≡ Some x → row_at (slice_set xs n (Some y)) n ≡ Some y
row_at-put xs n x y there = row_at-set_same xs n (Some y) (row_within xs n x there)

-- a row that changes

pub length-with_row : {A : Type 0} (xs : List (Option A)) (n : ℕ) (f : A → A) → length (with_row xs n f) ≡ length xs
length-with_row xs n f = length-set xs n (option_map f (row_at xs n))

pub row_at-with_same : {A : Type 0} (xs : List (Option A)) (n : ℕ) (f : A → A) → row_at (with_row xs n f) n ≡ option_map f (row_at xs n)
row_at-with_same xs n f = elim (cases_lt n (length xs)) [
  | inl within ↦ row_at-set_same xs n (option_map f (row_at xs n)) within
  | inr beyond ↦
      let none : row_at xs n ≡ None = row_at-past xs n beyond in
      row_at-past (with_row xs n f) n (rw (length-with_row xs n f) beyond) ∙ sym (ap (option_map f) none)
]

pub row_at-with_other : {A : Type 0} (xs : List (Option A)) (n m : ℕ) (f : A → A) → m ≢ n → row_at (with_row xs n f) m ≡ row_at xs m
row_at-with_other xs n m f differs = row_at-set_other xs n m (option_map f (row_at xs n)) differs

-- two changes of a row are one
pub with_row-twice : {A : Type 0} (xs : List (Option A)) (n : ℕ) (f g : A → A) → with_row (with_row xs n f) n g ≡ with_row xs n (λ x. g (f x))
with_row-twice {A = A} xs n f g =
    ap (λ row. slice_set (with_row xs n f) n (option_map g row)) (row_at-with_same xs n f)
    ∙ set-set xs n (option_map f (row_at xs n)) (option_map g (option_map f (row_at xs n)))
    ∙ ap (slice_set xs n) (both (row_at xs n))
  where
    both : (o : Option A) → option_map g (option_map f o) ≡ option_map (λ x. g (f x)) o
    both None = refl
    both (Some x) = refl

-- a row that changes to what it was
pub with_row-fixed : {A : Type 0} (xs : List (Option A)) (n : ℕ) (f : A → A) (x : A) → row_at xs n ≡ Some x → f x ≡ x → with_row xs n f ≡ xs
with_row-fixed {A = A} xs n f x there same = ap (λ (o : Option A). slice_set xs n (option_map f o)) there ∙ ap (λ (y : A). slice_set xs n (Some y)) same ∙ set-row xs n x there

-- a row that comes

taken_places-within : {A : Type 0} (places : List (Option A)) → taken_places places ≤ length places
taken_places-within [] = omega arith
taken_places-within (None ∷ places) = omega arith
taken_places-within (Some row ∷ places) = let rest = taken_places-within places in omega (arith, rest)

pub lowest-within : {A : Type 0} (places : List (Option A)) → 0 < length places → lowest_from 1 places ≤ length places
lowest-within [] some = absurd (omega (arith, some))
lowest-within (place ∷ places) some = let rest = taken_places-within places in omega (arith, rest)

module _ {A : Type 0} (places : List (Option A)) (number : ℕ) (row : A) (within : number ≤ length places) where
  pub put_row-same : row_at (put_row places number row) number ≡ Some row
  put_row-same = row_at-get_or (put_row places number row) number ∙ elim (cases_lt number (length places)) [
    | inl inside ↦ grind (arith, nat_tests, inside, get_or-set_same places number (Some row) None inside)
    | inr beyond ↦
        let last : number ≡ length places = omega (arith, within, beyond) in
        rw last (grind (arith, nat_tests, get_or-append_seam places (Some row) [] None))
  ]

  pub put_row-other : (other : ℕ) → other ≢ number → row_at (put_row places number row) other ≡ row_at places other
  put_row-other other differs = row_at-get_or (put_row places number row) other ∙ elim (cases_lt number (length places)) [
    | inl inside ↦ grind (arith, nat_tests, inside, get_or-set_other places number other (Some row) None differs, row_at-get_or places other)
    | inr beyond ↦ past_or_before beyond
  ]
    where
      past_or_before : length places ≤ number → get_or (put_row places number row) other None ≡ row_at places other
      past_or_before beyond =
          let appended : put_row places number row ≡ places ++ Some row ∷ [] = grind (arith, nat_tests, beyond) in
          rw appended (elim (cases_lt other (length places)) [
            | inl inside ↦ get_or-append places (Some row ∷ []) None other inside ∙ sym (row_at-get_or places other)
            | inr past ↦
                let more : 0 < other - length places = omega (arith, within, beyond, past, differs) in
                get_or-append_right places (Some row ∷ []) other None past ∙ grind (arith, common_steps, more) ∙ sym (row_at-past places other past)
          ])
