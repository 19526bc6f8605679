-- Tables of which one row changes.
use Rattle.std.proofs.Common.{◌≡◌, ◌≢◌, ℕ, zero, suc, ◌<◌, ◌≤◌, List, [], ◌∷◌, length, refl, sym, ap, ◌∙◌, inl, inr, arith, subst, Option, Some, option_map, slice_set}
use Rattle.std.specs.Prelude.{IsSome}
use Rattle.std.proofs.Math.ListN.{length-set}
use Rattle.std.proofs.lemmas.Bool.{cases_eq}
use Rattle.qx_attr.proofs.TableLemmas.{longer_put, no_value, put_other}
pub use Rattle.qx_attr.proofs.TableLemmas.{lowest_within, put_at, row-freed, set_at}
use Rattle.qx_isolation.proofs.Places.{row_at-set_other, set-row_at}
use Rattle.qx_isolation.specs.Rows.{put_row, row_at, with_row}

-- at one place, and at all others
pub by_place : (P : ℕ → Type 0) (n : ℕ) → P n → ((m : ℕ) → m ≢ n → P m) → (m : ℕ) → P m
by_place P n here others m = elim (cases_eq m n) [ inl same ↦ subst P (sym same) here | inr apart ↦ others m apart ]

-- where a row is there, the table is long enough
pub row-within : {A : Type 0} (rows : List (Option A)) (n : ℕ) → IsSome (row_at rows n) → n < length rows
row-within {A} [] n some = absurd (no_value (row_at {A = A} [] n) refl some)
row-within (row ∷ rows) zero some = omega arith
row-within (row ∷ rows) (suc n) some = let rest = row-within rows n some in omega (arith, rest)

-- two tables that have the same rows, but perhaps at one place
pub record Differ {A : Type 0} (places now : List (Option A)) (n : ℕ) : Type 0 where
  pub others : (m : ℕ) → m ≢ n → row_at now m ≡ row_at places m
  pub longer : length places ≤ length now

module _ {A : Type 0} where
  pub same_differ : (places : List (Option A)) (n : ℕ) → Differ places places n
  same_differ places n = record { others = λ m apart. refl; longer = omega arith }

  pub set_differ : (places : List (Option A)) (n : ℕ) (row : Option A) → Differ places (slice_set places n row) n
  set_differ places n row = record {
    others = λ m apart. row_at-set_other places n m row apart;
    longer = let same = length-set places n row in omega (arith, same);
  }

  pub put_differ : (places : List (Option A)) (n : ℕ) (row : A) → n ≤ length places → Differ places (put_row places n row) n
  put_differ places n row within = record { others = put_other places n row within; longer = longer_put places n row }

  -- ---- a row that changes, or stays as it is

  pub with_row-at : (places : List (Option A)) (n : ℕ) (change : A → A) → row_at (with_row places n change) n ≡ option_map change (row_at places n)
  with_row-at [] n change = refl
  with_row-at (place ∷ places) zero change = refl
  with_row-at (place ∷ places) (suc n) change = with_row-at places n change

  pub with_row-same : (places : List (Option A)) (n : ℕ) (change : A → A) (row : A) → row_at places n ≡ Some row → change row ≡ row → with_row places n change ≡ places
  with_row-same places n change row is same = ap (λ r. slice_set places n (option_map change r)) is ∙ (ap (λ r. slice_set places n (Some r)) same ∙ (ap (slice_set places n) (sym is) ∙ set-row_at places n))
