-- Tables of rows: what a change of one row, and the search for a free number, come to.
use Rattle.std.proofs.Common.{◌≡◌, ℕ, zero, suc, ◌<◌, List, [], ◌∷◌, length, get_or, refl, sym, ◌∙◌, ap, arith, Option, Some, None}
use Rattle.std.specs.List.{refill}
use Rattle.std.proofs.Math.ListN.{set, length-set}
use Rattle.std.proofs.lemmas.Grind.{common_steps}
use Rattle.std.proofs.lemmas.List.{set-get_or}
use Rattle.std.proofs.lemmas.Option.{unwrap_or-slice_get, slice_get_read}
use Rattle.qx_isolation.specs.Rows.{row_at, with_row}

-- a row is what stands in its place
pub row_at-get_or : {A : Type 0} (xs : List (Option A)) (n : ℕ) → row_at xs n ≡ get_or xs n None
row_at-get_or xs n = unwrap_or-slice_get xs n None

pub row_at-place : {A : Type 0} (xs : List (Option A)) (n : ℕ) (place : Option A) → n < length xs → place ≡ get_or xs n place → row_at xs n ≡ place
row_at-place xs n place lt is = rw (slice_get_read xs (length xs) n place refl lt is)

pub refill-set : {A : Type 0} (xs : List A) (n : ℕ) (x : A) → refill (length xs) xs (set xs n x) ≡ set xs n x
refill-set xs n x = grind (arith, common_steps, length-set xs n x)

-- no row is there to be changed
pub with_row-none : {A : Type 0} (xs : List (Option A)) (n : ℕ) (f : A → A) → row_at xs n ≡ None → with_row xs n f ≡ xs
with_row-none xs n f is = rw is (ap (λ r. set xs n r) (sym is ∙ row_at-get_or xs n) ∙ set-get_or xs n None)

-- an empty place that was read and is written back
pub unchanged_row : {A : Type 0} (xs ys : List (Option A)) (n : ℕ) (f : A → A) → ys ≡ xs → n < length xs → get_or ys n None ≡ None → refill (length xs) xs (set ys n (get_or ys n None)) ≡ with_row xs n f
unchanged_row xs ys n f same lt free =
    rw (same, refill-set xs n (get_or xs n None), set-get_or xs n None, with_row-none xs n f (row_at-get_or xs n ∙ rw same at free))

-- a row that was copied out of its place and is written back changed
pub changed_place : {A : Type 0} (xs ys : List (Option A)) (n : ℕ) (f : A → A) (x y : A) → ys ≡ xs → get_or ys n None ≡ Some x → y ≡ f x → refill (length xs) xs (set ys n (Some y)) ≡ with_row xs n f
changed_place xs ys n f x y same is change = rw (same, refill-set xs n (Some y), row_at-get_or xs n, rw same at is, change)

-- what was read from a place and is written back changes nothing
pub set-same : {A : Type 0} (xs : List A) (n : ℕ) (x : A) → x ≡ get_or xs n x → set xs n x ≡ xs
set-same xs n x read = ap (λ y. set xs n y) read ∙ set-get_or xs n x

-- a row put back where it stands changes nothing
pub set-row : {A : Type 0} (xs : List (Option A)) (n : ℕ) (x : A) → row_at xs n ≡ Some x → set xs n (Some x) ≡ xs
set-row xs n x is = ap (λ y. set xs n y) (sym is ∙ row_at-get_or xs n) ∙ set-get_or xs n None

-- what is read at a place that is there is the same, whatever stands for one that is not
pub same_default : {A : Type 0} (rows : List A) (place : ℕ) (one other : A) → place < length rows → get_or rows place one ≡ get_or rows place other
same_default [] place one other within = absurd (omega arith)
same_default (row ∷ rows) zero one other within = refl
same_default (row ∷ rows) (suc place) one other within = same_default rows place one other (omega (arith, within))
