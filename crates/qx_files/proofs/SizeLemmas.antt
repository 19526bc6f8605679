-- The sum of the sizes of files, as one of them changes.
use Rattle.std.proofs.Common.{◌≡◌, ℕ, zero, suc, ◌+◌, ◌-◌, ◌≤◌, List, [], ◌∷◌, length, get_or, sym, ap, ◌∙◌, arith, Option, Some, None, slice_set, refl}
use Rattle.std.specs.List.{sum_by}
use Rattle.std.proofs.lemmas.List.Sums.{sum_by-cons, sum_by-set}
use Rattle.std.proofs.lemmas.Option.{unwrap_or-slice_get}
use Rattle.qx_attr.proofs.CountLemmas.{row-set_same, within_table}
use Rattle.qx_machine.specs.Files.{size_of}
use Rattle.qx_isolation.specs.Rows.{row_at, with_row}
use Rattle.qx_rows.proofs.RowLemmas.{with_row-none}

pub total_set : (contents : List (Option (List ℕ))) (n : ℕ) (bytes : List ℕ) (now : Option (List ℕ)) → row_at contents n ≡ Some bytes → sum_by size_of (slice_set contents n now) + length bytes ≡ sum_by size_of contents + size_of now
total_set contents n bytes now is =
    let set = sum_by-set size_of contents n now None (within_table contents n bytes is) in
    let was : size_of (get_or contents n None) ≡ length bytes = ap size_of (sym (unwrap_or-slice_get contents n None) ∙ is) in
    omega (arith, set, was)

pub size_within : (contents : List (Option (List ℕ))) (n : ℕ) (bytes : List ℕ) → row_at contents n ≡ Some bytes → length bytes ≤ sum_by size_of contents
size_within contents n bytes is = let freed = total_set contents n bytes None is in omega (arith, freed)

pub size_le : (contents : List (Option (List ℕ))) (n : ℕ) → size_of (row_at contents n) ≤ sum_by size_of contents
size_le contents n = by_row (row_at contents n) refl
  where
    by_row : (row : Option (List ℕ)) → row_at contents n ≡ row → size_of row ≤ sum_by size_of contents
    by_row None is = omega arith
    by_row (Some bytes) is = size_within contents n bytes is

-- one file's bytes change, if it is there
pub total_with : (contents : List (Option (List ℕ))) (n : ℕ) (change : List ℕ → List ℕ) → sum_by size_of (with_row contents n change) + size_of (row_at contents n) ≡ sum_by size_of contents + size_of (row_at (with_row contents n change) n)
total_with contents n change = by_row (row_at contents n) refl
  where
    by_row : (row : Option (List ℕ)) → row_at contents n ≡ row → sum_by size_of (with_row contents n change) + size_of (row_at contents n) ≡ sum_by size_of contents + size_of (row_at (with_row contents n change) n)
    by_row None is = rw (with_row-none contents n change is) refl
    by_row (Some bytes) is = rw (is, row-set_same contents n bytes (change bytes) is) (total_set contents n bytes (Some (change bytes)) is)

-- the sum that is kept beside the files
pub after_total : (contents now : List (Option (List ℕ))) (n total before after : ℕ) (change : List ℕ → List ℕ) → now ≡ with_row contents n change → total ≡ sum_by size_of contents → before ≡ size_of (row_at contents n) → after ≡ size_of (row_at now n) → total - before + after ≡ sum_by size_of now
after_total contents now n total before after change is summed was has =
    let sum = total_with contents n change in
    let le = size_le contents n in
    let is_size : after ≡ size_of (row_at (with_row contents n change) n) = has ∙ ap (λ l. size_of (row_at l n)) is in
    ap (λ k. total - before + k) is_size ∙ (omega (arith, sum, le, summed, was) ∙ ap (sum_by size_of) (sym is))

-- a file that comes has no bytes
pub total_new : (contents : List (Option (List ℕ))) (n : ℕ) → row_at contents n ≡ None → sum_by size_of (slice_set contents n (Some [])) ≡ sum_by size_of contents
total_new [] n free = refl
total_new (None ∷ contents) zero free = refl
total_new (Some bytes ∷ contents) zero free = absurd (cc)
total_new (place ∷ contents) (suc n) free =
    sum_by-cons size_of place (slice_set contents n (Some [])) ∙ (ap (λ sum. size_of place + sum) (total_new contents n free) ∙ sym (sum_by-cons size_of place contents))

-- two tables whose rows come to the same numbers
pub same_sums : {A B : Type 0} (f : Option A → ℕ) (g : Option B → ℕ) (xs : List (Option A)) (ys : List (Option B)) → f None ≡ 0 → g None ≡ 0 → ((n : ℕ) → f (row_at xs n) ≡ g (row_at ys n)) → sum_by f xs ≡ sum_by g ys
same_sums f g [] [] f_none g_none same = refl
same_sums f g [] (y ∷ ys) f_none g_none same =
    let rest : 0 ≡ sum_by g ys = same_sums f g [] ys f_none g_none (λ n. same (suc n)) in
    let head : f None ≡ g y = same 0 in
    let sum = sum_by-cons g y ys in
    omega (arith, rest, head, sum, f_none)
same_sums f g (x ∷ xs) [] f_none g_none same =
    let rest : sum_by f xs ≡ 0 = same_sums f g xs [] f_none g_none (λ n. same (suc n)) in
    let head : f x ≡ g None = same 0 in
    let sum = sum_by-cons f x xs in
    omega (arith, rest, head, sum, g_none)
same_sums f g (x ∷ xs) (y ∷ ys) f_none g_none same =
    let rest : sum_by f xs ≡ sum_by g ys = same_sums f g xs ys f_none g_none (λ n. same (suc n)) in
    let head : f x ≡ g y = same 0 in
    let one = sum_by-cons f x xs in
    let two = sum_by-cons g y ys in
    omega (arith, rest, head, one, two)
