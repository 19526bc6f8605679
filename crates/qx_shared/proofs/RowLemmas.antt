-- Numbered rows that are told in another way.
use Rattle.std.proofs.Common.{◌≡◌, ℕ, zero, suc, List, [], ◌∷◌, Option, Some, None, option_map, map, refl, ap, ap₂}
use Rattle.qx_isolation.specs.Rows.{row_at}

pub row_at-mapped : {A B : Type 0} (f : A → B) (rows : List (Option A)) (i : ℕ) → row_at (map (option_map f) rows) i ≡ option_map f (row_at rows i)
row_at-mapped f [] i = refl
row_at-mapped f (row ∷ rows) zero = refl
row_at-mapped f (row ∷ rows) (suc i) = row_at-mapped f rows i

-- rows that are read alike
pub rows-agree : {A B : Type 0} (f g : A → B) (rows : List (Option A)) → ((i : ℕ) (row : A) → row_at rows i ≡ Some row → f row ≡ g row) → map (option_map f) rows ≡ map (option_map g) rows
rows-agree f g [] same = refl
rows-agree f g (None ∷ rows) same = ap (λ l. None ∷ l) (rows-agree f g rows (λ i. same (suc i)))
rows-agree f g (Some row ∷ rows) same = ap₂ (λ x l. Some x ∷ l) (same 0 row refl) (rows-agree f g rows (λ i. same (suc i)))
