-- When no two names are equal.
use Rattle.std.proofs.Common.{◌≡◌, ◌≢◌, ◌∙◌, sym, ℕ, ◌+◌, ◌<◌, List, length, get_or, take, true, false, true≢false, AllPairs, arith}
use Rattle.std.specs.List.{list_any}
use Rattle.std.specs.Str.{bytes_eq}
use Rattle.std.proofs.lemmas.Grind.{common_steps}
use Rattle.std.proofs.lemmas.List.{take_more}
use Rattle.std.proofs.lemmas.List.Folds.{list_any_at, Any-from_list_any}
use Rattle.std.proofs.lemmas.List.Quantifiers.{all_pairs_push}
use Rattle.std.proofs.lemmas.Slice.Eq.{bytes_eq-Decides}

abbrev pub AreDifferent : List (List ℕ) → Type 0
AreDifferent = AllPairs (λ one other. one ≢ other)

-- a name that differs from those before it leaves them different
pub different_more :
    (names : List (List ℕ)) (i : ℕ) (name : List ℕ) → i < length names → name ≡ get_or names i name
    → list_any (λ one. bytes_eq one name) (take i names) ≡ false → AreDifferent (take i names) → AreDifferent (take (i + 1) names)
different_more names i name within here new before =
    rw (take_more names i name within, ← here)
    (all_pairs_push (λ one other. one ≢ other) (take i names) name before
    (λ k d below same. true≢false (sym (list_any_at _ (take i names) k d below ((bytes_eq-Decides _ _).1 same)) ∙ new)))

-- a name that stands before is a pair of equal names
pub repeated_name :
    (names : List (List ℕ)) (i : ℕ) (name : List ℕ) → i < length names → name ≡ get_or names i name
    → list_any (λ one. bytes_eq one name) (take i names) ≡ true → AreDifferent names → ⊥
repeated_name names i name within here old different =
    let (k, one, below, there, same) = Any-from_list_any _ (take i names) old in
    let equal : one ≡ name = (bytes_eq-Decides one name).0 same in
    let earlier : k < i = grind (arith, common_steps) in
    different k i name earlier within (grind (arith, common_steps))
