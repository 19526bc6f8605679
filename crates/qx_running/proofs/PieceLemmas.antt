-- A piece of a list, one item longer, and whole.
use Rattle.std.proofs.Common.{◌≡◌, ◌∙◌, ◌∷◌, ◌++◌, ◌+◌, ◌-◌, [], List, ℕ, Some, None, length, drop, take, min, slice_get, ap, sym, inl, inr, arith, length-drop, take_all}
use Rattle.std.proofs.lemmas.List.{get_or-drop, take_min, take_more}
use Rattle.std.proofs.lemmas.Option.{get_or_from_slice_get, slice_get_cases, slice_get_within}

pub copied_more : {A : Type 0} (xs : List A) (skipped n : ℕ) (x : A) → Some x ≡ slice_get xs (skipped + n) → take n (drop skipped xs) ++ x ∷ [] ≡ take (n + 1) (drop skipped xs)
copied_more xs skipped n x is =
    let within = slice_get_within xs (skipped + n) x (sym is) in
    let len = length-drop skipped xs in
    sym (take_more (drop skipped xs) n x (omega (arith, within, len)) ∙ ap (λ y. take n (drop skipped xs) ++ y ∷ []) (get_or-drop skipped xs n x ∙ get_or_from_slice_get xs (skipped + n) x x (sym is)))

none_some : {A : Type 0} (x : A) → None ≡ Some x → ⊥
none_some x is = cc

pub copied_none : {A : Type 0} (xs : List A) (skipped n : ℕ) → None ≡ slice_get xs (skipped + n) → take n (drop skipped xs) ≡ take (n + 1) (drop skipped xs)
copied_none xs skipped n is = elim (slice_get_cases xs (skipped + n)).1 [
  | inl there ↦ absurd (none_some there.0 (is ∙ there.2))
  | inr past ↦
      let le = past.0 in
      let len = length-drop skipped xs in
      take_all n (drop skipped xs) (omega (arith, le, len)) ∙ sym (take_all (n + 1) (drop skipped xs) (omega (arith, le, len)))
]

pub copied_all : {A : Type 0} (xs : List A) (skipped most : ℕ) → take (min most (length xs - skipped)) (drop skipped xs) ≡ take most (drop skipped xs)
copied_all xs skipped most = ap (λ n. take (min most n) (drop skipped xs)) (sym (length-drop skipped xs)) ∙ take_min most (drop skipped xs)
