-- Rows under numbers: what a write to one place does to the others.
use Rattle.std.proofs.Common.{◌≡◌, ◌≢◌, ◌⊎◌, inl, inr, ℕ, zero, suc, ◌+◌, ◌-◌, ◌<◌, ◌≤◌, add-one, List, [], ◌∷◌, drop, length, refl, sym, ap, ◌∙◌, arith}
use Rattle.std.specs.Prelude.{Option, Some, None, slice_get, slice_set, map, unwrap_or}
use Rattle.std.proofs.lemmas.List.{set-get_or, get_or-set_other, get_or-drop}
use Rattle.std.proofs.lemmas.Option.{unwrap_or-slice_get}
use Rattle.qx_isolation.specs.Rows.{row_at, taken_places, lowest_from}

module _ {A : Type 0} where
  pub row_at-set_other : (places : List (Option A)) (i j : ℕ) (row : Option A) → j ≢ i → row_at (slice_set places i row) j ≡ row_at places j
  row_at-set_other places i j row differ =
      unwrap_or-slice_get (slice_set places i row) j None ∙ (get_or-set_other places i j row None differ ∙ sym (unwrap_or-slice_get places j None))

  -- a row that is there was there, or is the one that was put
  pub row_at-set_cases : (places : List (Option A)) (i j : ℕ) (row : Option A) (there : A) → row_at (slice_set places i row) j ≡ Some there → (row_at places j ≡ Some there) ⊎ (row ≡ Some there)
  row_at-set_cases [] i j row there is = inl is
  row_at-set_cases (x ∷ places) zero zero row there is = inr is
  row_at-set_cases (x ∷ places) zero (suc j) row there is = inl is
  row_at-set_cases (x ∷ places) (suc i) zero row there is = inl is
  row_at-set_cases (x ∷ places) (suc i) (suc j) row there is = row_at-set_cases places i j row there is

  pub set-row_at : (places : List (Option A)) (i : ℕ) → slice_set places i (row_at places i) ≡ places
  set-row_at places i = ap (slice_set places i) (unwrap_or-slice_get places i None) ∙ set-get_or places i None

  -- in a table of the same length there is the same place, or none
  pub set-row_at_set : (places others : List (Option A)) (i : ℕ) (row : Option A) → length others ≡ length places → slice_set places i (row_at (slice_set others i row) i) ≡ slice_set places i row
  set-row_at_set [] others i row long = refl
  set-row_at_set (x ∷ places) [] i row long = absurd (omega arith)
  set-row_at_set (x ∷ places) (y ∷ others) zero row long = refl
  set-row_at_set (x ∷ places) (y ∷ others) (suc i) row long = ap (λ l. x ∷ l) (set-row_at_set places others i row (omega arith))

  pub row_at-set_row_at : (places others : List (Option A)) (i : ℕ) → length others ≡ length places → row_at (slice_set places i (row_at others i)) i ≡ row_at others i
  row_at-set_row_at [] [] i long = refl
  row_at-set_row_at [] (y ∷ others) i long = absurd (omega arith)
  row_at-set_row_at (x ∷ places) [] i long = absurd (omega arith)
  row_at-set_row_at (x ∷ places) (y ∷ others) zero long = refl
  row_at-set_row_at (x ∷ places) (y ∷ others) (suc i) long = row_at-set_row_at places others i (omega arith)

  -- the lowest free number

  row_at-drop : (places : List (Option A)) (first i : ℕ) → row_at (drop first places) i ≡ row_at places (first + i)
  row_at-drop places first i = unwrap_or-slice_get (drop first places) i None ∙ (get_or-drop first places i None ∙ sym (unwrap_or-slice_get places (first + i) None))

  taken_places_free : (places : List (Option A)) → row_at places (taken_places places) ≡ None
  taken_places_free [] = refl
  taken_places_free (None ∷ places) = refl
  taken_places_free (Some row ∷ places) = rw add-one (taken_places_free places)

  taken_places_taken : (places : List (Option A)) (i : ℕ) → i < taken_places places → row_at places i ≢ None
  taken_places_taken [] i below = absurd (omega arith)
  taken_places_taken (None ∷ places) i below = absurd (omega arith)
  taken_places_taken (Some row ∷ places) zero below = λ none. absurd (cc)
  taken_places_taken (Some row ∷ places) (suc i) below = taken_places_taken places i (omega arith)

  pub lowest_from_free : (first : ℕ) (places : List (Option A)) → row_at places (lowest_from first places) ≡ None
  lowest_from_free first places = sym (row_at-drop places first (taken_places (drop first places))) ∙ taken_places_free (drop first places)

  pub lowest_from_lowest : (first number : ℕ) (places : List (Option A)) → first ≤ number → number < lowest_from first places → row_at places number ≢ None
  lowest_from_lowest first number places from below =
      let at : first + (number - first) ≡ number = omega arith in
      λ none. taken_places_taken (drop first places) (number - first) (omega arith) (row_at-drop places first (number - first) ∙ (ap (row_at places) at ∙ none))

module _ {A B : Type 0} (f : A → B) where
  pub at-map : (places : List A) (i : ℕ) (d : A) (e : B) → f d ≡ e → unwrap_or (slice_get (map f places) i) e ≡ f (unwrap_or (slice_get places i) d)
  at-map [] i d e none = sym none
  at-map (x ∷ places) zero d e none = refl
  at-map (x ∷ places) (suc i) d e none = at-map places i d e none

  -- a write that f cannot tell from what was there
  pub map-set_unseen : (places : List A) (i : ℕ) (d row : A) → f row ≡ f (unwrap_or (slice_get places i) d) → map f (slice_set places i row) ≡ map f places
  map-set_unseen [] i d row same = refl
  map-set_unseen (x ∷ places) zero d row same = ap (λ y. y ∷ map f places) same
  map-set_unseen (x ∷ places) (suc i) d row same = ap (λ l. f x ∷ l) (map-set_unseen places i d row same)
