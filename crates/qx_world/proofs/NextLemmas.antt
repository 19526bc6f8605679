-- What is told of all managers, where those whose lines are empty are passed over.
use Rattle.std.proofs.Common.{◌≡◌, ◌∙◌, ◌∷◌, [], ◌+◌, ◌≤◌, List, ℕ, zero, suc, Bool, true, false, Some, None, cond, drop, find, slice_get, refl, ap, sym, arith}
use Rattle.std.proofs.lemmas.List.{drop-drop}
use Rattle.std.proofs.lemmas.Option.{same_Some}
use Rattle.qx_types.specs.Managers.{manager_number, managers}
use Rattle.qx_types.specs.declared.names.Manager.{Manager}
use Rattle.qx_types.proofs.Managers.{number_at}

at_drop : {A : Type 0} (n : ℕ) (xs : List A) (k : ℕ) → slice_get (drop n xs) k ≡ slice_get xs (n + k)
at_drop zero xs k = let e : k ≡ 0 + k = omega arith in ap (slice_get xs) e
at_drop (suc n) [] k = refl
at_drop (suc n) (x ∷ xs) k = let e : suc (n + k) ≡ suc n + k = omega arith in at_drop n xs k ∙ ap (slice_get (x ∷ xs)) e

-- the first value that passes a test, its place, and what is told of the values where those before it tell nothing
record First {X B : Type 0} (p : X → Bool) (told : List X → B) (xs : List X) (x : X) : Type 0 where
  place : ℕ
  there : slice_get xs place ≡ Some x
  passes : p x ≡ true
  same : told xs ≡ told (x ∷ drop (suc place) xs)

module _ {X B : Type 0} (p : X → Bool) (told : List X → B) (skip : (x : X) (rest : List X) → p x ≡ false → told (x ∷ rest) ≡ told rest) where
  first_of : (xs : List X) (x : X) → find p xs ≡ Some x → First p told xs x
  first_of [] x is = absurd (cc)
  first_of (y ∷ xs) x is = by_test (first_of xs x) (p y) refl
    where
      by_test : (find p xs ≡ Some x → First p told xs x) → (test : Bool) → p y ≡ test → First p told (y ∷ xs) x
      by_test next true here =
          let same : y ≡ x = same_Some y x (ap (λ t. cond t (Some y) (find p xs)) (sym here) ∙ is) in
          record { place = 0; there = ap Some same; passes = ap p (sym same) ∙ here; same = ap (λ z. told (z ∷ xs)) same }
      by_test next false here =
          let later = next (ap (λ t. cond t (Some y) (find p xs)) (sym here) ∙ is) in
          record { place = suc later.place; there = later.there; passes = later.passes; same = skip y xs here ∙ later.same }

  none_told : (xs : List X) → find p xs ≡ None → told xs ≡ told []
  none_told [] is = refl
  none_told (y ∷ xs) is = by_test (none_told xs) (p y) refl
    where
      by_test : (find p xs ≡ None → told xs ≡ told []) → (test : Bool) → p y ≡ test → told (y ∷ xs) ≡ told []
      by_test next true here = let clash : Some y ≡ None = ap (λ t. cond t (Some y) (find p xs)) (sym here) ∙ is in absurd (cc)
      by_test next false here = skip y xs here ∙ next (ap (λ t. cond t (Some y) (find p xs)) (sym here) ∙ is)

-- of the managers from a number on the first one for which something waits; from there on goes what is told of them
pub record Next {B : Type 0} (p : Manager → Bool) (told : List Manager → B) (number : ℕ) (manager : Manager) : Type 0 where
  pub behind : number ≤ manager_number manager
  pub passes : p manager ≡ true
  pub same : told (drop number managers) ≡ told (manager ∷ drop (manager_number manager + 1) managers)

pub next_told : {B : Type 0} (p : Manager → Bool) (told : List Manager → B) → ((x : Manager) (rest : List Manager) → p x ≡ false → told (x ∷ rest) ≡ told rest) → (number : ℕ) (manager : Manager) → Some manager ≡ find p (drop number managers) → Next p told number manager
next_told p told skip number manager is =
    let first = first_of p told skip (drop number managers) manager (sym is) in
    let own : manager_number manager ≡ number + first.place = number_at (number + first.place) manager (sym (at_drop number managers first.place) ∙ first.there) in
    let after : number + suc first.place ≡ manager_number manager + 1 = omega (arith, own) in
    record {
      behind = omega (arith, own);
      passes = first.passes;
      same = first.same ∙ ap (λ rest. told (manager ∷ rest)) (drop-drop (suc first.place) number managers ∙ ap (λ n. drop n managers) after);
    }

pub none_told_from : {B : Type 0} (p : Manager → Bool) (told : List Manager → B) → ((x : Manager) (rest : List Manager) → p x ≡ false → told (x ∷ rest) ≡ told rest) → (number : ℕ) → None ≡ find p (drop number managers) → told (drop number managers) ≡ told []
none_told_from p told skip number is = none_told p told skip (drop number managers) (sym is)
