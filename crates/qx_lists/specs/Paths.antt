-- Paths along links that go both ways. No public clause cites this module.
use Rattle.std.specs.Prelude.{◌≡◌, ℕ, List, [], ◌∷◌, Option, None, Some, refl}
use Rattle.std.proofs.Common.{sym, ◌∙◌}
use Rattle.std.proofs.Props.{props}

-- what comes right after and right before a place of one list's ring. None is the place of the list itself
pub record Ways : Type 0 where
  pub next : Option ℕ → Option (Option ℕ)
  pub previous : Option ℕ → Option (Option ℕ)

-- q comes right after p
abbrev pub IsStep : Ways → Option ℕ → Option ℕ → Type 0
IsStep w p q = (w.next p ≡ Some q) × (w.previous q ≡ Some p)

-- from p through the nodes to q
abbrev pub IsPath : Ways → Option ℕ → List ℕ → Option ℕ → Type 0
IsPath w p [] q = IsStep w p q
IsPath w p (node ∷ nodes) q = IsStep w p (Some node) × IsPath w (Some node) nodes q

-- the links lead through one list of nodes alone
pub same_path : (w : Ways) (p : Option ℕ) (xs ys : List ℕ) → IsPath w p xs None → IsPath w p ys None → xs ≡ ys
same_path w p [] [] a b = refl
same_path w p [] (y ∷ ys) a b = let clash : Some None ≡ Some (Some y) = sym a.0 ∙ b.0.0 in cc
same_path w p (x ∷ xs) [] a b = let clash : Some None ≡ Some (Some x) = sym b.0 ∙ a.0.0 in cc
same_path w p (x ∷ xs) (y ∷ ys) a b =
    let both : Some (Some x) ≡ Some (Some y) = sym a.0.0 ∙ b.0.0 in
    let first : x ≡ y = cc in
    let rest : IsPath w (Some x) ys None = rw first b.1 in
    let later = same_path w (Some x) xs ys a.1 rest in
    λ i. first i ∷ later i

pub IsPath-prop : (w : Ways) (p : Option ℕ) (xs : List ℕ) (q : Option ℕ) → IsProp (IsPath w p xs q)
IsPath-prop w p [] q = hlevel props
IsPath-prop w p (x ∷ xs) q = hlevel (props, IsPath-prop w (Some x) xs q)
