-- A map of any keys, one entry changed: what it gives at that key and at each other one.
use Rattle.std.specs.Prelude.{Some, None}
use Rattle.std.specs.Cmp.{IsTotalOrder, tied_itself}
use Rattle.std.specs.FinMap.{FinMap, IsAntisymmetric, get, get-insert, get-remove, insert, remove}
use Rattle.std.specs.Ordering.{eq_by_cmp, is_eq}
use Rattle.std.specs.declared.cmp.Ordering.{Ordering}
use Rattle.std.specs.declared.cmp.Ordering.TheVariants.{Less, Equal, Greater}
use Rattle.std.proofs.Common.{◌≡◌, Bool, true, false, cond, ap, refl, sym, ◌∙◌}
use mathlib.Core.Logic.{◌⊎◌, inl, inr}

pub Different : {A : Type 0} → A → A → Type 0
Different one two = one ≡ two → ⊥

pub is_equal : (r : Ordering) → is_eq r ≡ true → r ≡ Equal
is_equal Less e = cc
is_equal Equal e = refl
is_equal Greater e = cc

false_true : true ≡ false → ⊥
false_true e = cc

module _ {K : Type 0} {R : K → K → Ordering} (o : IsTotalOrder R) (same : IsAntisymmetric R) where
  pub tied : (one : K) → eq_by_cmp R one one ≡ true
  tied one = ap is_eq (tied_itself o one)

  same_by : (one two : K) (b : Bool) → eq_by_cmp R one two ≡ b → (one ≡ two) ⊎ (one ≡ two → ⊥)
  same_by one two true e = inl (same one two (is_equal _ e))
  same_by one two false e = inr (λ p. false_true (sym (tied one) ∙ ap (eq_by_cmp R one) p ∙ e))

  pub same_or_not : (one two : K) → (one ≡ two) ⊎ (one ≡ two → ⊥)
  same_or_not one two = same_by one two (eq_by_cmp R one two) refl

  untied_by : (one two : K) (b : Bool) → (one ≡ two → ⊥) → eq_by_cmp R one two ≡ b → eq_by_cmp R one two ≡ false
  untied_by one two true apart e = absurd (apart (same one two (is_equal _ e)))
  untied_by one two false apart e = e

  pub untied : (one two : K) → (one ≡ two → ⊥) → eq_by_cmp R one two ≡ false
  untied one two apart = untied_by one two (eq_by_cmp R one two) apart refl

  module _ {X : Type 0} (m : FinMap R X) (key : K) where
    pub inserted : (value : X) → get (insert m key value) key ≡ Some value
    inserted value = get-insert o m key value key ∙ ap (λ b. cond b (Some value) (get m key)) (tied key)

    pub inserted_apart : (value : X) (other : K) → (other ≡ key → ⊥) → get (insert m key value) other ≡ get m other
    inserted_apart value other apart = get-insert o m key value other ∙ ap (λ b. cond b (Some value) (get m other)) (untied other key apart)

    pub removed : get (remove m key) key ≡ None
    removed = get-remove o m key key ∙ ap (λ b. cond b None (get m key)) (tied key)

    pub removed_apart : (other : K) → (other ≡ key → ⊥) → get (remove m key) other ≡ get m other
    removed_apart other apart = get-remove o m key other ∙ ap (λ b. cond b None (get m other)) (untied other key apart)
