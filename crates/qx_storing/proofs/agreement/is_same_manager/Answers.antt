use Rattle.std.proofs.Common.{◌≡◌, ◌≢◌, ◌==◌, ◌∙◌, MatchBool, Bool, ap, ap₂, inl, inr, subst, sym}
use Rattle.std.proofs.lemmas.Bool.Decides.{eqb_tells}
use Rattle.qx_types.specs.Managers.{manager_number}
use Rattle.qx_types.specs.declared.names.Manager.{Manager}
use Rattle.qx_types.proofs.Managers.{same_manager}
use Rattle.qx_storing.proofs.agreement.is_same_manager.Goals as goal

-- managers are the same where their numbers are
by_numbers : (one other : Manager) (result : Bool) → result ≡ (manager_number one == manager_number other) → MatchBool result (one ≡ other) (one ≢ other)
by_numbers one other result is = elim (eqb_tells (manager_number one) (manager_number other)) [
  | inl same ↦ subst (λ r. MatchBool r (one ≡ other) (one ≢ other)) (sym (is ∙ same.0)) (same_manager one other same.1)
  | inr differs ↦ subst (λ r. MatchBool r (one ≡ other) (one ≢ other)) (sym (is ∙ differs.0)) (λ same. differs.1 (ap manager_number same))
]

pub returns : goal.returns
returns c = by_numbers c.args.left c.args.right _ (ap₂ (λ a b. a == b) c.number.ensures.number c.number-2.ensures.number)
