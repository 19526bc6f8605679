use Rattle.std.proofs.Common.{rules, ◌≡◌, inl, inr, true, false, Err}
use Rattle.std.proofs.lemmas.Bool.{cases_Bool}
use Rattle.demo_managers.proofs.ArmLemmas.{wanted}
use Rattle.demo_managers.proofs.null.NullIoKeptAllEventsTold.notify.Goals as goal

pub returns-in_err-given-clause-wanted : goal.returns-in_err-given-clause-wanted
returns-in_err-given-clause-wanted c =
    let failed : c.from_residual.result ≡ Err c.in_err-given.field-0.0 = search rules in
    rw (failed, c.in-Ok.is)
    (wanted _ c.in-Ok.opened c.args.action c.args.wish (search rules) (elim (cases_Bool _) [
      | inl arms ↦ arms
      | inr none ↦ let clash : false ≡ true = c.in_err-given.ensures.sure (rw (← c.state.view_is) at none) in absurd (cc)
    ]))
