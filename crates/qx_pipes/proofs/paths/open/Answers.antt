use Rattle.std.proofs.Common.{rules, ◌≡◌, ◌∙◌, Err, refl, sym, subst}
use Rattle.std.specs.Prelude.{IsOk}
use Rattle.qx_machine.specs.Resources.{Resources}
use Rattle.qx_pipes.proofs.PipesLemmas.{refused}
use Rattle.qx_pipes.proofs.paths.open.Goals as goal
use Rattle.qx_pipes.specs.Pipes.{Follows, kind_with, seen}

pub returns-in-Err : goal.returns-in-Err
returns-in-Err c =
    let is = λ (r : Resources). sym (c.in-Err.ensures.opens (seen r c.args.store.now.stored c.args.shared.now) c.args.over.coid c.args.over.client (kind_with c.args.device) c.args.wish.mode c.args.wish.moment) in
    record { user = refl; opened = is; left = λ r. refused (is r) refl; err = tt; wanted = tt }

pub returns-in_err-number-clause-wanted : goal.returns-in_err-number-clause-wanted
returns-in_err-number-clause-wanted c =
    let failed : c.from_residual.result ≡ Err c.in_err-number.field-0.0 = search rules in
    let from = λ (r : Resources). seen r c.args.store.now.stored c.args.shared.now in
    rw failed (λ r. subst IsOk (sym (c.in-Ok.ensures.opens (from r) c.args.over.coid c.args.over.client (kind_with c.args.device) c.args.wish.mode c.args.wish.moment)) (c.in-Ok.ensures.allowed.opens (from r) c.args.over (kind_with c.args.device) c.args.wish.mode c.args.wish.moment))

pub returns : goal.returns
returns c =
    let does = c.in_ok-number.ensures in
    let is = λ (r : Resources). sym (c.in-Ok.ensures.opens (seen r c.args.store.now.stored c.args.shared.now) c.args.over.coid c.args.over.client (kind_with c.args.device) c.args.wish.mode c.args.wish.moment) in
    record { user = does.user; opened = λ r. sym (does.opened r) ∙ is r; left = λ r. subst (Follows _ _ _ _ r) (is r) (does.left r); err = tt; wanted = tt }
