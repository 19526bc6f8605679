use Rattle.std.proofs.Common.{rules, ◌≡◌, ◌∙◌, [], Err, Ok, refl, subst, sym}
use Rattle.std.specs.Prelude.{IsOk}
use Rattle.qx_machine.specs.declared.rows.Effect.TheVariants.{Opens}
use Rattle.qx_machine.specs.declared.rows.Kind.TheVariants.{File}
use Rattle.qx_machine.specs.Defaults.{open_path}
use Rattle.qx_resmgr.specs.Deeds.{Did}
use Rattle.qx_resources.proofs.KeptLemmas.{answered, refused}
use Rattle.qx_resources.specs.State.{state, told}
use Rattle.qx_resources.specs.contracts.resources.Resources.{the_view}
use Rattle.qx_resources.proofs.ram.RamConnectResourcesTablesTold.open.Goals as goal

pub returns-in-Err-lookup-clause-did : goal.returns-in-Err-lookup-clause-did
returns-in-Err-lookup-clause-did c =
    let tables = c.args._tables.now in
    let over = c.in-Ok.over in
    rw (c.in-Ok.is)
    (subst (λ k. Did state k tables k tables [] (Err c.in-Err-lookup.error) (open_path File (told k tables) over c.args.rest.now c.args.wish)) c.state.view_is
    (refused c.state.inside.store c.state.inside.store tables [] c.in-Err-lookup.error _ (λ r. sym (c.in-Err-lookup.ensures.opens r over.coid over.client File c.args.wish.mode c.args.wish.moment)) refl refl))

pub returns-in_err-opening-clause-wanted : goal.returns-in_err-opening-clause-wanted
returns-in_err-opening-clause-wanted c =
    let r = told (the_view c.state.inside) c.args._tables.now in
    let failed : c.from_residual.result ≡ Err c.in_err-opening.field-0.0 = search rules in
    let lookup = c.in-Ok-lookup.ensures in
    let over = c.in-Ok.over in
    rw (failed, c.in-Ok.is, ← c.state.view_is)
    (subst IsOk (sym (lookup.opens r over.coid over.client File c.args.wish.mode c.args.wish.moment)) (lookup.allowed.opens r over File c.args.wish.mode c.args.wish.moment))

pub returns-clause-did : goal.returns-clause-did
returns-clause-did c =
    let tables = c.args._tables.now in
    let over = c.in-Ok.over in
    rw (c.in-Ok.is)
    (subst (λ k. Did state k tables (the_view record { store = c.open.new.self }) tables [] (Ok c.opened.result) (open_path File (told k tables) over c.args.rest.now c.args.wish)) c.state.view_is
    (answered c.state.inside.store c.open.new.self tables [] over.coid.0 (Opens over.coid c.in_ok-opening.opening.number) c.opened.result _ c.opened.ensures
    (λ r. sym (c.in-Ok-lookup.ensures.opens r over.coid over.client File c.args.wish.mode c.args.wish.moment ∙ c.in_ok-opening.ensures.opened r over.coid over.root)) c.in_ok-opening.ensures.user))
