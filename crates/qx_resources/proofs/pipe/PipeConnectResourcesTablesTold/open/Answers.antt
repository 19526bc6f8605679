use Rattle.std.proofs.Common.{rules, ◌≡◌, [], Err, refl}
use Rattle.qx_machine.specs.declared.rows.Effect.TheVariants.{Opens}
use Rattle.qx_pipes.specs.Pipes.{open_of_block}
use Rattle.qx_resources.proofs.KeptLemmas.{told_so}
use Rattle.qx_resources.specs.State.{told}
use Rattle.qx_resources.specs.contracts.resources.Resources.{the_view}
use Rattle.qx_resources.proofs.pipe.PipeConnectResourcesTablesTold.open.Goals as goal

pub returns-in_err-opened-clause-wanted : goal.returns-in_err-opened-clause-wanted
returns-in_err-opened-clause-wanted c =
    let failed : c.from_residual.result ≡ Err c.in_err-opened.field-0.0 = search rules in
    rw (failed, c.in-Ok.is, ← c.state.view_is) (c.in_err-opened.ensures.wanted (told (the_view c.state.inside) c.args.tables.now))

pub returns-clause-did : goal.returns-clause-did
returns-clause-did c =
    let coid = c.in-Ok.over.coid in
    let does = c.in_ok-opened.ensures in
    rw (c.in-Ok.is, ← c.state.view_is)
    (told_so c.args.tables.now.mounts c.state.inside.store.stored c.open.new.store.stored c.args.tables.now.shared c.open.new.shared c.args.tables.now.events [] (open_of_block coid) (λ _. coid.0) (λ number. Opens coid number) (λ _ _. refl) (λ _ _. refl) c.in_ok-opened.opened c.map.result _
    does.left does.opened does.user refl (search rules))
