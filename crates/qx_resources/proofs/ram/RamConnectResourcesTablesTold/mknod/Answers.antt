use Rattle.std.proofs.Common.{rules, ◌≡◌, Err, [], refl}
use Rattle.qx_iofunc.specs.Given.{done}
use Rattle.qx_resources.proofs.KeptLemmas.{told_alone}
use Rattle.qx_resources.specs.State.{told}
use Rattle.qx_resources.specs.contracts.resources.Resources.{the_view}
use Rattle.qx_resources.proofs.ram.RamConnectResourcesTablesTold.mknod.Goals as goal

pub returns-in_err-made-clause-wanted : goal.returns-in_err-made-clause-wanted
returns-in_err-made-clause-wanted c =
    let failed : c.from_residual.result ≡ Err c.in_err-made.field-0.0 = search rules in
    rw (failed, c.in-Ok.is, ← c.state.view_is) (c.in_err-made.ensures.wanted (told (the_view c.state.inside) c.args._tables.now))

pub returns-clause-did : goal.returns-clause-did
returns-clause-did c =
    rw (c.in-Ok.is, ← c.state.view_is)
    (told_alone c.state.inside.store c.mkdir.new.self c.args._tables.now [] done (λ _. 0) (λ _ _. refl) (λ _ _. refl) c.in_ok-made.made c.map.result _
    c.in_ok-made.ensures.made c.in_ok-made.ensures.user (search rules) (search rules))
