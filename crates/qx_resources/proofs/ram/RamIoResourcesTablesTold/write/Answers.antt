use Rattle.std.proofs.Common.{rules, ◌≡◌, Err, Ok, []}
use Rattle.qx_resources.proofs.KeptLemmas.{blank-wanted, replied_alone}
use Rattle.qx_resources.specs.State.{told}
use Rattle.qx_resources.specs.contracts.resources.Resources.{the_view}
use Rattle.qx_resources.proofs.ram.RamIoResourcesTablesTold.write.Goals as goal

pub returns-in_err-written-clause-wanted : goal.returns-in_err-written-clause-wanted
returns-in_err-written-clause-wanted c =
    let failed : c.from_residual.result ≡ Err c.in_err-written.field-0.0 = search rules in
    rw (failed, c.in-Ok.is, ← c.state.view_is) (blank-wanted (told (the_view c.state.inside) c.args._tables.now) (Ok c.in-Ok.opened) c.args.bytes.now _ (c.in_err-written.ensures.wanted (told (the_view c.state.inside) c.args._tables.now)))

pub returns-clause-did : goal.returns-clause-did
returns-clause-did c =
    rw (c.in-Ok.is, ← c.state.view_is)
    (replied_alone c.state.inside.store c.write.new.store c.args._tables.now [] c.in_ok-written.written c.map.result _
    c.in_ok-written.ensures.written c.in_ok-written.ensures.user (search rules) (search rules))
