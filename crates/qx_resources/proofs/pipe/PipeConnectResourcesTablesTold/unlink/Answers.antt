use Rattle.std.proofs.Common.{rules, [], refl}
use Rattle.qx_iofunc.specs.Given.{done}
use Rattle.qx_machine.specs.declared.rows.Effect.TheVariants.{Keeps}
use Rattle.qx_resources.proofs.KeptLemmas.{told_so}
use Rattle.qx_resources.proofs.pipe.PipeConnectResourcesTablesTold.unlink.Goals as goal

pub returns-clause-did : goal.returns-clause-did
returns-clause-did c =
    let does = c.unlink-unlinked.ensures in
    rw (c.in_ok-root.was, ← c.state.view_is)
    (told_so c.args.tables.now.mounts c.state.inside.store.stored c.unlink-unlinked.new.store.stored c.args.tables.now.shared c.unlink-unlinked.new.shared c.args.tables.now.events [] done (λ _. 0) (λ _. Keeps) (λ _ _. refl) (λ _ _. refl) c.unlink-unlinked.result c.map.result _
    does.left does.unlinked does.user refl (search rules))
