use Rattle.std.proofs.Common.{rules, [], refl}
use Rattle.qx_iofunc.specs.Given.{unlink_given}
use Rattle.qx_machine.specs.declared.rows.Kind.TheVariants.{File}
use Rattle.qx_resources.proofs.KeptLemmas.{told_alone}
use Rattle.qx_resources.proofs.ram.RamConnectResourcesTablesTold.unlink.Goals as goal

pub returns-clause-did : goal.returns-clause-did
returns-clause-did c =
    rw (c.in_ok-root.was, ← c.state.view_is)
    (told_alone c.state.inside.store c.unlink-unlinked.new.self c.args._tables.now [] (unlink_given File) (λ _. 0) (λ _ _. refl) (λ _ _. refl) c.unlink-unlinked.result c.map.result _
    c.unlink-unlinked.ensures.unlinked c.unlink-unlinked.ensures.user (search rules) (search rules))
