use Rattle.std.proofs.Common.{rules, [], refl}
use Rattle.qx_iofunc.specs.Given.{done}
use Rattle.qx_resources.proofs.KeptLemmas.{told_alone}
use Rattle.qx_resources.proofs.ram.RamConnectResourcesTablesTold.rename.Goals as goal

pub returns-clause-did : goal.returns-clause-did
returns-clause-did c =
    rw (c.in_ok-root.was, ← c.state.view_is)
    (told_alone c.state.inside.store c.rename-renamed.new.self c.args._tables.now [] done (λ _. 0) (λ _ _. refl) (λ _ _. refl) c.rename-renamed.result c.map.result _
    c.rename-renamed.ensures.renamed c.rename-renamed.ensures.user (search rules) (search rules))
