use Rattle.std.proofs.Common.{rules, [], refl}
use Rattle.qx_iofunc.specs.Given.{done}
use Rattle.qx_resources.proofs.KeptLemmas.{told_alone}
use Rattle.qx_resources.proofs.blocks.chmod.Goals as goal

pub returns-clause-did : goal.returns-clause-did
returns-clause-did c = λ tables.
    rw (c.in_ok-opened.was, ← c.state.view_is)
    (told_alone c.state.inside.store c.chmod.new.self tables [] done (λ _. 0) (λ _ _. refl) (λ _ _. refl) c.chmod.result c.map.result _
    c.chmod.ensures.changed c.chmod.ensures.user (search rules) (search rules))
