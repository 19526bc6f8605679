use Rattle.std.proofs.Common.{rules, refl, ◌∙◌}
use Rattle.qx_resources.proofs.KeptLemmas.{replied_alone}
use Rattle.qx_resources.proofs.blocks.fstat.Goals as goal

pub returns-clause-did : goal.returns-clause-did
returns-clause-did c = λ tables.
    rw (c.in_ok-opened.was, ← c.state.view_is)
    (replied_alone c.state.inside.store c.state.inside.store tables c.tell.new.reply c.tell.result c.map.result _
    (λ r. c.tell.ensures.told _ ∙ c.fstat.ensures.status r) refl (search rules) (search rules))
