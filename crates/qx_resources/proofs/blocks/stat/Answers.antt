use Rattle.std.proofs.Common.{rules, refl, ◌∙◌}
use Rattle.qx_resources.proofs.KeptLemmas.{replied_alone}
use Rattle.qx_resources.proofs.blocks.stat.Goals as goal

pub returns-clause-did : goal.returns-clause-did
returns-clause-did c = λ tables moment.
    rw (c.in_ok-root.was, ← c.state.view_is)
    (replied_alone c.state.inside.store c.state.inside.store tables c.tell.new.reply c.tell.result c.map.result _
    (λ r. c.tell.ensures.told _ ∙ c.stat.ensures.status r moment) refl (search rules) (search rules))
