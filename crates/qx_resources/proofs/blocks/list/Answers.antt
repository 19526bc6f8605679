use Rattle.std.proofs.Common.{rules, refl}
use Rattle.qx_resources.proofs.KeptLemmas.{replied_alone}
use Rattle.qx_resources.proofs.blocks.list.Goals as goal

pub returns-clause-did : goal.returns-clause-did
returns-clause-did c = λ tables.
    rw (c.in_ok-opened.was, ← c.state.view_is)
    (replied_alone c.state.inside.store c.state.inside.store tables c.list.new.reply c.list.result c.map.result _
    c.list.ensures.listed refl (search rules) (search rules))
