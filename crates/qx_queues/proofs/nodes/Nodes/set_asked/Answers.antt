use Rattle.std.proofs.Common.{◌∙◌, sym, refl}
use Rattle.qx_queues.proofs.PresenceLemmas.{Asked-set}
use Rattle.qx_queues.proofs.nodes.Nodes.set_asked.Goals as goal

pub returns : goal.returns
returns c = record { asked = rw c.set.ensures.set (Asked-set c.args.self.now c.args.thread c.in-Some.own _ (sym c.at.ensures.own ∙ c.in-Some.is) (rw c.set.ensures.set at c.set.ensures.there) refl refl) }
