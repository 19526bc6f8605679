use Rattle.std.proofs.Common.{ap, ◌∙◌}
use Rattle.qx_shared.proofs.AbandonLemmas.{abandoned-all, abandoned-told}
use Rattle.qx_shared.specs.inner.Own.{shown_shared}
use Rattle.qx_shared.proofs.shared.Shared.abandon.Goals as goal

pub invariant_of-self : goal.invariant_of-self
invariant_of-self c = rw c.abandon.ensures (abandoned-all c.self.inside.queues c.self.inside.pipes.items c.self.invariant c.args.proc)

pub returns : goal.returns
returns c = rw (← c.self.view_is) (record { abandoned = ap (λ q. shown_shared q c.self.inside.pipes.items) c.abandon.ensures ∙ abandoned-told c.self.inside.queues c.self.inside.pipes.items c.self.invariant c.args.proc })
