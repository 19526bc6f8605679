use Rattle.std.proofs.Common.{ap, ◌∙◌}
use Rattle.qx_shared.proofs.OwnLemmas.{all-same, process-pipes, process-told, process-users}
use Rattle.qx_shared.specs.inner.Own.{shown_shared}
use Rattle.qx_shared.proofs.shared.Shared.add_process.Goals as goal

pub invariant_of-self : goal.invariant_of-self
invariant_of-self c = all-same c.self.inside.queues c.add_process.new.self c.self.inside.pipes.items (ap (λ q. q.pipes) c.add_process.ensures.added ∙ process-pipes c.self.inside.queues c.args.proc c.args.threads) (ap (λ q. q.users) c.add_process.ensures.added ∙ process-users c.self.inside.queues c.args.proc c.args.threads) c.self.invariant

pub returns : goal.returns
returns c = rw (← c.self.view_is) (record { added = ap (λ q. shown_shared q c.self.inside.pipes.items) c.add_process.ensures.added ∙ process-told c.self.inside.queues c.self.inside.pipes.items c.args.proc c.args.threads })
