use Rattle.std.proofs.Common.{ap, ◌∙◌}
use Rattle.qx_shared.proofs.CallLemmas.{threads-none}
use Rattle.qx_shared.proofs.OwnLemmas.{all-same, removed-pipes, removed-told, removed-users}
use Rattle.qx_shared.specs.inner.Own.{shown_shared}
use Rattle.qx_shared.proofs.shared.Shared.remove_process.Goals as goal

pub remove_process-requires-clause-no_call : goal.remove_process-requires-clause-no_call
remove_process-requires-clause-no_call c = threads-none c.self.inside.queues c.self.inside.pipes.items c.self.invariant c.args.proc (rw (← c.self.view_is) at c.requires.no_call) (rw (← c.self.view_is) at c.requires.no_answer)

pub invariant_of-self : goal.invariant_of-self
invariant_of-self c = all-same c.self.inside.queues c.remove_process.new.self c.self.inside.pipes.items (ap (λ q. q.pipes) c.remove_process.ensures.removed ∙ removed-pipes c.self.inside.queues c.args.proc) (ap (λ q. q.users) c.remove_process.ensures.removed ∙ removed-users c.self.inside.queues c.args.proc) c.self.invariant

pub returns-clause-removed : goal.returns-clause-removed
returns-clause-removed c = rw (← c.self.view_is) (ap (λ q. shown_shared q c.self.inside.pipes.items) c.remove_process.ensures.removed ∙ removed-told c.self.inside.queues c.self.inside.pipes.items c.args.proc)
