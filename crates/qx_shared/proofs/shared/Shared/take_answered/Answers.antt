use Rattle.std.proofs.Common.{ap}
use Rattle.qx_shared.proofs.CallLemmas.{no_call-taken}
use Rattle.qx_shared.proofs.OwnLemmas.{all-same}
use Rattle.qx_shared.proofs.shared.Shared.take_answered.Goals as goal

pub returns-clause-gone : goal.returns-clause-gone
returns-clause-gone c = no_call-taken c.take_answered.new.self c.self.inside.pipes.items (all-same c.self.inside.queues c.take_answered.new.self c.self.inside.pipes.items (ap (λ q. q.pipes) c.take_answered.ensures.rest) (ap (λ q. q.users) c.take_answered.ensures.rest) c.self.invariant) (λ taken. taken.thread) c.take_answered.result c.take_answered.ensures.gone
