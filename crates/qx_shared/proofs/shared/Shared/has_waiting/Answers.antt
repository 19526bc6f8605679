use Rattle.qx_shared.proofs.CallLemmas.{waits-is}
use Rattle.qx_shared.proofs.shared.Shared.has_waiting.Goals as goal

pub returns : goal.returns
returns c = rw (← c.self.view_is) (record { waits = waits-is c.self.inside.queues c.self.inside.pipes.items c.self.invariant c.args.proc c.has_waiting.result c.has_waiting.ensures.0 c.has_waiting.ensures.1 })
