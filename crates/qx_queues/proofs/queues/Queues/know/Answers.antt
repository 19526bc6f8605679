use Rattle.qx_queues.proofs.WaitLemmas.{waits-once}
use Rattle.qx_queues.proofs.queues.Queues.know.Goals as goal

pub returns : goal.returns
returns c = record { once = λ thread. rw (← c.self.view_is) (waits-once c.self.inside.table c.self.inside.lines.items _ c.self.invariant.1 thread c.know.ensures.apart) }
