use Rattle.qx_shared.proofs.CallLemmas.{no_call}
use Rattle.qx_shared.proofs.shared.Shared.send.Goals as goal

pub send-requires-clause-no_call : goal.send-requires-clause-no_call
send-requires-clause-no_call c = no_call c.self.inside.queues c.self.inside.pipes.items c.self.invariant c.args.thread (rw (← c.self.view_is) at c.requires.no_call)
