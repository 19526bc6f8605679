use Rattle.qx_queues.proofs.AbandonLemmas.{messages-there, waits-told}
use Rattle.qx_queues.proofs.queues.Queues.has_waiting.Goals as goal

pub any_waits-requires : goal.any_waits-requires
any_waits-requires c = record { there = messages-there c.self.inside.table c.self.inside.lines.items c.self.inside.nodes c.self.invariant.1 c.args.proc c.threads.result.now c.threads.ensures.own }

pub returns : goal.returns
returns c = rw (← c.self.view_is) (waits-told c.self.inside.table c.self.inside.lines.items c.self.inside.nodes c.self.invariant.1 c.args.proc c.threads.result.now c.threads.ensures.own c.any_waits.result c.any_waits.ensures)
