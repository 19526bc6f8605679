use Rattle.std.proofs.Common.{rules}
use Rattle.qx_steps.proofs.PartsLemmas.{process-told}
use Rattle.qx_steps.proofs.world.World.received.Goals as goal

pub returns-in_err-process : goal.returns-in_err-process
returns-in_err-process c = rw (← c.self.view_is, process-told c.self.inside.channel c.self.inside.resources c.args.thread.proc c.self.invariant.users, ← c.process.ensures.row) (search rules)

pub returns-in_default : goal.returns-in_default
returns-in_default c = rw (← c.self.view_is, process-told c.self.inside.channel c.self.inside.resources c.args.thread.proc c.self.invariant.users, ← c.process.ensures.row) (search rules)

pub returns-in-Some-taken : goal.returns-in-Some-taken
returns-in-Some-taken c = rw (← c.self.view_is, process-told c.self.inside.channel c.self.inside.resources c.args.thread.proc c.self.invariant.users, ← c.process.ensures.row) (search rules)

pub returns-in-None : goal.returns-in-None
returns-in-None c = rw (← c.self.view_is, process-told c.self.inside.channel c.self.inside.resources c.args.thread.proc c.self.invariant.users, ← c.process.ensures.row) (search rules)
