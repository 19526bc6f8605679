use Rattle.std.proofs.Common.{rules}
use Rattle.qx_steps.proofs.PartsLemmas.{process-told}
use Rattle.qx_steps.proofs.world.World.thread_places.Goals as goal

pub returns-in-Some : goal.returns-in-Some
returns-in-Some c = rw (← c.self.view_is, process-told c.self.inside.channel c.self.inside.resources c.args.proc c.self.invariant.users) (search rules)

pub returns-in-None : goal.returns-in-None
returns-in-None c = rw (← c.self.view_is, process-told c.self.inside.channel c.self.inside.resources c.args.proc c.self.invariant.users) (search rules)
