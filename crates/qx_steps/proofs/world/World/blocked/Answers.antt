use Rattle.std.proofs.Common.{rules}
use Rattle.qx_steps.proofs.PartsLemmas.{thread_row-told}
use Rattle.qx_steps.proofs.world.World.blocked.Goals as goal

pub returns-in-Some : goal.returns-in-Some
returns-in-Some c = rw (← c.self.view_is, thread_row-told c.self.inside.channel c.self.inside.resources c.args.thread c.self.invariant.users) (search rules)

pub returns-in-None : goal.returns-in-None
returns-in-None c = rw (← c.self.view_is, thread_row-told c.self.inside.channel c.self.inside.resources c.args.thread c.self.invariant.users) (search rules)
