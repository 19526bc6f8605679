use Rattle.std.proofs.Common.{rules}
use Rattle.qx_steps.proofs.PartsLemmas.{thread_row-told}
use Rattle.qx_steps.proofs.world.World.answer.Goals as goal

pub returns : goal.returns
returns c = rw (← c.self.view_is, thread_row-told c.self.inside.channel c.self.inside.resources c.args.thread c.self.invariant.users) (search rules)

pub returns-in_err-thread : goal.returns-in_err-thread
returns-in_err-thread c = rw (← c.self.view_is, thread_row-told c.self.inside.channel c.self.inside.resources c.args.thread c.self.invariant.users) (search rules)
