use Rattle.qx_steps.proofs.ClientLemmas.{interrupt-sound, interrupt-step}
use Rattle.qx_steps.proofs.world.World.interrupt.Goals as goal

pub invariant_of-self : goal.invariant_of-self
invariant_of-self c = rw c.interrupt.ensures.interrupted (interrupt-sound c.self.inside.config c.self.inside.channel c.self.inside.resources c.self.inside.hands.items c.self.invariant c.args.thread)

pub returns-clause-outcome : goal.returns-clause-outcome
returns-clause-outcome c = rw (← c.self.view_is, interrupt-step c.self.inside.config c.self.inside.channel c.self.inside.resources c.self.inside.hands.items c.self.invariant c.args.thread) c.interrupt.ensures.outcome

pub returns-clause-world : goal.returns-clause-world
returns-clause-world c = rw (← c.self.view_is, interrupt-step c.self.inside.config c.self.inside.channel c.self.inside.resources c.self.inside.hands.items c.self.invariant c.args.thread, c.interrupt.ensures.interrupted)
