use Rattle.qx_steps.proofs.PulseLemmas.{pulse-sound, take_pulse-step}
use Rattle.qx_steps.proofs.world.World.take_pulse.Goals as goal

pub invariant_of-self : goal.invariant_of-self
invariant_of-self c = rw c.take_pulse.ensures.taken (pulse-sound c.self.inside.config c.self.inside.channel c.self.inside.resources c.self.inside.hands.items c.self.invariant c.args.proc)

pub returns-clause-outcome : goal.returns-clause-outcome
returns-clause-outcome c = rw (← c.self.view_is, take_pulse-step c.self.inside.config c.self.inside.channel c.self.inside.resources c.self.inside.hands.items c.self.invariant c.args.proc) c.take_pulse.ensures.outcome

pub returns-clause-world : goal.returns-clause-world
returns-clause-world c = rw (← c.self.view_is, take_pulse-step c.self.inside.config c.self.inside.channel c.self.inside.resources c.self.inside.hands.items c.self.invariant c.args.proc, c.take_pulse.ensures.taken)
