use Rattle.qx_steps.proofs.PulseLemmas.{take_pulse-step}
use Rattle.qx_steps.proofs.world.World.lacks_pulse.Goals as goal

pub returns : goal.returns
returns c = rw (← c.self.view_is, take_pulse-step c.self.inside.config c.self.inside.channel c.self.inside.resources c.self.inside.hands.items c.self.invariant c.args.proc) c.lacks_pulse.ensures
