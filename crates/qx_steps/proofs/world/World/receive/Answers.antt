use Rattle.std.proofs.Common.{rules, ap}
use Rattle.qx_types.specs.declared.outcome.Outcome.TheVariants.{Took}
use Rattle.qx_steps.proofs.WorkerLemmas.{idle-sound, receive-idle, receive-took, took-sound}
use Rattle.qx_steps.proofs.world.World.receive.Goals as goal

pub returns-in_default-clause-outcome : goal.returns-in_default-clause-outcome
returns-in_default-clause-outcome c = rw (← c.self.view_is, receive-idle c.self.inside.config c.self.inside.channel c.self.inside.resources c.self.inside.hands.items c.self.invariant c.args.worker c.args.manager (search rules) (search rules) (search rules))

pub returns-in_default-clause-world : goal.returns-in_default-clause-world
returns-in_default-clause-world c = rw (← c.self.view_is, receive-idle c.self.inside.config c.self.inside.channel c.self.inside.resources c.self.inside.hands.items c.self.invariant c.args.worker c.args.manager (search rules) (search rules) (search rules), c.receive.ensures.rest)

pub invariant_of-self : goal.invariant_of-self
invariant_of-self c = rw c.receive.ensures.rest (idle-sound c.self.inside.config c.self.inside.channel c.self.inside.resources c.self.inside.hands.items c.self.invariant c.args.worker c.args.manager (search rules) (search rules) (search rules))

pub invariant_of-self-2 : goal.invariant_of-self-2
invariant_of-self-2 c = rw (c.receive.ensures.rest, c.hold_in.ensures) (took-sound c.self.inside.config c.self.inside.channel c.self.inside.resources c.self.inside.hands.items c.self.invariant c.args.worker c.args.manager c.in-Some.first (search rules) (search rules) (search rules))

pub returns-clause-outcome : goal.returns-clause-outcome
returns-clause-outcome c = rw (← c.self.view_is, receive-took c.self.inside.config c.self.inside.channel c.self.inside.resources c.self.inside.hands.items c.self.invariant c.args.worker c.args.manager c.in-Some.first (search rules) (search rules) (search rules)) (ap Took c.shown_item.ensures)

pub returns-clause-world : goal.returns-clause-world
returns-clause-world c = rw (← c.self.view_is, receive-took c.self.inside.config c.self.inside.channel c.self.inside.resources c.self.inside.hands.items c.self.invariant c.args.worker c.args.manager c.in-Some.first (search rules) (search rules) (search rules), c.receive.ensures.rest, c.hold_in.ensures)
