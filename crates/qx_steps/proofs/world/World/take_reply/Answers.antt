use Rattle.std.proofs.Common.{rules}
use Rattle.qx_steps.proofs.ClientLemmas.{take_reply-sound, take_reply-step}
use Rattle.qx_steps.proofs.world.World.take_reply.Goals as goal

pub invariant_of-self : goal.invariant_of-self
invariant_of-self c = rw c.take_reply.ensures.taken (take_reply-sound c.self.inside.config c.self.inside.channel c.self.inside.resources c.self.inside.hands.items c.self.invariant c.args.thread)

pub returns-in_default-clause-outcome : goal.returns-in_default-clause-outcome
returns-in_default-clause-outcome c = rw (← c.self.view_is, take_reply-step c.self.inside.config c.self.inside.channel c.self.inside.resources c.self.inside.hands.items c.self.invariant c.args.thread) (search rules)

pub returns-in_default-clause-world : goal.returns-in_default-clause-world
returns-in_default-clause-world c = rw (← c.self.view_is, take_reply-step c.self.inside.config c.self.inside.channel c.self.inside.resources c.self.inside.hands.items c.self.invariant c.args.thread, c.take_reply.ensures.taken)

pub invariant_of-self-in-Failed : goal.invariant_of-self-in-Failed
invariant_of-self-in-Failed c = rw c.take_reply.ensures.taken (take_reply-sound c.self.inside.config c.self.inside.channel c.self.inside.resources c.self.inside.hands.items c.self.invariant c.args.thread)

pub returns-in-Failed-clause-outcome : goal.returns-in-Failed-clause-outcome
returns-in-Failed-clause-outcome c = rw (← c.self.view_is, take_reply-step c.self.inside.config c.self.inside.channel c.self.inside.resources c.self.inside.hands.items c.self.invariant c.args.thread) (search rules)

pub returns-in-Failed-clause-world : goal.returns-in-Failed-clause-world
returns-in-Failed-clause-world c = rw (← c.self.view_is, take_reply-step c.self.inside.config c.self.inside.channel c.self.inside.resources c.self.inside.hands.items c.self.invariant c.args.thread, c.take_reply.ensures.taken)

pub invariant_of-self-2 : goal.invariant_of-self-2
invariant_of-self-2 c = rw c.take_reply.ensures.taken (take_reply-sound c.self.inside.config c.self.inside.channel c.self.inside.resources c.self.inside.hands.items c.self.invariant c.args.thread)

pub returns-clause-outcome : goal.returns-clause-outcome
returns-clause-outcome c = rw (← c.self.view_is, take_reply-step c.self.inside.config c.self.inside.channel c.self.inside.resources c.self.inside.hands.items c.self.invariant c.args.thread) (search rules)

pub returns-clause-world : goal.returns-clause-world
returns-clause-world c = rw (← c.self.view_is, take_reply-step c.self.inside.config c.self.inside.channel c.self.inside.resources c.self.inside.hands.items c.self.invariant c.args.thread, c.take_reply.ensures.taken)
