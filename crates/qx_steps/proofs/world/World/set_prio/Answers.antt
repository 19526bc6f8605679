use Rattle.std.proofs.Common.{◌∙◌, ap}
use Rattle.qx_types.specs.UserLimits.{UserLimits}
use Rattle.qx_steps.proofs.ClientLemmas.{set_prio-sound, set_prio-step}
use Rattle.qx_steps.proofs.world.World.set_prio.Goals as goal

pub invariant_of-self : goal.invariant_of-self
invariant_of-self c = rw c.set_prio.ensures.ranked (set_prio-sound c.self.inside.config c.self.inside.channel c.self.inside.resources c.self.inside.hands.items c.self.invariant c.ceiling.result.0 c.args.thread c.args.prio (c.ceiling.ensures.ceiling ∙ ap (λ (limits : UserLimits). limits.ceiling) c.limits-limits.ensures.limits))

pub returns-clause-outcome : goal.returns-clause-outcome
returns-clause-outcome c = rw (← c.self.view_is, set_prio-step c.self.inside.config c.self.inside.channel c.self.inside.resources c.self.inside.hands.items c.self.invariant c.ceiling.result.0 c.args.thread c.args.prio (c.ceiling.ensures.ceiling ∙ ap (λ (limits : UserLimits). limits.ceiling) c.limits-limits.ensures.limits)) c.set_prio.ensures.outcome

pub returns-clause-world : goal.returns-clause-world
returns-clause-world c = rw (← c.self.view_is, set_prio-step c.self.inside.config c.self.inside.channel c.self.inside.resources c.self.inside.hands.items c.self.invariant c.ceiling.result.0 c.args.thread c.args.prio (c.ceiling.ensures.ceiling ∙ ap (λ (limits : UserLimits). limits.ceiling) c.limits-limits.ensures.limits), c.set_prio.ensures.ranked)
