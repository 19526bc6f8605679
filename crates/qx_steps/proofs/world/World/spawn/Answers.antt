use Rattle.std.proofs.Common.{ap}
use Rattle.qx_steps.specs.inner.Parts.{world_of}
use Rattle.qx_steps.proofs.ClientLemmas.{spawn-refused, spawn-sound, spawn-step}
use Rattle.qx_steps.proofs.OwnerLemmas.{sound-room}
use Rattle.qx_steps.proofs.ResultLemmas.{on_either, on_err_by, on_ok_by}
use Rattle.qx_steps.proofs.world.World.spawn.Goals as goal

pub invariant_of-self : goal.invariant_of-self
invariant_of-self c =
    on_either c.spawn.result c.spawn.ensures.ok c.spawn.ensures.err
    (λ done. rw done (spawn-sound c.self.inside.config c.self.inside.channel c.self.inside.resources c.self.inside.hands.items c.self.invariant c.limits-limits.result c.args.user c.args.threads c.args.prio c.limits-limits.ensures.limits))
    (λ kept. rw kept (sound-room c.self.inside.config c.self.inside.channel c.self.inside.resources c.self.inside.hands.items c.self.invariant _))

pub returns-clause-outcome : goal.returns-clause-outcome
returns-clause-outcome c = rw (← c.self.view_is, spawn-step c.self.inside.config c.self.inside.channel c.self.inside.resources c.self.inside.hands.items c.self.invariant c.limits-limits.result c.args.user c.args.threads c.args.prio c.limits-limits.ensures.limits) c.spawn.ensures.outcome

pub returns-clause-world : goal.returns-clause-world
returns-clause-world c =
    rw (← c.self.view_is, spawn-step c.self.inside.config c.self.inside.channel c.self.inside.resources c.self.inside.hands.items c.self.invariant c.limits-limits.result c.args.user c.args.threads c.args.prio c.limits-limits.ensures.limits)
    (on_ok_by c.spawn.result (ap (λ channel. world_of c.self.inside.config channel c.self.inside.resources c.self.inside.hands.items)) c.spawn.ensures.ok)

pub returns-clause-sure : goal.returns-clause-sure
returns-clause-sure c =
    rw (← c.self.view_is, spawn-step c.self.inside.config c.self.inside.channel c.self.inside.resources c.self.inside.hands.items c.self.invariant c.limits-limits.result c.args.user c.args.threads c.args.prio c.limits-limits.ensures.limits)
    (λ refusal. c.spawn.ensures.sure (spawn-refused _ refusal))

pub returns-clause-err : goal.returns-clause-err
returns-clause-err c = rw (← c.self.view_is) (on_err_by c.spawn.result (ap (λ channel. world_of c.self.inside.config channel c.self.inside.resources c.self.inside.hands.items)) c.spawn.ensures.err)
