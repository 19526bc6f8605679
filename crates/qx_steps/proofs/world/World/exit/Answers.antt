use Rattle.qx_steps.proofs.ExitLemmas.{exit-freed, exit-sound, exit-step}
use Rattle.std.proofs.Common.{refl}
use Rattle.qx_steps.proofs.world.World.exit.Goals as goal

pub invariant_of-self : goal.invariant_of-self
invariant_of-self c =
    let is = exit-freed c.self.inside.config c.self.inside.channel c.self.inside.resources c.self.inside.hands.items c.self.invariant c.args.proc c.exit-outcome.new.self c.free_one.new.channel c.exit-outcome.ensures.ended (rw c.as_slice.ensures.value at c.free_one.ensures) in
    rw is (exit-sound c.self.inside.config c.self.inside.channel c.self.inside.resources c.self.inside.hands.items c.self.invariant c.args.proc _)

pub returns-clause-outcome : goal.returns-clause-outcome
returns-clause-outcome c = rw (← c.self.view_is, exit-step c.self.inside.config c.self.inside.channel c.self.inside.resources c.self.inside.hands.items c.self.invariant c.args.proc) c.exit-outcome.ensures.outcome

pub returns-clause-world : goal.returns-clause-world
returns-clause-world c =
    let is = exit-freed c.self.inside.config c.self.inside.channel c.self.inside.resources c.self.inside.hands.items c.self.invariant c.args.proc c.exit-outcome.new.self c.free_one.new.channel c.exit-outcome.ensures.ended (rw c.as_slice.ensures.value at c.free_one.ensures) in
    rw (← c.self.view_is, exit-step c.self.inside.config c.self.inside.channel c.self.inside.resources c.self.inside.hands.items c.self.invariant c.args.proc, is) refl
