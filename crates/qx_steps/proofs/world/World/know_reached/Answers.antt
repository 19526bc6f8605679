use Rattle.qx_steps.proofs.world.World.know_reached.Goals as goal

pub returns : goal.returns
returns c = rw (← c.self.view_is) (c.self.invariant.steps, c.self.invariant.reached)
