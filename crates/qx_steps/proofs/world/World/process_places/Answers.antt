use Rattle.std.proofs.Common.{rules}
use Rattle.qx_steps.proofs.PartsLemmas.{places-told}
use Rattle.qx_steps.proofs.world.World.process_places.Goals as goal

pub returns-in-Some : goal.returns-in-Some
returns-in-Some c = rw (← c.self.view_is, places-told c.self.inside.channel c.self.inside.resources c.args.user.0 c.self.invariant.users) (search rules)

pub returns-in-None : goal.returns-in-None
returns-in-None c = rw (← c.self.view_is, places-told c.self.inside.channel c.self.inside.resources c.args.user.0 c.self.invariant.users) (search rules)
