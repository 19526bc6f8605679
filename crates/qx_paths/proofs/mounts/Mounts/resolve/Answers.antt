use Rattle.std.proofs.Common.{rules}
use Rattle.std.specs.Vec.{vec_capacity}
use Rattle.qx_paths.proofs.RowLemmas.{own_shown}
use Rattle.qx_paths.proofs.mounts.Mounts.resolve.Goals as goal

pub returns : goal.returns
returns c = rw (← c.self.view_is, own_shown c.self.inside.places c.self.inside.rows.items (vec_capacity c.self.inside.rows) c.args.user.0 c.self.invariant) (search rules)
