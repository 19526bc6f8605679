use Rattle.std.proofs.Common.{rules}
use Rattle.std.specs.Vec.{vec_capacity}
use Rattle.qx_paths.proofs.RowLemmas.{own_shown}
use Rattle.qx_paths.proofs.mounts.Mounts.fault.Goals as goal

pub returns-then-has_at : goal.returns-then-has_at
returns-then-has_at c = rw (← c.self.view_is, own_shown c.self.inside.places c.self.inside.rows.items (vec_capacity c.self.inside.rows) c.args.user.0 c.self.invariant) (search rules)

pub returns-then-count-most : goal.returns-then-count-most
returns-then-count-most c = rw (← c.self.view_is, own_shown c.self.inside.places c.self.inside.rows.items (vec_capacity c.self.inside.rows) c.args.user.0 c.self.invariant) (search rules)

pub returns-else-count-most : goal.returns-else-count-most
returns-else-count-most c = rw (← c.self.view_is, own_shown c.self.inside.places c.self.inside.rows.items (vec_capacity c.self.inside.rows) c.args.user.0 c.self.invariant) (search rules)
