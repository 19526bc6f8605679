use Rattle.std.proofs.Common.{◌≡◌, ◌<◌, ℕ, List, length, ap, arith}
use Rattle.std.specs.Vec.{vec_capacity}
use Rattle.qx_paths.specs.Prefixes.{MountPoint}
use Rattle.qx_paths.specs.declared.mounts.Row.{Row}
use Rattle.qx_paths.specs.inner.Rows.{shown}
use Rattle.qx_paths.proofs.RowLemmas.{length-shown, room_for_row, shown-last, table-last}
use Rattle.qx_paths.proofs.mounts.Mounts.push.Goals as goal

within : (places : ℕ) (rows : List Row) (user : ℕ) (table : List (List MountPoint)) → shown places rows ≡ table → user < length table → user < places
within places rows user table is less = omega (arith, ap length is, length-shown places rows, less)

pub push_reserved-requires : goal.push_reserved-requires
push_reserved-requires c =
    let row : Row = record { user = c.args.user; mount = c.args.mount } in
    omega (
      arith,
      room_for_row c.self.inside.places c.self.inside.rows.items (vec_capacity c.self.inside.rows) c.self.invariant row
          (within c.self.inside.places c.self.inside.rows.items c.args.user.0 c.args.self.now c.self.view_is c.requires.user)
          (rw (c.self.view_is) (c.requires.fewer)),
    )

pub invariant_of-self : goal.invariant_of-self
invariant_of-self c =
    let row : Row = record { user = c.args.user; mount = c.args.mount } in
    rw (c.push_reserved.ensures.items, c.push_reserved.ensures.capacity) (table-last c.self.inside.places c.self.inside.rows.items (vec_capacity c.self.inside.rows) c.self.invariant row
    (within c.self.inside.places c.self.inside.rows.items c.args.user.0 c.args.self.now c.self.view_is c.requires.user)
    (rw (c.self.view_is) (c.requires.fewer)))

pub returns : goal.returns
returns c =
    let row : Row = record { user = c.args.user; mount = c.args.mount } in
    record { mounted = rw (c.push_reserved.ensures.items, ← c.self.view_is) (shown-last c.self.inside.places c.self.inside.rows.items row) }
