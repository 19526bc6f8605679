use Rattle.std.proofs.Common.{◌++◌}
use Rattle.qx_shared.proofs.ChangeLemmas.{first-of, stand}
use Rattle.qx_shared.proofs.OwnLemmas.{has_row}
use Rattle.qx_shared.proofs.shared.Shared.front.Goals as goal

pub first_bytes-requires : goal.first_bytes-requires
first_bytes-requires c =
    let row = has_row c.self.inside.queues c.self.inside.pipes.items c.args.user.0 c.args.inode (rw (← c.self.view_is) at c.requires.pipe) in
    record { stand = rw c.deref.ensures.value (row.0, row.1, stand _ _ c.self.invariant _ _ row.0 row.1 c.args.count (rw (← c.self.view_is) at c.requires.count)) }

pub returns-clause-bytes : goal.returns-clause-bytes
returns-clause-bytes c =
    let row = has_row c.self.inside.queues c.self.inside.pipes.items c.args.user.0 c.args.inode (rw (← c.self.view_is) at c.requires.pipe) in
    rw (← c.self.view_is) (first-of _ _ c.self.invariant _ _ row.0 row.1 c.args.count (c.first_bytes.result.0.now ++ c.first_bytes.result.1.now) (rw c.deref.ensures.value at c.first_bytes.ensures.bytes))
