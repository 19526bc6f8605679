use Rattle.std.proofs.Common.{◌<◌, length, rules}
use Rattle.qx_shared.proofs.ChangeLemmas.{put-renewed, renewed}
use Rattle.qx_shared.proofs.OwnLemmas.{has_row, row_of-within}
use Rattle.qx_shared.proofs.shared.Shared.renew.Goals as goal

pub index_mut-requires : goal.index_mut-requires
index_mut-requires c =
    let row = has_row c.self.inside.queues c.self.inside.pipes.items c.args.user.0 c.args.inode (rw (← c.self.view_is) at c.requires.pipe) in
    let within : c.args.user.0 < length c.self.inside.pipes.items = (row_of-within c.self.inside.pipes.items c.args.user.0 c.args.inode row.0 row.1).0 in
    search rules

pub invariant_of-self : goal.invariant_of-self
invariant_of-self c =
    let row = has_row c.self.inside.queues c.self.inside.pipes.items c.args.user.0 c.args.inode (rw (← c.self.view_is) at c.requires.pipe) in
    (renewed _ _ c.self.invariant _ _ row.0 row.1 c.args.blank _ (put-renewed _ _ c.self.invariant _ _ row.0 row.1 _ c.index_mut.ensures.value _ c.args.blank c.renew.ensures.renewed)).all_are

pub returns : goal.returns
returns c =
    let row = has_row c.self.inside.queues c.self.inside.pipes.items c.args.user.0 c.args.inode (rw (← c.self.view_is) at c.requires.pipe) in
    rw (← c.self.view_is) (renewed _ _ c.self.invariant _ _ row.0 row.1 c.args.blank _ (put-renewed _ _ c.self.invariant _ _ row.0 row.1 _ c.index_mut.ensures.value _ c.args.blank c.renew.ensures.renewed)).told_is
