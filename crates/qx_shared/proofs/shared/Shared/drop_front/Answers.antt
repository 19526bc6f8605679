use Rattle.std.proofs.Common.{◌<◌, [], drop, length, rules, sym}
use Rattle.qx_shared.proofs.ChangeLemmas.{no_answers, put-bytes, refilled, stand-own}
use Rattle.qx_shared.proofs.OwnLemmas.{has_row, row_of-within}
use Rattle.qx_shared.proofs.shared.Shared.drop_front.Goals as goal

pub index_mut-requires : goal.index_mut-requires
index_mut-requires c =
    let row = has_row c.self.inside.queues c.self.inside.pipes.items c.args.user.0 c.args.inode (rw (← c.self.view_is) at c.requires.pipe) in
    let within : c.args.user.0 < length c.self.inside.pipes.items = (row_of-within c.self.inside.pipes.items c.args.user.0 c.args.inode row.0 row.1).0 in
    search rules

pub drop_front-requires : goal.drop_front-requires
drop_front-requires c =
    let row = has_row c.self.inside.queues c.self.inside.pipes.items c.args.user.0 c.args.inode (rw (← c.self.view_is) at c.requires.pipe) in
    record { stand = stand-own _ _ c.self.invariant _ _ row.0 row.1 _ c.index_mut.ensures.value c.args.count (rw (← c.self.view_is) at c.requires.count) }

pub invariant_of-self : goal.invariant_of-self
invariant_of-self c =
    let row = has_row c.self.inside.queues c.self.inside.pipes.items c.args.user.0 c.args.inode (rw (← c.self.view_is) at c.requires.pipe) in
    (refilled _ _ c.self.invariant _ _ row.0 row.1 _ [] c.self.inside.queues _ (sym (no_answers _)) (put-bytes _ _ c.self.invariant _ _ row.0 row.1 _ c.index_mut.ensures.value _ (drop c.args.count) c.drop_front.ensures.rest)).all_are

pub returns : goal.returns
returns c =
    let row = has_row c.self.inside.queues c.self.inside.pipes.items c.args.user.0 c.args.inode (rw (← c.self.view_is) at c.requires.pipe) in
    rw (← c.self.view_is) (record { rest = (refilled _ _ c.self.invariant _ _ row.0 row.1 _ [] c.self.inside.queues _ (sym (no_answers _)) (put-bytes _ _ c.self.invariant _ _ row.0 row.1 _ c.index_mut.ensures.value _ (drop c.args.count) c.drop_front.ensures.rest)).told_is })
