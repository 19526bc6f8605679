use Rattle.std.proofs.Common.{◌<◌, [], ◌++◌, length, rules, sym}
use Rattle.qx_shared.proofs.ChangeLemmas.{fits, no_answers, put-bytes, refilled}
use Rattle.qx_shared.proofs.OwnLemmas.{has_row, row_of-within}
use Rattle.qx_shared.proofs.shared.Shared.append.Goals as goal

pub index_mut-requires : goal.index_mut-requires
index_mut-requires c =
    let row = has_row c.self.inside.queues c.self.inside.pipes.items c.args.user.0 c.args.inode (rw (← c.self.view_is) at c.requires.pipe) in
    let within : c.args.user.0 < length c.self.inside.pipes.items = (row_of-within c.self.inside.pipes.items c.args.user.0 c.args.inode row.0 row.1).0 in
    search rules

pub append-requires : goal.append-requires
append-requires c =
    let row = has_row c.self.inside.queues c.self.inside.pipes.items c.args.user.0 c.args.inode (rw (← c.self.view_is) at c.requires.pipe) in
    record { fits = fits _ _ c.self.invariant _ _ row.0 row.1 _ c.index_mut.ensures.value (length c.args.bytes.now) (rw (← c.self.view_is) at c.requires.fits) }

pub invariant_of-self : goal.invariant_of-self
invariant_of-self c =
    let row = has_row c.self.inside.queues c.self.inside.pipes.items c.args.user.0 c.args.inode (rw (← c.self.view_is) at c.requires.pipe) in
    (refilled _ _ c.self.invariant _ _ row.0 row.1 _ [] c.self.inside.queues _ (sym (no_answers _)) (put-bytes _ _ c.self.invariant _ _ row.0 row.1 _ c.index_mut.ensures.value _ (λ bytes. bytes ++ c.args.bytes.now) c.append.ensures.appended)).all_are

pub returns : goal.returns
returns c =
    let row = has_row c.self.inside.queues c.self.inside.pipes.items c.args.user.0 c.args.inode (rw (← c.self.view_is) at c.requires.pipe) in
    rw (← c.self.view_is) (record { appended = (refilled _ _ c.self.invariant _ _ row.0 row.1 _ [] c.self.inside.queues _ (sym (no_answers _)) (put-bytes _ _ c.self.invariant _ _ row.0 row.1 _ c.index_mut.ensures.value _ (λ bytes. bytes ++ c.args.bytes.now) c.append.ensures.appended)).told_is })
