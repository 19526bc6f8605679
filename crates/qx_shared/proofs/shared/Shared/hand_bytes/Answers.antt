use Rattle.std.proofs.Common.{◌<◌, [], ◌∷◌, ◌++◌, drop, length, rules, take}
use Rattle.qx_types.specs.declared.outcome.Answer.TheVariants.{Reply}
use Rattle.qx_shared.proofs.CallLemmas.{received}
use Rattle.qx_shared.proofs.ChangeLemmas.{first-of, put-bytes, refilled, stand, stand-own}
use Rattle.qx_shared.proofs.OwnLemmas.{has_row, row_of-within}
use Rattle.qx_shared.specs.inner.Own.{shown_shared}
use Rattle.qx_shared.specs.Shared.{pipe_at}
use Rattle.qx_shared.proofs.shared.Shared.hand_bytes.Goals as goal

pub index_mut-requires : goal.index_mut-requires
index_mut-requires c =
    let row = has_row c.self.inside.queues c.self.inside.pipes.items c.args.user.0 c.args.inode (rw (← c.self.view_is) at c.requires.pipe) in
    let within : c.args.user.0 < length c.self.inside.pipes.items = (row_of-within c.self.inside.pipes.items c.args.user.0 c.args.inode row.0 row.1).0 in
    search rules

pub first_bytes-requires : goal.first_bytes-requires
first_bytes-requires c =
    let row = has_row c.self.inside.queues c.self.inside.pipes.items c.args.user.0 c.args.inode (rw (← c.self.view_is) at c.requires.pipe) in
    record { stand = rw c.deref.ensures.value (row.0, row.1, stand _ _ c.self.invariant _ _ row.0 row.1 c.args.count (rw (← c.self.view_is) at c.requires.count)) }

pub drop_front-requires : goal.drop_front-requires
drop_front-requires c =
    let row = has_row c.self.inside.queues c.self.inside.pipes.items c.args.user.0 c.args.inode (rw (← c.self.view_is) at c.requires.pipe) in
    record { stand = stand-own _ _ c.self.invariant _ _ row.0 row.1 _ c.index_mut.ensures.value c.args.count (rw (← c.self.view_is) at c.requires.count) }

pub pass-written-requires-clause-received : goal.pass-written-requires-clause-received
pass-written-requires-clause-received c = received _ _ c.self.invariant _ (rw (← c.self.view_is) at c.requires.received)

pub invariant_of-self : goal.invariant_of-self
invariant_of-self c =
    let row = has_row c.self.inside.queues c.self.inside.pipes.items c.args.user.0 c.args.inode (rw (← c.self.view_is) at c.requires.pipe) in
    let first = first-of _ _ c.self.invariant _ _ row.0 row.1 c.args.count (c.first_bytes.result.0.now ++ c.first_bytes.result.1.now) (rw c.deref.ensures.value at c.first_bytes.ensures.bytes) in
    (refilled _ _ c.self.invariant _ _ row.0 row.1 _ ((c.args.call, Reply c.args.count (take c.args.count (pipe_at (shown_shared c.self.inside.queues c.self.inside.pipes.items) c.args.user.0 c.args.inode).bytes)) ∷ []) _ _ (rw first at c.pass-written.ensures.answered) (put-bytes _ _ c.self.invariant _ _ row.0 row.1 _ c.index_mut.ensures.value _ (drop c.args.count) c.drop_front.ensures.rest)).all_are

pub returns-clause-passed : goal.returns-clause-passed
returns-clause-passed c =
    let row = has_row c.self.inside.queues c.self.inside.pipes.items c.args.user.0 c.args.inode (rw (← c.self.view_is) at c.requires.pipe) in
    let first = first-of _ _ c.self.invariant _ _ row.0 row.1 c.args.count (c.first_bytes.result.0.now ++ c.first_bytes.result.1.now) (rw c.deref.ensures.value at c.first_bytes.ensures.bytes) in
    rw (← c.self.view_is) (refilled _ _ c.self.invariant _ _ row.0 row.1 _ ((c.args.call, Reply c.args.count (take c.args.count (pipe_at (shown_shared c.self.inside.queues c.self.inside.pipes.items) c.args.user.0 c.args.inode).bytes)) ∷ []) _ _ (rw first at c.pass-written.ensures.answered) (put-bytes _ _ c.self.invariant _ _ row.0 row.1 _ c.index_mut.ensures.value _ (drop c.args.count) c.drop_front.ensures.rest)).told_is
