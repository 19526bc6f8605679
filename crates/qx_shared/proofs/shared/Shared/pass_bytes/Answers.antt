use Rattle.std.proofs.Common.{◌∙◌, ◌++◌, drop, take}
use Rattle.qx_types.specs.declared.outcome.Answer.TheVariants.{Reply}
use Rattle.qx_shared.proofs.ChangeLemmas.{first-written, first-of, first_answered, put-bytes, stand, stand-own, waiting-some}
use Rattle.qx_shared.proofs.OwnLemmas.{has_row}
use Rattle.qx_shared.specs.inner.Own.{shown_shared}
use Rattle.qx_shared.specs.inner.Row.{place}
use Rattle.qx_shared.specs.Shared.{pipe_at}
use Rattle.qx_shared.specs.declared.side.Side.TheVariants.{Reading}
use Rattle.qx_shared.proofs.shared.Shared.pass_bytes.Goals as goal

pub list-readers-requires : goal.list-readers-requires
list-readers-requires c = record { there = rw c.deref.ensures.value (has_row c.self.inside.queues c.self.inside.pipes.items c.args.user.0 c.args.inode (rw (← c.self.view_is) at c.requires.pipe)) }

pub first_bytes-requires : goal.first_bytes-requires
first_bytes-requires c =
    let row = has_row c.self.inside.queues c.self.inside.pipes.items c.args.user.0 c.args.inode (rw (← c.self.view_is) at c.requires.pipe) in
    record { stand = rw c.deref-2.ensures.value (row.0, row.1, stand _ _ c.self.invariant _ _ row.0 row.1 c.args.count (rw (← c.self.view_is) at c.requires.count)) }

pub drop_front-requires : goal.drop_front-requires
drop_front-requires c =
    let row = has_row c.self.inside.queues c.self.inside.pipes.items c.args.user.0 c.args.inode (rw (← c.self.view_is) at c.requires.pipe) in
    record { stand = stand-own _ _ c.self.invariant _ _ row.0 row.1 _ c.index_mut.ensures.value c.args.count (rw (← c.self.view_is) at c.requires.count) }

pub pass_first-written-requires-clause-list : goal.pass_first-written-requires-clause-list
pass_first-written-requires-clause-list c = c.self.invariant.there (place c.args.user.0 c.args.inode Reading) _ (rw c.deref.ensures.value at c.list-readers.ensures.list)

pub pass_first-written-requires-clause-waits : goal.pass_first-written-requires-clause-waits
pass_first-written-requires-clause-waits c = waiting-some _ _ c.self.invariant _ _ Reading _ (rw c.deref.ensures.value at c.list-readers.ensures.list) (rw (← c.self.view_is) at c.requires.waits)

pub invariant_of-self : goal.invariant_of-self
invariant_of-self c =
    let row = has_row c.self.inside.queues c.self.inside.pipes.items c.args.user.0 c.args.inode (rw (← c.self.view_is) at c.requires.pipe) in
    let first = first-of _ _ c.self.invariant _ _ row.0 row.1 c.args.count (c.first_bytes.result.0.now ++ c.first_bytes.result.1.now) (rw c.deref-2.ensures.value at c.first_bytes.ensures.bytes) in
    (first_answered _ _ c.self.invariant _ _ Reading _ (rw c.deref.ensures.value at c.list-readers.ensures.list) _ (Reply c.args.count (take c.args.count (pipe_at (shown_shared c.self.inside.queues c.self.inside.pipes.items) c.args.user.0 c.args.inode).bytes)) _ _ (rw first at c.pass_first-written.ensures.answered) (put-bytes _ _ c.self.invariant _ _ row.0 row.1 _ c.index_mut.ensures.value _ (drop c.args.count) c.drop_front.ensures.rest)).all_are

pub returns-clause-passed : goal.returns-clause-passed
returns-clause-passed c =
    let row = has_row c.self.inside.queues c.self.inside.pipes.items c.args.user.0 c.args.inode (rw (← c.self.view_is) at c.requires.pipe) in
    let first = first-of _ _ c.self.invariant _ _ row.0 row.1 c.args.count (c.first_bytes.result.0.now ++ c.first_bytes.result.1.now) (rw c.deref-2.ensures.value at c.first_bytes.ensures.bytes) in
    rw (← c.self.view_is) (first_answered _ _ c.self.invariant _ _ Reading _ (rw c.deref.ensures.value at c.list-readers.ensures.list) _ (Reply c.args.count (take c.args.count (pipe_at (shown_shared c.self.inside.queues c.self.inside.pipes.items) c.args.user.0 c.args.inode).bytes)) _ _ (rw first at c.pass_first-written.ensures.answered) (put-bytes _ _ c.self.invariant _ _ row.0 row.1 _ c.index_mut.ensures.value _ (drop c.args.count) c.drop_front.ensures.rest)).told_is

pub returns-clause-written : goal.returns-clause-written
returns-clause-written c = rw (← c.self.view_is) (c.pass_first-written.ensures.written ∙ first-written _ _ c.self.invariant _ _ Reading _ (rw c.deref.ensures.value at c.list-readers.ensures.list) (Reply c.args.count (take c.args.count (pipe_at (shown_shared c.self.inside.queues c.self.inside.pipes.items) c.args.user.0 c.args.inode).bytes)))
