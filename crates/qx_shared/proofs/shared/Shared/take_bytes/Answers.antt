use Rattle.std.proofs.Common.{◌∙◌, [], ◌++◌, length, sym}
use Rattle.qx_types.specs.declared.outcome.Answer.TheVariants.{Reply}
use Rattle.qx_shared.proofs.ChangeLemmas.{first-bytes, first-some, first-taken, first-there, first-written, first_answered, fits, put-bytes}
use Rattle.qx_shared.proofs.OwnLemmas.{has_row}
use Rattle.qx_shared.specs.inner.Own.{shown_shared}
use Rattle.qx_shared.specs.inner.Row.{place}
use Rattle.qx_shared.specs.Shared.{pipe_at}
use Rattle.qx_shared.specs.declared.side.Side.TheVariants.{Writing}
use Rattle.qx_shared.proofs.shared.Shared.take_bytes.Goals as goal

pub list-writers-requires : goal.list-writers-requires
list-writers-requires c = record { there = rw c.deref.ensures.value (has_row c.self.inside.queues c.self.inside.pipes.items c.args.user.0 c.args.inode (rw (← c.self.view_is) at c.requires.pipe)) }

pub first_waiting-requires : goal.first_waiting-requires
first_waiting-requires c = record { list = c.self.invariant.there (place c.args.user.0 c.args.inode Writing) _ (rw c.deref.ensures.value at c.list-writers.ensures.list) }

pub unreachable-requires : goal.unreachable-requires
unreachable-requires c = first-some (pipe_at (shown_shared c.self.inside.queues c.self.inside.pipes.items) c.args.user.0 c.args.inode).writers (rw (← c.self.view_is) at c.requires.waits) (c.in_default.ensures ∙ first-there _ _ c.self.invariant _ _ Writing _ (rw c.deref.ensures.value at c.list-writers.ensures.list))

pub append-requires : goal.append-requires
append-requires c =
    let row = has_row c.self.inside.queues c.self.inside.pipes.items c.args.user.0 c.args.inode (rw (← c.self.view_is) at c.requires.pipe) in
    let first = sym (first-there _ _ c.self.invariant _ _ Writing _ (rw c.deref.ensures.value at c.list-writers.ensures.list)) ∙ sym c.in-Some.ensures in
    record { fits = rw c.bytes-bytes.ensures.bytes (fits _ _ c.self.invariant _ _ row.0 row.1 _ c.index_mut.ensures.value (length c.in-Some.call.now.bytes) (rw (first-bytes (pipe_at (shown_shared c.self.inside.queues c.self.inside.pipes.items) c.args.user.0 c.args.inode).writers c.in-Some.call.now first) at (rw (← c.self.view_is) at c.requires.fits))) }

pub invariant_of-self : goal.invariant_of-self
invariant_of-self c =
    let row = has_row c.self.inside.queues c.self.inside.pipes.items c.args.user.0 c.args.inode (rw (← c.self.view_is) at c.requires.pipe) in
    (first_answered _ _ c.self.invariant _ _ Writing _ (rw c.deref.ensures.value at c.list-writers.ensures.list) _ (Reply (length c.in-Some.call.now.bytes) []) _ _ (rw c.bytes-bytes.ensures.bytes at c.answer_first.ensures.answered) (put-bytes _ _ c.self.invariant _ _ row.0 row.1 _ c.index_mut.ensures.value _ (λ bytes. bytes ++ c.in-Some.call.now.bytes) (rw c.bytes-bytes.ensures.bytes at c.append.ensures.appended))).all_are

pub returns-clause-taken : goal.returns-clause-taken
returns-clause-taken c =
    let row = has_row c.self.inside.queues c.self.inside.pipes.items c.args.user.0 c.args.inode (rw (← c.self.view_is) at c.requires.pipe) in
    let first = sym (first-there _ _ c.self.invariant _ _ Writing _ (rw c.deref.ensures.value at c.list-writers.ensures.list)) ∙ sym c.in-Some.ensures in
    rw (← c.self.view_is, first-bytes (pipe_at (shown_shared c.self.inside.queues c.self.inside.pipes.items) c.args.user.0 c.args.inode).writers c.in-Some.call.now first, ← first-taken (pipe_at (shown_shared c.self.inside.queues c.self.inside.pipes.items) c.args.user.0 c.args.inode).writers c.in-Some.call.now first []) (first_answered _ _ c.self.invariant _ _ Writing _ (rw c.deref.ensures.value at c.list-writers.ensures.list) _ (Reply (length c.in-Some.call.now.bytes) []) _ _ (rw c.bytes-bytes.ensures.bytes at c.answer_first.ensures.answered) (put-bytes _ _ c.self.invariant _ _ row.0 row.1 _ c.index_mut.ensures.value _ (λ bytes. bytes ++ c.in-Some.call.now.bytes) (rw c.bytes-bytes.ensures.bytes at c.append.ensures.appended))).told_is

pub returns-clause-written : goal.returns-clause-written
returns-clause-written c =
    let first = sym (first-there _ _ c.self.invariant _ _ Writing _ (rw c.deref.ensures.value at c.list-writers.ensures.list)) ∙ sym c.in-Some.ensures in
    rw (← c.self.view_is, ← first-taken (pipe_at (shown_shared c.self.inside.queues c.self.inside.pipes.items) c.args.user.0 c.args.inode).writers c.in-Some.call.now first []) ((rw c.bytes-bytes.ensures.bytes at c.answer_first.ensures.written) ∙ first-written _ _ c.self.invariant _ _ Writing _ (rw c.deref.ensures.value at c.list-writers.ensures.list) (Reply (length c.in-Some.call.now.bytes) []))
