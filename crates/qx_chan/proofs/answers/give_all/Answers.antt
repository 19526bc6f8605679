use Rattle.std.proofs.Common.{◌≡◌, List, [], Some, drop, slice_get, ap, ◌∙◌}
use Rattle.qx_isolation.specs.declared.rows.Queued.{Queued}
use Rattle.qx_queues.specs.Queues.{UsersAnswer}
use Rattle.qx_shared.specs.Shared.{HasNoCall, Shared}
use Rattle.qx_queues.specs.Waiting.{addressed_by}
use Rattle.qx_chan.specs.Users.{thread_row}
use Rattle.qx_chan.proofs.GivenLemmas.{Answering-first, first-awaited, lines-first, users-first}
use Rattle.qx_chan.proofs.RoomLemmas.{awaited-there, awaited-waits, waiting-brings}
use Rattle.qx_chan.proofs.answers.give_all.Goals as goal

abbrev cleared : Shared → List (List Queued) → Shared
cleared queues lines = record queues { lines = lines; answered = [] }

pub answer-called-requires : goal.answer-called-requires
answer-called-requires c =
    let users = c.loop-taken.users in
    let queues = c.loop-taken.queues in
    let to : UsersAnswer = addressed_by c.in-Some.taken in
    let own = first-awaited users queues.answered to c.in-Some.ensures.first c.loop-taken.invariant.kept.answered in
    record { there = awaited-there to.call (thread_row users to.thread) own; room = waiting-brings c.in-Some.taken.answer c.in-Some.taken.room (thread_row users to.thread) (awaited-waits to.call (thread_row users to.thread) own) c.in-Some.ensures.room }

pub loop-taken-preserved : goal.loop-taken-preserved
loop-taken-preserved c =
    let users = c.loop-taken.users in
    let queues = c.loop-taken.queues in
    let to : UsersAnswer = addressed_by c.in-Some.taken in
    let first : Some to ≡ slice_get queues.answered 0 = c.in-Some.ensures.first in
    let none : HasNoCall (record queues { answered = drop 1 queues.answered }) to.thread = rw c.take_answered.ensures.rest at c.in-Some.ensures.gone in
    record {
      users = rw (c.reply.ensures.replied, c.answer-called.ensures.answered, c.take_answered.ensures.rest) (users-first users queues.answered to first ∙ c.loop-taken.invariant.users);
      queues = rw (c.reply.ensures.replied, c.answer-called.ensures.called, c.answer-called.ensures.answered, c.take_answered.ensures.rest) (ap (λ lines. cleared queues lines) (lines-first users queues.lines queues.answered to first) ∙ c.loop-taken.invariant.queues);
      kept = rw (c.reply.ensures.replied, c.answer-called.ensures.called, c.answer-called.ensures.answered, c.take_answered.ensures.rest) (Answering-first users queues c.loop-taken.invariant.kept to first none (rw (c.answer-called.ensures.called, c.take_answered.ensures.rest) at c.reply.ensures.gone));
    }
