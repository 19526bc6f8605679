use Rattle.std.proofs.Common.{◌≡◌, None, refl, ◌∙◌, rules, sym}
use Rattle.std.proofs.lemmas.Bool.{false≢true}
use Rattle.qx_types.specs.Configuration.{limits_of}
use Rattle.qx_machine.specs.Performing.{dup_of}
use Rattle.qx_chan.specs.inner.Calls.{taken_call}
use Rattle.qx_chan.specs.Users.{thread_row}
use Rattle.qx_chan.proofs.MessageLemmas.{Serves-untaken, caller-received, received, received-alone, received-wants, room-there, taken-received, untaken-bytes}
use Rattle.qx_chan.proofs.PerformLemmas.{fits-answered, is_done, nodes-done, performed, room-performed, unasked-done}
use Rattle.qx_chan.proofs.ProcessLemmas.{process-put_back}
use Rattle.qx_chan.proofs.PulseLemmas.{user-fits}
use Rattle.qx_chan.proofs.SettledLemmas.{places}
use Rattle.qx_rows.proofs.RowLemmas.{set-row}
use Rattle.qx_chan.proofs.channel.Channel.serve.Goals as goal

pub returns-in_default-process_mut-clause-ok : goal.returns-in_default-process_mut-clause-ok
returns-in_default-process_mut-clause-ok c =
    let none : taken_call (thread_row c.self.inside.users c.args.thread) ≡ None = rw (← c.in-Some.ensures.row, ← c.in_default-process_mut.ensures.row) refl in
    rw (c.nothing-in_default-process_mut.ensures, ← c.self.view_is, set-row c.self.inside.users c.args.thread.proc.user.0 c.in-Some.processes.now (sym c.in-Some.ensures.row))
    (Serves-untaken (limits_of c.args.config.now c.args.thread.proc.user.0).disconnect c.args.thread c.args.moment c.self.inside.users c.self.inside.tables c.args.resources.now c.requires.user none)

pub returns-in_default-thread-clause-ok : goal.returns-in_default-thread-clause-ok
returns-in_default-thread-clause-ok c =
    let none : taken_call (thread_row c.self.inside.users c.args.thread) ≡ None = rw (← c.in-Some.ensures.row, ← c.in-Some-process_mut.ensures.row, ← c.in_default-thread.ensures.row) refl in
    rw (c.nothing-in_default-thread.ensures, ← c.self.view_is, process-put_back c.self.inside.users c.args.thread.proc c.in-Some.processes.now c.in-Some-process_mut.process.now c.in-Some.ensures.row c.in-Some-process_mut.ensures.row)
    (Serves-untaken (limits_of c.args.config.now c.args.thread.proc.user.0).disconnect c.args.thread c.args.moment c.self.inside.users c.self.inside.tables c.args.resources.now c.requires.user none)

pub returns-in_default-taken-clause-ok : goal.returns-in_default-taken-clause-ok
returns-in_default-taken-clause-ok c =
    let none : taken_call (thread_row c.self.inside.users c.args.thread) ≡ None = rw (← c.in-Some.ensures.row, ← c.in-Some-process_mut.ensures.row, ← c.in-Some-thread.ensures.row, ← c.in_default-taken.ensures.message) refl in
    rw (c.nothing-in_default-taken.ensures, ← c.self.view_is, process-put_back c.self.inside.users c.args.thread.proc c.in-Some.processes.now c.in-Some-process_mut.process.now c.in-Some.ensures.row c.in-Some-process_mut.ensures.row)
    (Serves-untaken (limits_of c.args.config.now c.args.thread.proc.user.0).disconnect c.args.thread c.args.moment c.self.inside.users c.self.inside.tables c.args.resources.now c.requires.user none)

pub returns-in_default-taken-clause-memory : goal.returns-in_default-taken-clause-memory
returns-in_default-taken-clause-memory c =
    rw (c.nothing-in_default-taken.ensures, ← c.self.view_is, ← c.in-Some.ensures.row, ← c.in-Some-process_mut.ensures.row, ← c.in-Some-thread.ensures.row, untaken-bytes c.in-Some-thread.cell.now c.in_default-taken.ensures.message) (search rules)

pub watch_message-watched-requires : goal.watch_message-watched-requires
watch_message-watched-requires c = record { fits = user-fits c.self.inside.users c.self.inside.tables c.args.resources.now c.in-Some.processes.now (rw c.requires.user (sym c.in-Some.ensures.row)) c.self.invariant }

pub perform-requires-clause-fits : goal.perform-requires-clause-fits
perform-requires-clause-fits c = user-fits c.self.inside.users c.self.inside.tables c.args.resources.now c.in-Some.processes.now (rw c.requires.user (sym c.in-Some.ensures.row)) c.self.invariant

pub perform-requires-clause-received : goal.perform-requires-clause-received
perform-requires-clause-received c =
    let its = received c.self.inside.users c.args.thread c.in-Some.processes.now c.in-Some.ensures.row c.in-Some-process_mut.process.now c.in-Some-process_mut.ensures.row c.in-Some-thread.cell.now c.in-Some-thread.ensures.row c.in-Some-taken.sent.now c.in-Some-taken.ensures.message c.call_of-call.result c.call_of-call.ensures.call in
    rw (c.context_of-context.ensures.context, c.caller.ensures)
    (caller-received c.args.resources.now c.self.inside.tables c.args.thread c.call_of-call.result c.in-Some-process_mut.process.now c.args.moment (dup_of c.meaning_of-meaning.result) c.requires.user c.in-Some-process_mut.ensures.within
    (received-alone c.self.inside.users c.self.inside.tables.shared c.args.thread c.call_of-call.result (taken-received c.self.inside.users c.args.thread c.call_of-call.result its) c.self.invariant.shared))

pub returns-in_err-given-clause-sure : goal.returns-in_err-given-clause-sure
returns-in_err-given-clause-sure c = λ no.
    let its = received c.self.inside.users c.args.thread c.in-Some.processes.now c.in-Some.ensures.row c.in-Some-process_mut.process.now c.in-Some-process_mut.ensures.row c.in-Some-thread.cell.now c.in-Some-thread.ensures.row c.in-Some-taken.sent.now c.in-Some-taken.ensures.message c.call_of-call.result c.call_of-call.ensures.call in
    let wanted = rw (c.context_of-context.ensures.context, c.caller.ensures, c.meaning_of-meaning.ensures.meaning) at c.in_err-given.ensures.wanted in
    absurd (false≢true (sym (rw (← c.self.view_is, received-wants c.self.inside.users c.self.inside.tables c.args.resources.now c.args.thread c.call_of-call.result its c.requires.user c.args.moment) at no) ∙ wanted))

pub answer-requires-clause-room : goal.answer-requires-clause-room
answer-requires-clause-room c = room-there _ _ c.in_ok-given.given c.self.invariant.spare c.in_ok-given.ensures.room

pub answer-requires-clause-nodes : goal.answer-requires-clause-nodes
answer-requires-clause-nodes c =
    let done = is_done c.self.inside.users c.self.inside.tables c.self.invariant c.args.resources.now c.args.thread c.requires.user c.in-Some.processes.now c.in-Some.ensures.row c.in-Some-process_mut.process.now c.in-Some-process_mut.ensures.row
    c.in-Some-thread.cell.now c.in-Some-thread.ensures.row c.in-Some-taken.sent.now c.in-Some-taken.ensures.message c.call_of-call.result c.call_of-call.ensures.call c.args.moment
    c.meaning_of-meaning.result c.meaning_of-meaning.ensures.meaning c.context_of-context.result (rw c.caller.ensures at c.context_of-context.ensures.context)
    c.watch_message-watched.ensures.there c.watch_message-watched.result c.watch_message-watched.ensures.watched c.perform.new.self c.perform.new.all c.perform.new.reply c.in_ok-given.given c.in_ok-given.ensures.did in
    nodes-done done

pub answer-requires-clause-unasked : goal.answer-requires-clause-unasked
answer-requires-clause-unasked c =
    let done = is_done c.self.inside.users c.self.inside.tables c.self.invariant c.args.resources.now c.args.thread c.requires.user c.in-Some.processes.now c.in-Some.ensures.row c.in-Some-process_mut.process.now c.in-Some-process_mut.ensures.row
    c.in-Some-thread.cell.now c.in-Some-thread.ensures.row c.in-Some-taken.sent.now c.in-Some-taken.ensures.message c.call_of-call.result c.call_of-call.ensures.call c.args.moment
    c.meaning_of-meaning.result c.meaning_of-meaning.ensures.meaning c.context_of-context.result (rw c.caller.ensures at c.context_of-context.ensures.context)
    c.watch_message-watched.ensures.there c.watch_message-watched.result c.watch_message-watched.ensures.watched c.perform.new.self c.perform.new.all c.perform.new.reply c.in_ok-given.given c.in_ok-given.ensures.did in
    unasked-done done

pub trigger-requires : goal.trigger-requires
trigger-requires c =
    let done = is_done c.self.inside.users c.self.inside.tables c.self.invariant c.args.resources.now c.args.thread c.requires.user c.in-Some.processes.now c.in-Some.ensures.row c.in-Some-process_mut.process.now c.in-Some-process_mut.ensures.row
    c.in-Some-thread.cell.now c.in-Some-thread.ensures.row c.in-Some-taken.sent.now c.in-Some-taken.ensures.message c.call_of-call.result c.call_of-call.ensures.call c.args.moment
    c.meaning_of-meaning.result c.meaning_of-meaning.ensures.meaning c.context_of-context.result (rw c.caller.ensures at c.context_of-context.ensures.context)
    c.watch_message-watched.ensures.there c.watch_message-watched.result c.watch_message-watched.ensures.watched c.perform.new.self c.perform.new.all c.perform.new.reply c.in_ok-given.given c.in_ok-given.ensures.did in
    record { fits = rw c.answer.ensures.queues (fits-answered done (limits_of c.args.config.now c.args.thread.proc.user.0).disconnect c.answer.new.process c.answer.ensures.process) }

pub give_answers-requires : goal.give_answers-requires
give_answers-requires c =
    let done = is_done c.self.inside.users c.self.inside.tables c.self.invariant c.args.resources.now c.args.thread c.requires.user c.in-Some.processes.now c.in-Some.ensures.row c.in-Some-process_mut.process.now c.in-Some-process_mut.ensures.row
    c.in-Some-thread.cell.now c.in-Some-thread.ensures.row c.in-Some-taken.sent.now c.in-Some-taken.ensures.message c.call_of-call.result c.call_of-call.ensures.call c.args.moment
    c.meaning_of-meaning.result c.meaning_of-meaning.ensures.meaning c.context_of-context.result (rw c.caller.ensures at c.context_of-context.ensures.context)
    c.watch_message-watched.ensures.there c.watch_message-watched.result c.watch_message-watched.ensures.watched c.perform.new.self c.perform.new.all c.perform.new.reply c.in_ok-given.given c.in_ok-given.ensures.did in
    record { answering = (performed done (limits_of c.args.config.now c.args.thread.proc.user.0).disconnect c.answer.new.process c.answer.ensures.process c.trigger.new.tables (rw c.answer.ensures.queues at c.trigger.ensures.triggered) c.answer.ensures.gone c.answer.ensures.lost).0 }

pub invariant_of-self-2 : goal.invariant_of-self-2
invariant_of-self-2 c =
    let done = is_done c.self.inside.users c.self.inside.tables c.self.invariant c.args.resources.now c.args.thread c.requires.user c.in-Some.processes.now c.in-Some.ensures.row c.in-Some-process_mut.process.now c.in-Some-process_mut.ensures.row
    c.in-Some-thread.cell.now c.in-Some-thread.ensures.row c.in-Some-taken.sent.now c.in-Some-taken.ensures.message c.call_of-call.result c.call_of-call.ensures.call c.args.moment
    c.meaning_of-meaning.result c.meaning_of-meaning.ensures.meaning c.context_of-context.result (rw c.caller.ensures at c.context_of-context.ensures.context)
    c.watch_message-watched.ensures.there c.watch_message-watched.result c.watch_message-watched.ensures.watched c.perform.new.self c.perform.new.all c.perform.new.reply c.in_ok-given.given c.in_ok-given.ensures.did in
    record {
      spare = c.answer.ensures.spare;
      shared = c.give_answers.ensures.kept;
      events = rw c.give_answers.ensures.queues
          (places _ _ _ _ _ (performed done (limits_of c.args.config.now c.args.thread.proc.user.0).disconnect c.answer.new.process c.answer.ensures.process c.trigger.new.tables (rw c.answer.ensures.queues at c.trigger.ensures.triggered) c.answer.ensures.gone c.answer.ensures.lost).1 c.self.invariant.events);
    }

pub returns-clause-ok : goal.returns-clause-ok
returns-clause-ok c =
    let done = is_done c.self.inside.users c.self.inside.tables c.self.invariant c.args.resources.now c.args.thread c.requires.user c.in-Some.processes.now c.in-Some.ensures.row c.in-Some-process_mut.process.now c.in-Some-process_mut.ensures.row
    c.in-Some-thread.cell.now c.in-Some-thread.ensures.row c.in-Some-taken.sent.now c.in-Some-taken.ensures.message c.call_of-call.result c.call_of-call.ensures.call c.args.moment
    c.meaning_of-meaning.result c.meaning_of-meaning.ensures.meaning c.context_of-context.result (rw c.caller.ensures at c.context_of-context.ensures.context)
    c.watch_message-watched.ensures.there c.watch_message-watched.result c.watch_message-watched.ensures.watched c.perform.new.self c.perform.new.all c.perform.new.reply c.in_ok-given.given c.in_ok-given.ensures.did in
    rw (← c.self.view_is, c.give_answers.ensures.queues, c.give_answers.ensures.users)
    (performed done (limits_of c.args.config.now c.args.thread.proc.user.0).disconnect c.answer.new.process c.answer.ensures.process c.trigger.new.tables (rw c.answer.ensures.queues at c.trigger.ensures.triggered) c.answer.ensures.gone c.answer.ensures.lost).1

pub returns-clause-room : goal.returns-clause-room
returns-clause-room c =
    let done = is_done c.self.inside.users c.self.inside.tables c.self.invariant c.args.resources.now c.args.thread c.requires.user c.in-Some.processes.now c.in-Some.ensures.row c.in-Some-process_mut.process.now c.in-Some-process_mut.ensures.row
    c.in-Some-thread.cell.now c.in-Some-thread.ensures.row c.in-Some-taken.sent.now c.in-Some-taken.ensures.message c.call_of-call.result c.call_of-call.ensures.call c.args.moment
    c.meaning_of-meaning.result c.meaning_of-meaning.ensures.meaning c.context_of-context.result (rw c.caller.ensures at c.context_of-context.ensures.context)
    c.watch_message-watched.ensures.there c.watch_message-watched.result c.watch_message-watched.ensures.watched c.perform.new.self c.perform.new.all c.perform.new.reply c.in_ok-given.given c.in_ok-given.ensures.did in
    rw (← c.self.view_is, c.give_answers.ensures.queues) (room-performed done (limits_of c.args.config.now c.args.thread.proc.user.0).disconnect c.answer.new.process c.answer.ensures.process c.trigger.new.tables (rw c.answer.ensures.queues at c.trigger.ensures.triggered))

pub returns-clause-memory : goal.returns-clause-memory
returns-clause-memory c = rw (← c.self.view_is, ← c.in-Some.ensures.row, ← c.in-Some-process_mut.ensures.row) c.answer.ensures.memory
