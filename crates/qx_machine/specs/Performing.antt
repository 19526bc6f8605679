-- What a message that a worker holds does to the rows of its user.
use Rattle.std.specs.Prelude.{ℕ, List, [], ◌∷◌, ◌++◌, Option, Some, None, Result, Ok, Err, is_some, unwrap_or, if◌then◌else◌}
use Rattle.qx_types.specs.Managers.{manager_number}
use Rattle.qx_base.specs.declared.errno.Errno.{Errno}
use Rattle.qx_base.specs.declared.errno.Errno.TheVariants.{EBADF, EINVAL, ENOSYS}
use Rattle.qx_types.specs.declared.names.Manager.{Manager}
use Rattle.qx_types.specs.declared.names.Manager.TheVariants.{Ram}
use Rattle.qx_types.specs.declared.names.Coid.{Coid}
use Rattle.qx_types.specs.declared.outcome.Answer.{Answer}
use Rattle.qx_types.specs.declared.outcome.Answer.TheVariants as answer
use Rattle.qx_types.specs.declared.outcome.Answer.TheVariants.{Failed}
use Rattle.qx_types.specs.declared.outcome.Outcome.{Outcome}
use Rattle.qx_types.specs.declared.outcome.Outcome.TheVariants.{WrongState}
use Rattle.qx_wire.specs.declared.message.Meaning.{Meaning}
use Rattle.qx_wire.specs.declared.message.Meaning.TheVariants.{Known, Unknown, Malformed}
use Rattle.qx_wire.specs.declared.message.Message.{Message}
use Rattle.qx_wire.specs.declared.message.Message.TheVariants as msg
use Rattle.qx_wire.specs.Reading.{meaning}
use Rattle.qx_machine.specs.declared.rows.Caller.{Caller}
use Rattle.qx_machine.specs.declared.rows.Client.{Client}
use Rattle.qx_machine.specs.declared.rows.Context.{Context}
use Rattle.qx_machine.specs.declared.rows.Opened.{Opened}
use Rattle.qx_machine.specs.declared.rows.Over.{Over}
use Rattle.qx_isolation.specs.declared.rows.OwnItem.TheVariants as item
use Rattle.qx_machine.specs.declared.rows.Sent.{Sent}
use Rattle.qx_machine.specs.declared.rows.State.{State}
use Rattle.qx_machine.specs.declared.rows.State.TheVariants.{Taken, Waiting}
use Rattle.qx_machine.specs.declared.rows.Target.{Target}
use Rattle.qx_machine.specs.declared.rows.ThreadRow.{ThreadRow}
use Rattle.qx_machine.specs.declared.rows.WaitingCall.{WaitingCall}
use Rattle.qx_machine.specs.Functions.{Deed, Reply, existing_coid}
use Rattle.qx_isolation.specs.Judgements.{◌>>=◌, found, need}
use Rattle.qx_machine.specs.Managers.{close_client, manager_deed}
use Rattle.qx_machine.specs.Parts.{Part, Change, Remove, disconnects, thread_at, with_process}
use Rattle.qx_machine.specs.PipeManager.{cancel_call}
use Rattle.qx_machine.specs.Processes.{Process, after_error, after_reply, answered_thread, served_thread, servers_at, with_thread, without_server}
use Rattle.qx_machine.specs.Resources.{Resources}
use Rattle.qx_isolation.specs.System as system
use Rattle.qx_isolation.specs.Rows.{row_at}
use Rattle.qx_machine.specs.Servers.{in_use, is_numbered}

-- what performing an item gives
abbrev pub Served : Type 0
Served = system.Served Part

-- the connection that a dup names, the old one
abbrev pub dup_of : Meaning → Option Coid
dup_of (Known (msg.Dup old)) = Some old
dup_of _ = None

-- the connection whose block a message works on: that which it came over, but of a dup the old one
abbrev pub works_over : Over → Option Coid → Result Coid Errno
works_over over (Some old) = Ok old
works_over over None = found (existing_coid over) EINVAL

-- what a message's connection has open: the connection is there still, at this manager, with a block (C Library Reference: EBADF)
abbrev pub opened_by : Process → Caller → Target → ℕ → Option Coid → Result Opened Errno
opened_by process caller target moment old = do
  coid ← works_over target.over old
  connection ← found (row_at process.connections coid.0) EBADF
  here ← need (is_numbered (manager_number target.manager) connection.manager) EBADF
  number ← found connection.block EBADF
  Ok (record { process = caller.process; thread = caller.thread; coid = coid; is_asked = caller.is_asked; number = number; call = caller.call; moment = moment })

-- a process as a manager knows it; one that has no server connection in use there has none of number 0
abbrev pub client_at : ℕ → Manager → Process → Client
client_at number manager process = record { process = number; server = record { manager = manager; number = unwrap_or (in_use (servers_at manager process)) 0 } }

-- what a message of a process that means this is served with
abbrev pub context_of : Process → Caller → Target → ℕ → Meaning → Context
context_of process caller target moment given = record {
  target = target;
  client = client_at caller.process target.manager process;
  opened = opened_by process caller target moment (dup_of given);
  moment = moment;
}

-- the message that a manager reads, or how it answers other bytes (Writing a Resource Manager: ENOSYS for an unknown message; that
-- malformed ones are EINVAL is this profile)
abbrev pub read_message : Meaning → Result Message Errno
read_message (Known message) = Ok message
read_message Unknown = Err ENOSYS
read_message Malformed = Err EINVAL

-- what bytes that mean this come to
abbrev pub deed_of : Resources → Context → Meaning → Result (Deed Resources) Errno
deed_of resources context given = do
  message ← read_message given
  manager_deed context.target.manager resources context message

-- ---- answers

-- the row of a process once its message is replied to, or is left without a reply (C Library Reference: MsgReply)
abbrev pub after_serving : ℕ → Over → Option Reply → Process → Process
after_serving thread over None process = with_thread thread served_thread process
after_serving thread over (Some reply) process = after_reply thread over reply.effect (with_thread thread (answered_thread (answer.Reply reply.status reply.bytes)) process)

-- the row of a process once its message comes to that (C Library Reference: MsgReply, MsgError)
abbrev pub after_message : ℕ → Over → Result (Deed Resources) Errno → Process → Process
after_message thread over (Ok deed) process = after_serving thread over deed.reply process
after_message thread over (Err error) process = after_error thread over (with_thread thread (answered_thread (Failed error)) process)

-- a call that waited is answered; it came over a connection that is there, so nothing is given back
abbrev pub with_answer : WaitingCall × Answer → Part → Part
with_answer (call, given) part = with_process call.process (with_thread call.thread (answered_thread given)) part

abbrev pub with_answers : List (WaitingCall × Answer) → Part → Part
with_answers [] part = part
with_answers (first ∷ rest) part = with_answers rest (with_answer first part)

-- the rows once a message is served (C Library Reference: MsgReply, MsgError)
abbrev pub after_answer : Part → ℕ → ℕ → Over → Result (Deed Resources) Errno → Part
after_answer part process thread over (Ok deed) =
    with_answers deed.answers (with_process process (after_message thread over (Ok deed)) (record part { resources = deed.state }))
after_answer part process thread over (Err error) = with_process process (after_message thread over (Err error)) part

-- the manager that a thread has called whose message was received and is not answered; of any other thread it says nothing
abbrev pub called_in : State → Manager
called_in (Taken sent) = sent.target.manager
called_in (Waiting sent) = sent.target.manager
called_in _ = Ram

abbrev pub called_by : Option ThreadRow → Manager
called_by None = Ram
called_by (Some row) = called_in row.state

-- an answer takes an unblock pulse of its call out of the line of the manager that its thread had called, if one stands there
abbrev pub answered_changes : List (WaitingCall × Answer) → Part → List Change
answered_changes [] part = []
answered_changes (first ∷ rest) part =
    Remove (called_by (thread_at part first.0.process first.0.thread)) (item.Unblock first.0.process first.0.thread first.0.call)
    ∷ answered_changes rest (with_answer first part)

abbrev pub own_change : Manager → Caller → Change
own_change manager caller = Remove manager (item.Unblock caller.process caller.thread caller.call)

-- what changes in the lines as a message is served, its process' disconnect pulse among it
abbrev pub served_changes : Part → Manager → Caller → List Change → Result (Deed Resources) Errno → List Change
served_changes part manager caller lost (Ok deed) = (if is_some deed.reply then own_change manager caller ∷ [] else []) ++ lost ++ answered_changes deed.answers part
served_changes part manager caller lost (Err error) = own_change manager caller ∷ lost

-- ---- what a worker does

abbrev pub taken_in : State → Option Sent
taken_in (Taken sent) = Some sent
taken_in _ = None

abbrev pub caller_of : ℕ → ℕ → ThreadRow → Sent → Caller
caller_of process thread row sent = record { process = process; thread = thread; call = row.calls; is_asked = sent.is_asked }

-- the disconnect pulse has this priority
abbrev pub served_by : ℕ → Part → Caller → Sent → Result (Deed Resources) Errno → Served
served_by prio part caller sent given = record {
  part = after_answer part caller.process caller.thread sent.target.over given;
  changes = served_changes (with_process caller.process (after_message caller.thread sent.target.over given) part) sent.target.manager caller (disconnects prio caller.process (after_message caller.thread sent.target.over given) (row_at part.processes caller.process)) given;
}

-- only a message that was received and not answered is performed, for a user whose disconnect pulses have this priority
abbrev pub serve_message : ℕ → Part → ℕ → ℕ → ℕ → Result Served Outcome
serve_message prio part number thread moment = do
  process ← found (row_at part.processes number) WrongState
  row ← found (row_at process.threads thread) WrongState
  sent ← found (taken_in row.state) WrongState
  Ok (served_by prio part (caller_of number thread row sent) sent (deed_of part.resources (context_of process (caller_of number thread row sent) sent.target moment (meaning sent.bytes)) (meaning sent.bytes)))

-- calls that waited are answered by what was done
abbrev pub answering : Part → Deed Resources → Served
answering part deed = record {
  part = with_answers deed.answers (record part { resources = deed.state });
  changes = answered_changes deed.answers part;
}

-- an unblock pulse is for a call that waits in a pipe, and for no other (Writing a Resource Manager: the unblock pulse)
abbrev pub serve_pulse : Part → ℕ → ℕ → ℕ → ℕ → Result Served Outcome
serve_pulse part process thread call moment = do
  deed ← cancel_call part.resources process thread call moment
  Ok (answering part deed)

-- with a disconnect pulse go the open control blocks of its client, and its server connection (Writing a Resource Manager:
-- _PULSE_CODE_DISCONNECT)
abbrev pub serve_disconnect : Part → Client → ℕ → Result Served Outcome
serve_disconnect part client moment = do
  process ← found (row_at part.processes client.process) WrongState
  Ok (answering (with_process client.process (without_server client.server) part) (close_client part.resources client moment))

-- else nothing is done
abbrev pub or_kept : Part → Result Served Outcome → Served
or_kept part (Ok given) = given
or_kept part (Err outcome) = record { part = part; changes = [] }
