-- What a client's step does to the rows of its user.
use Rattle.std.specs.Prelude.{ℕ, Bool, false, true, if◌then◌else◌, List, [], ◌∷◌, ◌++◌, ◌+◌, ◌&&◌, Option, Some, None, Result, Ok, Err, map, nat_le, option_map}
use Rattle.qx_types.specs.Configuration.{Configuration, limits_of, name_bytes}
use Rattle.qx_base.specs.declared.errno.Errno.TheVariants.{EAGAIN, EINTR, EINVAL, EPERM}
use Rattle.qx_types.specs.declared.limits.TheConstants.Limits.{THREADS}
use Rattle.qx_types.specs.declared.names.Manager.{Manager}
use Rattle.qx_types.specs.declared.names.Proc.{Proc}
use Rattle.qx_types.specs.declared.names.Thread.{Thread}
use Rattle.qx_types.specs.declared.outcome.Answer.{Answer}
use Rattle.qx_types.specs.declared.outcome.Answer.TheVariants as answer
use Rattle.qx_types.specs.declared.outcome.Outcome.{Outcome}
use Rattle.qx_types.specs.declared.outcome.Outcome.TheVariants as outcome
use Rattle.qx_types.specs.declared.outcome.Outcome.TheVariants.{Spawned, Refused, Done, Reply, Failed, NoPulse, WrongState, Pulse as PulseGiven}
use Rattle.qx_types.specs.declared.request.Request.{Request}
use Rattle.qx_types.specs.declared.step.Step.{Step}
use Rattle.qx_types.specs.declared.step.Step.TheVariants.{Spawn, Exit, Call, TakeReply, TakePulse, SetPrio, Interrupt, Mount}
use Rattle.qx_paths.specs.Prefixes.{MountPoint}
use Rattle.qx_machine.specs.declared.rows.Addressed.{Addressed}
use Rattle.qx_isolation.specs.declared.rows.OwnItem.{OwnItem}
use Rattle.qx_isolation.specs.declared.rows.OwnItem.TheVariants as item
use Rattle.qx_machine.specs.declared.rows.Pulse.{Pulse}
use Rattle.qx_machine.specs.declared.rows.Sent.{Sent}
use Rattle.qx_machine.specs.declared.rows.State.{State}
use Rattle.qx_machine.specs.declared.rows.State.TheVariants.{Answered, Queued, Taken, Waiting}
use Rattle.qx_machine.specs.declared.rows.ThreadRow.{ThreadRow}
use Rattle.qx_machine.specs.declared.rows.WaitingCall.{WaitingCall}
use Rattle.qx_machine.specs.Calls.{address, bytes_of, content_of, is_ready, may_call, target_at}
use Rattle.qx_machine.specs.Events.{first_pulse, without_first_pulse, without_pulses}
use Rattle.qx_isolation.specs.Judgements.{◌>>=◌, found, need, or_refused}
use Rattle.qx_types.specs.UserLimits.{UserLimits}
use Rattle.qx_machine.specs.Mounting.{new_mount, with_mount}
use Rattle.qx_machine.specs.Parts.{Part, Change, Put, Remove, disconnect, disconnects, thread_at, with_process, with_thread_of}
use Rattle.qx_machine.specs.Performing.{after_answer, after_message}
use Rattle.qx_machine.specs.Pipes.{Pipe}
use Rattle.qx_machine.specs.Processes.{Process, asked_thread, ended, living, lost_servers, new_process, with_queued, ranked_thread, ready_thread}
use Rattle.qx_machine.specs.Resources.{Resources}
use Rattle.qx_isolation.specs.System as system
use Rattle.qx_isolation.specs.Rows.{lowest_from, put_row, row_at}
use Rattle.qx_machine.specs.Waiting.{is_of_process}

-- what a client's step gives
abbrev pub ClientStep : Type 0
ClientStep = system.ClientStep Part

-- a user with this ceiling gives a thread a priority: from 1 to the ceiling (C Library Reference: SchedSet; the ceiling is this profile)
unfoldable pub may_give : ℕ → ℕ → Result Bool Outcome
may_give ceiling prio = do
  some ← need (nat_le 1 prio) (Refused EINVAL)
  need (nat_le prio ceiling) (Refused EPERM)

-- the number of a new process of a user with these limits
abbrev pub spawn_number : UserLimits → List (Option Process) → ℕ → ℕ → Result ℕ Outcome
spawn_number limits processes threads prio = do
  valid ← need (nat_le 1 threads && nat_le threads THREADS) (Refused EINVAL)
  allowed ← may_give limits.ceiling prio
  free ← need (nat_le (lowest_from 1 processes) limits.processes) (Refused EAGAIN)
  Ok (lowest_from 1 processes)

abbrev pub spawn : UserLimits → Part → ℕ → ℕ → Result ClientStep Outcome
spawn limits part threads prio = do
  number ← spawn_number limits part.processes threads prio
  Ok (record { outcome = Spawned number; part = record part { processes = put_row part.processes number (new_process threads prio) }; changes = [] })

-- where a call of a thread goes
abbrev pub target_by : Configuration → ℕ → List MountPoint → List (Option Process) → Thread → Request → Result Addressed Outcome
target_by config user mounts processes thread request = do
  process ← found (row_at processes thread.proc.num) WrongState
  row ← found (row_at process.threads thread.tid) WrongState
  may ← may_call row request
  target_at config user mounts processes process row.prio (address request)

-- the message goes into its manager's line with its thread's priority (System Architecture: the channel's line of messages)
abbrev pub call : Configuration → ℕ → Part → Thread → Request → Result ClientStep Outcome
call config user part thread request = do
  addressed ← target_by config user part.resources.mounts part.processes thread request
  Ok (record {
    outcome = outcome.Sent;
    part = with_process thread.proc.num (with_queued thread.tid (record { target = addressed.target; is_asked = false; bytes = bytes_of (content_of request addressed.rest addressed.to) })) part;
    changes = Put addressed.target.manager (item.Message thread.proc.num thread.tid) addressed.target.prio.0 ∷ [];
  })

abbrev pub outcome_of : Answer → Outcome
outcome_of (answer.Reply status bytes) = Reply status bytes
outcome_of (answer.Failed error) = Failed error

abbrev pub answer_in : State → Option Answer
answer_in (Answered given) = Some given
answer_in _ = None

-- a thread that has its answer gives it and is ready again
abbrev pub take_reply : Part → Thread → Result ClientStep Outcome
take_reply part thread = do
  row ← found (thread_at part thread.proc.num thread.tid) WrongState
  given ← found (answer_in row.state) WrongState
  Ok (record { outcome = outcome_of given; part = with_thread_of thread ready_thread part; changes = [] })

-- of a process with these events: the first pulse, and what is left, or that there is none
abbrev pub pulse_taken : Part → ℕ → Option Pulse → ClientStep
pulse_taken part process None = record { outcome = NoPulse; part = part; changes = [] }
pulse_taken part process (Some first) = record {
  outcome = PulseGiven first.code first.value;
  part = record part { resources = record part.resources { events = without_first_pulse process part.resources.events } };
  changes = [];
}

-- a process takes its first pulse (C Library Reference: MsgReceivePulse)
abbrev pub take_pulse : Part → Proc → Result ClientStep Outcome
take_pulse part proc = do
  process ← found (living (row_at part.processes proc.num)) WrongState
  Ok (pulse_taken part proc.num (first_pulse proc.num part.resources.events))

-- ---- exit

-- what stands in a line of a thread in this state, after so many calls: its message, or the pulse that asks to unblock it
abbrev pub dropped_in : ℕ → ℕ → ℕ → State → List Change
dropped_in process thread calls (Queued sent) = Remove sent.target.manager (item.Message process thread) ∷ []
dropped_in process thread calls (Taken sent) = Remove sent.target.manager (item.Unblock process thread calls) ∷ []
dropped_in process thread calls (Waiting sent) = Remove sent.target.manager (item.Unblock process thread calls) ∷ []
dropped_in process thread calls _ = []

abbrev pub dropped_by : ℕ → ℕ → Option ThreadRow → List Change
dropped_by process thread None = []
dropped_by process thread (Some row) = dropped_in process thread row.calls row.state

-- of all threads from a number on
abbrev pub dropped : ℕ → ℕ → List (Option ThreadRow) → List Change
dropped process thread [] = []
dropped process thread (row ∷ rows) = dropped_by process thread row ++ dropped process (thread + 1) rows

-- a call of the process that waits is one of a process that has ended
abbrev pub abandoned : ℕ → WaitingCall → WaitingCall
abandoned process call = if is_of_process process call then record call { is_gone = true } else call

abbrev pub with_abandoned : ℕ → Pipe WaitingCall → Pipe WaitingCall
with_abandoned process pipe = record pipe { readers = map (abandoned process) pipe.readers; writers = map (abandoned process) pipe.writers }

-- what is kept of a process that ends: its calls wait on until their pipes are worked on, and its pulses go
abbrev pub without_process : ℕ → Resources → Resources
without_process process r = record r { pipes = map (option_map (with_abandoned process)) r.pipes; events = without_pulses process r.events }

-- a process ends: what it has in lines goes, and each of its server connections that is left by that gives its disconnect pulse (C Library
-- Reference: _exit; System Architecture: a client that dies), of this priority
abbrev pub exit : ℕ → Part → Proc → Result ClientStep Outcome
exit prio part proc = do
  process ← found (living (row_at part.processes proc.num)) WrongState
  Ok (record {
    outcome = Done;
    part = with_process proc.num ended (record part { resources = without_process proc.num part.resources });
    changes = dropped proc.num 0 process.threads ++ map (disconnect prio proc.num) (lost_servers process (ended process));
  })

-- ---- what threads do

-- a thread gets another priority
abbrev pub set_prio : ℕ → Part → Thread → ℕ → Result ClientStep Outcome
set_prio ceiling part thread prio = do
  row ← found (thread_at part thread.proc.num thread.tid) WrongState
  allowed ← may_give ceiling prio
  Ok (record { outcome = Done; part = with_thread_of thread (ranked_thread prio) part; changes = [] })

-- an interrupt of a thread whose message stands in a line: the message goes, the thread is answered EINTR, and what its call attached
-- goes too, with the disconnect pulse, of this priority, of a process that lost its last connection by that (C Library Reference: MsgSend,
-- EINTR)
abbrev pub dismiss : ℕ → Part → Thread → Sent → ClientStep
dismiss prio part thread sent = record {
  outcome = Done;
  part = after_answer part thread.proc.num thread.tid sent.target.over (Err EINTR);
  changes = Remove sent.target.manager (item.Message thread.proc.num thread.tid) ∷
      disconnects prio thread.proc.num (after_message thread.tid sent.target.over (Err EINTR)) (row_at part.processes thread.proc.num);
}

-- of one whose message was received: the message is marked, and a pulse asks its manager to unblock the thread from the call, with the
-- message's priority (C Library Reference: ChannelCreate, _NTO_CHF_UNBLOCK; the pulse's priority is this profile); once a call
abbrev pub ask_unblock : Part → Thread → ℕ → Sent → ClientStep
ask_unblock part thread call sent = record {
  outcome = Done;
  part = with_thread_of thread asked_thread part;
  changes = Put sent.target.manager (item.Unblock thread.proc.num thread.tid call) sent.target.prio.0 ∷ [];
}

-- of one that waits for nothing
abbrev pub leave : Part → ClientStep
leave part = record { outcome = Done; part = part; changes = [] }

abbrev pub interrupt_in : ℕ → Part → Thread → ℕ → State → ClientStep
interrupt_in prio part thread call (Queued sent) = dismiss prio part thread sent
interrupt_in prio part thread call (Taken sent) = if sent.is_asked then leave part else ask_unblock part thread call sent
interrupt_in prio part thread call (Waiting sent) = if sent.is_asked then leave part else ask_unblock part thread call sent
interrupt_in prio part thread call _ = leave part

abbrev pub interrupt : ℕ → Part → Thread → Result ClientStep Outcome
interrupt prio part thread = do
  row ← found (thread_at part thread.proc.num thread.tid) WrongState
  Ok (interrupt_in prio part thread row.calls row.state)

-- what a ready thread mounts
abbrev pub mount_by : Configuration → ℕ → Part → Thread → List ℕ → Manager → Result MountPoint Outcome
mount_by config user part thread path manager = do
  row ← found (thread_at part thread.proc.num thread.tid) WrongState
  ready ← need (is_ready row.state) WrongState
  or_refused (new_mount (name_bytes config user) path manager part.resources)

-- a manager is attached at a path (C Library Reference: resmgr_attach; that a client's thread does it for its own user alone is this
-- profile)
abbrev pub mount : Configuration → ℕ → Part → Thread → List ℕ → Manager → Result ClientStep Outcome
mount config user part thread path manager = do
  mount ← mount_by config user part thread path manager
  Ok (record { outcome = Done; part = record part { resources = with_mount mount part.resources }; changes = [] })

-- what a client's step gives, or the outcome of one that changes nothing
abbrev pub client_given : Configuration → ℕ → List OwnItem → Part → Step → Result ClientStep Outcome
client_given config user held part (Spawn of_user threads prio) = spawn (limits_of config user) part threads prio.0
client_given config user held part (Exit proc) = exit (limits_of config user).disconnect part proc
client_given config user held part (Call thread request) = call config user part thread request
client_given config user held part (TakeReply thread) = take_reply part thread
client_given config user held part (TakePulse proc) = take_pulse part proc
client_given config user held part (SetPrio thread prio) = set_prio (limits_of config user).ceiling part thread prio.0
client_given config user held part (Interrupt thread) = interrupt (limits_of config user).disconnect part thread
client_given config user held part (Mount thread path manager) = mount config user part thread path manager
client_given config user held part _ = Err WrongState

-- a step that is refused changes nothing
abbrev pub or_unchanged : Part → Result ClientStep Outcome → ClientStep
or_unchanged part (Ok given) = given
or_unchanged part (Err outcome) = record { outcome = outcome; part = part; changes = [] }
