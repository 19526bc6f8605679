-- How the rows of threads and processes, the lines and the nodes stand together. No public clause of the channel cites this module.
use Rattle.std.specs.Prelude.{◌≡◌, ℕ, ◌==◌, ◌&&◌, if◌then◌else◌, Bool, true, false, List, [], ◌∷◌, IsSome, Option, Some, None, length, is_some, max}
use Rattle.std.specs.List.{AllByRecursion}
use Rattle.qx_types.specs.Managers.{manager_count, manager_number}
use Rattle.qx_types.specs.declared.names.Manager.{Manager}
use Rattle.qx_types.specs.declared.names.Proc.{Proc}
use Rattle.qx_types.specs.declared.names.Thread.{Thread}
use Rattle.qx_machine.specs.declared.rows.Over.{Over}
use Rattle.qx_machine.specs.declared.rows.Sent.{Sent}
use Rattle.qx_isolation.specs.declared.rows.ServerName.{ServerName}
use Rattle.qx_machine.specs.declared.rows.State.{State}
use Rattle.qx_machine.specs.declared.rows.State.TheVariants.{Queued, Taken, Waiting}
use Rattle.qx_machine.specs.declared.rows.Target.{Target}
use Rattle.qx_machine.specs.declared.rows.ThreadRow.{ThreadRow}
use Rattle.qx_isolation.specs.Lines.{into, line_at}
use Rattle.qx_machine.specs.Machine.{rank}
use Rattle.qx_machine.specs.Parts.{thread_of}
use Rattle.qx_machine.specs.Processes.{Process, has_ended}
use Rattle.qx_isolation.specs.Rows.{row_at}
use Rattle.qx_queues.specs.Queues.{UsersAnswer, UsersCall, caller, message_of, stands, unblock_call}
use Rattle.qx_resources.specs.declared.tables.Tables.{Tables}
use Rattle.qx_shared.specs.Shared.{Shared, has_disconnect_node, has_thread, waiting_in, with_shared_disconnect, with_shared_line, with_shared_server}
use Rattle.qx_chan.specs.Nodes.{attaches, served_at}
use Rattle.qx_clients.specs.Calls.{has_ended_in}
use Rattle.qx_chan.specs.Users.{Users, process_of, thread_row}

-- the message of a thread in this state stands in the line of that number
abbrev pub is_queued_at : ℕ → State → Bool
is_queued_at number (Queued sent) = manager_number sent.target.manager == number
is_queued_at number _ = false

abbrev pub stands_at : ℕ → Option ThreadRow → Bool
stands_at number None = false
stands_at number (Some row) = is_queued_at number row.state

-- an unblock pulse for that call of a thread in this state may stand in the line of that number
abbrev pub is_asked_at : ℕ → ℕ → ℕ → State → Bool
is_asked_at number call calls (Taken sent) = sent.is_asked && (manager_number sent.target.manager == number) && (calls == call)
is_asked_at number call calls (Waiting sent) = sent.is_asked && (manager_number sent.target.manager == number) && (calls == call)
is_asked_at number call calls _ = false

abbrev pub asked_call : ℕ → ℕ → Option ThreadRow → Bool
asked_call number call None = false
asked_call number call (Some row) = is_asked_at number call row.calls row.state

-- a thread in this state waits for the answer to that call, which was served and could not be answered yet
abbrev pub is_waiting_for : ℕ → ℕ → State → Bool
is_waiting_for call calls (Waiting sent) = calls == call
is_waiting_for call calls _ = false

abbrev pub waits_for : ℕ → Option ThreadRow → Bool
waits_for call None = false
waits_for call (Some row) = is_waiting_for call row.calls row.state

-- a call of a thread of this process may wait: the thread waits for the answer to it, or if the call's process has ended, this one has
abbrev pub may_wait : Bool → ℕ → ℕ → Option Process → Bool
may_wait true tid call process = has_ended_in process
may_wait false tid call process = waits_for call (thread_of tid process)

abbrev pub IsWaiting : Users → UsersCall → Type 0
IsWaiting processes own = may_wait own.call.is_gone own.call.thread own.call.call (process_of processes (caller own).proc) ≡ true

-- and the thread to which it goes for an answer
abbrev pub IsAwaited : Users → UsersAnswer → Type 0
IsAwaited processes given = waits_for given.call (thread_row processes given.thread) ≡ true

-- a process has nodes for a thread of that number: for one that it has, and once it has ended for one that it had
abbrev pub has_nodes : ℕ → Option Process → Bool
has_nodes tid None = false
has_nodes tid (Some process) = if has_ended process then is_some (row_at process.held tid) else is_some (row_at process.threads tid)

abbrev pub nodes_for : Users → Thread → Bool
nodes_for processes thread = has_nodes thread.tid (process_of processes thread.proc)

-- a process has a disconnect node at a manager exactly while it has a server connection in use there
abbrev pub HasServerNodesOf : Option Process → Shared → Proc → Type 0
HasServerNodesOf process queues proc = (manager : Manager) → has_disconnect_node queues proc (manager_number manager) ≡ served_at manager process

-- the same of the process under its number
abbrev pub HasServerNodes : Users → Shared → Proc → Type 0
HasServerNodes processes queues proc = HasServerNodesOf (process_of processes proc) queues proc

-- a thread has nodes exactly from its start until its process is freed, its message stands in a line exactly if its row says so, an unblock
-- pulse only while its call is asked for, and its call in a pipe only while it waits for the answer, or after its process has ended; no
-- answer is on its way; and a process has a disconnect node at a manager exactly while it has a server connection in use there
pub record StandTogether (processes : Users) (queues : Shared) : Type 0 where
  pub users : length queues.pipes ≡ length processes
  pub managers : length queues.lines ≡ manager_count
  pub threads : (thread : Thread) → has_thread queues thread ≡ nodes_for processes thread
  pub lines : (thread : Thread) (number : ℕ) → stands (line_at queues.lines number) thread ≡ stands_at number (thread_row processes thread)
  pub pulses : (thread : Thread) (number call : ℕ) → unblock_call (line_at queues.lines number) thread ≡ Some call → asked_call number call (thread_row processes thread) ≡ true
  pub servers : (proc : Proc) → HasServerNodes processes queues proc
  pub waits : (user : ℕ) → AllByRecursion (IsWaiting processes) (waiting_in queues user)
  pub answered : queues.answered ≡ []

-- and who has a place for pipes has one for events, and there is a spare room for a reply
pub record AllStandTogether (processes : Users) (waits : Tables) (room : Option (List ℕ)) : Type 0 where
  pub shared : StandTogether processes waits.shared
  pub events : length waits.events.events ≡ length waits.shared.pipes
  pub spare : IsSome room

-- all of the first, but that answers are on their way: each is to a call whose thread waits for it
pub record Answering (processes : Users) (queues : Shared) : Type 0 where
  pub kept : StandTogether processes (record queues { answered = [] })
  pub answered : AllByRecursion (IsAwaited processes) queues.answered

-- the disconnect pulses of a process that has lost these server connections stand in their managers' lines, with this priority
abbrev pub with_lost : ℕ → Proc → List ServerName → Shared → Shared
with_lost prio proc [] queues = queues
with_lost prio proc (server ∷ servers) queues = with_lost prio proc servers (with_shared_disconnect queues proc server prio)

-- the disconnect node of a process once its call has attached what the message goes over
abbrev pub with_attached : Proc → Option Process → Target → Shared → Shared
with_attached proc process target queues = if attaches target.over && served_at target.manager process then with_shared_server queues proc (manager_number target.manager) else queues

-- room for the disconnect node of what a message goes over
abbrev pub with_room : Over → Shared → Shared
with_room over queues = if attaches over then record queues { room = max queues.room 2 } else queues

-- once a message stands in its manager's line, with the disconnect node of what the process has in use then
abbrev pub with_sent : Thread → Sent → Option Process → Shared → Shared
with_sent thread sent process queues =
    with_attached thread.proc process sent.target (with_shared_line (with_room sent.target.over queues) (manager_number sent.target.manager) (λ line. into rank line (message_of thread sent.target.prio.0)))
