-- Processes with their threads and connections, and how these change.
use Rattle.std.specs.Prelude.{ℕ, Bool, false, true, ◌+◌, ◌==◌, ◌&&◌, List, [], ◌∷◌, Option, Some, None, if◌then◌else◌, is_none, is_some, length, map, nat_le, option_map, replicate, slice_set}
use Rattle.std.specs.List.{flat_map, list_any}
use Rattle.qx_base.specs.declared.message.TheConstants.MessageBytes.{INLINE}
use Rattle.qx_types.specs.Managers.{manager_count, manager_number, managers}
use Rattle.qx_types.specs.declared.limits.TheConstants.Limits.{FIRST_CONNECTION, THREADS}
use Rattle.qx_types.specs.declared.names.Manager.{Manager}
use Rattle.qx_types.specs.declared.outcome.Answer.{Answer}
use Rattle.qx_types.specs.declared.outcome.Answer.TheVariants.{Failed, Reply}
use Rattle.qx_machine.specs.declared.rows.Connection.{Connection}
use Rattle.qx_machine.specs.declared.rows.Effect.{Effect}
use Rattle.qx_machine.specs.declared.rows.Effect.TheVariants.{Keeps, Opens, Closes}
use Rattle.qx_machine.specs.declared.rows.Over.{Over}
use Rattle.qx_machine.specs.declared.rows.Over.TheVariants.{New, Existing, Side}
use Rattle.qx_machine.specs.declared.rows.Sent.{Sent}
use Rattle.qx_isolation.specs.declared.rows.ServerName.{ServerName}
use Rattle.qx_machine.specs.declared.rows.State.{State}
use Rattle.qx_machine.specs.declared.rows.State.TheVariants.{Answered, Queued, Ready, Taken, Waiting}
use Rattle.qx_machine.specs.declared.rows.ThreadRow.{ThreadRow}
use Rattle.qx_isolation.specs.Lines.{line_at, with_line}
use Rattle.qx_isolation.specs.Rows.{put_row, row_at, with_row}
use Rattle.qx_machine.specs.Servers.{Servers, in_use, is_attached, lost_by, no_servers, servers_from, without_left}

-- threads from 1 and connections from 3; at which manager each thread has a side connection; the server connections at each manager, under
-- its number; and of a process that has ended, under the number of each thread that it had, the bytes of the thread's message if that was
-- received and not served: a worker holds it still
pub record Process : Type 0 where
  pub threads : List (Option ThreadRow)
  pub connections : List (Option Connection)
  pub sides : List (Option Manager)
  pub servers : List Servers
  pub held : List (Option (List ℕ))

abbrev pub new_thread : ℕ → ThreadRow
new_thread prio = record { state = Ready; prio = record { 0 = prio }; calls = 0; has_room = false }

-- no thread has a side connection
abbrev pub no_sides : List (Option Manager)
no_sides = replicate (THREADS + 1) None

-- a process with so many threads, all ready, and nothing attached
abbrev pub new_process : ℕ → ℕ → Process
new_process threads prio = record {
  threads = None ∷ replicate threads (Some (new_thread prio));
  connections = replicate FIRST_CONNECTION None;
  sides = no_sides;
  servers = replicate manager_count no_servers;
  held = [];
}

-- the server connections follow what is attached
abbrev pub with_servers : Process → Process
with_servers process = record process { servers = servers_from (λ number. is_attached number process.connections process.sides) 0 process.servers }

-- a new connection, with no open control block yet
abbrev pub with_connection : ℕ → Manager → Process → Process
with_connection coid manager process = with_servers (record process { connections = put_row process.connections coid (record { manager = manager; block = None }) })

-- a connection goes
abbrev pub without_connection : ℕ → Process → Process
without_connection coid process = with_servers (record process { connections = slice_set process.connections coid None })

-- a thread has a side connection at a manager, or none
abbrev pub with_side : ℕ → Option Manager → Process → Process
with_side thread side process = with_servers (record process { sides = slice_set process.sides thread side })

-- a thread gets a side connection, of which it has one at most
abbrev pub with_new_side : ℕ → Manager → Process → Process
with_new_side thread manager process = if is_none (row_at process.sides thread) then with_side thread (Some manager) process else process

-- the server connections at a manager
abbrev pub servers_at : Manager → Process → Servers
servers_at manager process = line_at process.servers (manager_number manager)

-- a server connection that was left goes
abbrev pub without_server : ServerName → Process → Process
without_server server process = record process { servers = with_line process.servers (manager_number server.manager) (without_left server.number) }

-- the server connections that a process has lost that was like that and is like this: each was in use, and none is any more at its manager
abbrev pub lost_servers : Process → Process → List ServerName
lost_servers before after = flat_map (λ manager. lost_by manager (in_use (servers_at manager before)) (in_use (servers_at manager after))) managers

-- a connection has its open control block
abbrev pub with_block : ℕ → ℕ → Process → Process
with_block coid block process = record process { connections = with_row process.connections coid (λ connection. record connection { block = Some block }) }

-- what a message that is done does to a connection
abbrev pub after_effect : Effect → Process → Process
after_effect Keeps process = process
after_effect (Opens coid block) process = with_block coid.0 block process
after_effect (Closes coid) process = without_connection coid.0 process

-- what a message does to what it came over, once it is replied to: a side connection goes
abbrev pub after_reply : ℕ → Over → Effect → Process → Process
after_reply thread (New coid) effect process = after_effect effect process
after_reply thread (Existing coid) effect process = after_effect effect process
after_reply thread Side effect process = with_side thread None process

-- one of the threads changes
abbrev pub with_thread : ℕ → (ThreadRow → ThreadRow) → Process → Process
with_thread thread change process = record process { threads = with_row process.threads thread change }

-- what a message goes over is attached
abbrev pub with_over : ℕ → Manager → Over → Process → Process
with_over thread manager (New coid) process = with_connection coid.0 manager process
with_over thread manager (Existing coid) process = process
with_over thread manager Side process = with_new_side thread manager process

-- an error gives a new connection back, and a side connection goes with it
abbrev pub after_error : ℕ → Over → Process → Process
after_error thread (New coid) process = without_connection coid.0 process
after_error thread (Existing coid) process = process
after_error thread Side process = with_side thread None process

-- a thread that sent a message: there is room for its reply from then on
abbrev pub queued_thread : Sent → ThreadRow → ThreadRow
queued_thread sent row = record row { state = Queued sent; calls = row.calls + 1; has_room = true }

-- what becomes of a thread's state when its message is received
abbrev pub taken_state : State → State
taken_state (Queued sent) = Taken sent
taken_state state = state

abbrev pub taken_thread : ThreadRow → ThreadRow
taken_thread row = record row { state = taken_state row.state }

-- what becomes of a thread's state when its message, which was received, is asked to unblock it
abbrev pub asked_state : State → State
asked_state (Taken sent) = Taken (record sent { is_asked = true })
asked_state (Waiting sent) = Waiting (record sent { is_asked = true })
asked_state state = state

abbrev pub asked_thread : ThreadRow → ThreadRow
asked_thread row = record row { state = asked_state row.state }

-- what becomes of a thread's state when its message is served and not answered by that: the message's bytes go
abbrev pub served_state : State → State
served_state (Taken sent) = Waiting (record sent { bytes = [] })
served_state state = state

abbrev pub served_thread : ThreadRow → ThreadRow
served_thread row = record row { state = served_state row.state }

-- an answer leaves the thread its room for replies, unless its bytes are more than stand in its value (this profile)
abbrev pub keeps_room : Answer → Bool
keeps_room (Reply status bytes) = nat_le (length bytes) INLINE
keeps_room (Failed error) = true

-- a thread that has its answer
abbrev pub answered_thread : Answer → ThreadRow → ThreadRow
answered_thread answer row = record row { state = Answered answer; has_room = row.has_room && keeps_room answer }

-- a thread that took its answer
abbrev pub ready_thread : ThreadRow → ThreadRow
ready_thread row = record row { state = Ready }

-- a thread of another priority
abbrev pub ranked_thread : ℕ → ThreadRow → ThreadRow
ranked_thread prio row = record row { prio = record { 0 = prio } }

-- a message of a thread goes out
abbrev pub with_queued : ℕ → Sent → Process → Process
with_queued thread sent process = with_over thread sent.target.manager sent.target.over (with_thread thread (queued_thread sent) process)

-- ---- the end of a process

-- a process has ended: it has no threads any more
abbrev pub has_ended : Process → Bool
has_ended process = length process.threads == 0

-- a process that has not
abbrev pub living : Option Process → Option Process
living None = None
living (Some process) = if has_ended process then None else Some process

-- the bytes of a thread's message that was received and is not served, and else none
abbrev pub received_in : State → List ℕ
received_in (Taken sent) = sent.bytes
received_in _ = []

abbrev pub received_by : Option ThreadRow → Option (List ℕ)
received_by row = option_map (λ thread. received_in thread.state) row

-- a process ends: threads and connections go, and all its server connections are left (C Library Reference: _exit)
abbrev pub ended : Process → Process
ended process = with_servers (record process { threads = []; connections = []; sides = no_sides; held = map received_by process.threads })

-- a process has a server connection somewhere
abbrev pub has_server : Process → Bool
has_server process = list_any (list_any is_some) process.servers
