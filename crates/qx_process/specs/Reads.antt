-- What rows are asked.
use Rattle.std.specs.Prelude.{ℕ, [], ◌≡◌, ◌≢◌, ◌<◌, ◌≤◌, ◌==◌, ◌&&◌, Bool, true, false, not, List, Option, Some, None, IfSome, IsSome, is_some, map, option_map, ⊤}
use Rattle.std.specs.List.{flat_map}
use Rattle.std.specs.Option.{option_to_list}
use Rattle.qx_types.specs.Managers.{manager_number, managers}
use Rattle.qx_types.specs.declared.limits.TheConstants.Limits.{CALLS, LAST_CONNECTION, SERVERS}
use Rattle.qx_types.specs.declared.outcome.Answer.{Answer}
use Rattle.qx_machine.specs.declared.rows.Over.{Over}
use Rattle.qx_machine.specs.declared.rows.Over.TheVariants.{New, Existing, Side}
use Rattle.qx_machine.specs.declared.rows.Sent.{Sent}
use Rattle.qx_machine.specs.declared.rows.State.{State}
use Rattle.qx_machine.specs.declared.rows.State.TheVariants.{Queued, Taken, Waiting}
use Rattle.qx_machine.specs.declared.rows.Target.{Target}
use Rattle.qx_machine.specs.declared.rows.ThreadRow.{ThreadRow}
use Rattle.qx_isolation.specs.declared.rows.ServerName.{ServerName}
use Rattle.qx_machine.specs.Performing.{taken_in}
use Rattle.qx_machine.specs.Processes.{Process, keeps_room, lost_servers, received_in, servers_at}
use Rattle.qx_isolation.specs.Rows.{lowest_from, row_at}
use Rattle.qx_machine.specs.Servers.{Servers, in_use}
use Rattle.qx_types.specs.declared.names.Manager.{Manager}

-- a message of the thread is in a line, or was received and not yet answered
abbrev pub is_blocked : State → Bool
is_blocked (Queued sent) = true
is_blocked (Taken sent) = true
is_blocked (Waiting sent) = true
is_blocked _ = false

-- the message that stands in a line
abbrev pub queued_in : State → Option Sent
queued_in (Queued sent) = Some sent
queued_in _ = None

-- the message that was received and is not answered
abbrev pub unanswered_in : State → Option Sent
unanswered_in (Taken sent) = Some sent
unanswered_in (Waiting sent) = Some sent
unanswered_in _ = None

abbrev pub is_thread_blocked : Option ThreadRow → Bool
is_thread_blocked None = false
is_thread_blocked (Some row) = is_blocked row.state

-- the message of the thread was served and not yet answered: the room for the reply is with its call
abbrev pub is_waiting : State → Bool
is_waiting (Waiting sent) = true
is_waiting _ = false

-- there is room for a reply, and it is with the thread
abbrev pub has_own_room : ThreadRow → Bool
has_own_room row = row.has_room && not (is_waiting row.state)

-- an answer to a thread in this state, and the room that comes with it: to a call that was served it brings the room back, unless it
-- takes that along; to any other it brings none, and takes none along
abbrev pub BringsRoomIn : Answer → Option (List ℕ) → State → Type 0
BringsRoomIn answer room (Waiting sent) = is_some room ≡ keeps_room answer
BringsRoomIn answer room _ = (room ≡ None) × (keeps_room answer ≡ true)

-- the same of the thread in a place, if one is there
abbrev pub BringsRoom : Answer → Option (List ℕ) → Option ThreadRow → Type 0
BringsRoom answer room None = ⊤
BringsRoom answer room (Some row) = BringsRoomIn answer room row.state

-- the thread is there, and its message was received and is not served
abbrev pub AwaitsReply : Option ThreadRow → Type 0
AwaitsReply None = ⊥
AwaitsReply (Some row) = IsSome (taken_in row.state)

-- the bytes of the message of the thread in a place that was received and is not served, and else none
abbrev pub bytes_received : Option ThreadRow → List ℕ
bytes_received None = []
bytes_received (Some row) = received_in row.state

-- the thread is there, and its calls can be counted once more
abbrev pub CanCall : Option ThreadRow → Type 0
CanCall None = ⊥
CanCall (Some row) = row.calls < CALLS

-- a priority of a thread
abbrev pub IsPriority : ℕ → Type 0
IsPriority prio = 1 ≤ prio

-- the message that a thread waits for has a priority of a thread
abbrev pub WaitsRanked : State → Type 0
WaitsRanked (Queued sent) = IsPriority sent.target.prio.0
WaitsRanked (Taken sent) = IsPriority sent.target.prio.0
WaitsRanked (Waiting sent) = IsPriority sent.target.prio.0
WaitsRanked _ = ⊤

-- a thread and the message that it waits for have priorities
abbrev pub IsRanked : ThreadRow → Type 0
IsRanked row = IsPriority row.prio.0 × WaitsRanked row.state

-- a new connection has a number of the table
abbrev pub HasNumber : Over → Type 0
HasNumber (New coid) = coid.0 ≤ LAST_CONNECTION
HasNumber _ = ⊤

-- a message may go there: over a number of the table, with a priority
abbrev pub CanGo : Target → Type 0
CanGo target = HasNumber target.over × IsPriority target.prio.0

-- ---- server connections

-- one is in use, or there is a number for one more
abbrev pub HasPlace : Servers → Type 0
HasPlace servers = in_use servers ≡ None → lowest_from 1 servers ≤ SERVERS

abbrev pub named : Manager → ℕ → ServerName
named manager number = record { manager = manager; number = number }

-- what a message goes over can be attached to a manager
abbrev pub CanAttach : Process → Manager → Over → Type 0
CanAttach process manager (New coid) = (row_at process.connections coid.0 ≡ None) × HasPlace (servers_at manager process)
CanAttach process manager (Existing coid) = ⊤
CanAttach process manager Side = HasPlace (servers_at manager process)

-- a server connection is in use at a manager
abbrev pub is_served : Manager → Process → Bool
is_served manager process = is_some (in_use (servers_at manager process))

-- one may come into use at that manager, and at any other it is as before
pub record Uses (manager : Manager) (before after : Process) : Type 0 where
  pub here : is_served manager before ≡ true → is_served manager after ≡ true
  pub others : (other : Manager) → manager_number other ≢ manager_number manager → is_served other after ≡ is_served other before

-- so it is with what a message goes over
abbrev pub UsesBy : Over → Manager → Process → Process → Type 0
UsesBy (Existing coid) manager before after = after.servers ≡ before.servers
UsesBy _ manager before after = Uses manager before after

-- the server connection is one at the manager
abbrev pub is_at : Manager → Option ServerName → Bool
is_at manager None = false
is_at manager (Some server) = manager_number server.manager == manager_number manager

-- a process has lost that server connection or none, and at any other manager one is in use as before
pub record Loses (lost : Option ServerName) (before after : Process) : Type 0 where
  pub lost_is : lost_servers before after ≡ option_to_list lost
  pub was_used : IfSome lost (λ server. is_served server.manager before ≡ true)
  pub uses : (manager : Manager) → is_served manager after ≡ (is_served manager before && not (is_at manager lost))

-- the server connection in use at a manager, and those at all managers
abbrev pub used_at : Process → Manager → Option ServerName
used_at process manager = option_map (named manager) (in_use (servers_at manager process))

abbrev pub used_servers : Process → List (Option ServerName)
used_servers process = map (used_at process) managers

-- a process has lost each server connection that it used, and none is in use any more
pub record LosesAll (before after : Process) : Type 0 where
  pub lost_are : flat_map option_to_list (used_servers before) ≡ lost_servers before after
  pub unserved : (manager : Manager) → is_served manager after ≡ false
