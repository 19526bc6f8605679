-- How a call of a thread is judged, and what it sends.
use Rattle.std.specs.Prelude.{ℕ, ◌+◌, ⊤, List, [], ◌&&◌, ◌||◌, ◌==◌, Bool, true, false, Option, Some, None, Result, Ok, length, nat_le, nat_lt, count_by, is_some, sum_by}
use Rattle.qx_types.specs.Configuration.{Configuration, limits_of, name_bytes}
use Rattle.qx_base.specs.declared.errno.Errno.{Errno}
use Rattle.qx_base.specs.declared.errno.Errno.TheVariants.{EAGAIN, EBADF, EINVAL, EMFILE, EXDEV}
use Rattle.qx_types.specs.declared.fields.PulseValue.TheVariants.{Bits32, Bits64}
use Rattle.qx_types.specs.declared.limits.TheConstants.Limits.{CALLS, FIRST_CONNECTION, LAST_CONNECTION, MESSAGE}
use Rattle.qx_types.specs.declared.names.Manager.{Manager}
use Rattle.qx_types.specs.declared.names.Prio.{Prio}
use Rattle.qx_types.specs.declared.outcome.Outcome.{Outcome}
use Rattle.qx_types.specs.declared.outcome.Outcome.TheVariants.{Refused, WrongState}
use Rattle.qx_types.specs.declared.request.Request.{Request}
use Rattle.qx_types.specs.declared.request.Request.TheVariants as request
use Rattle.qx_wire.specs.declared.message.Message.TheVariants as msg
use Rattle.qx_wire.specs.Table as table
use Rattle.qx_paths.specs.Mounts.{resolve}
use Rattle.qx_paths.specs.Paths.{read_path}
use Rattle.qx_paths.specs.Prefixes.{MountPoint}
use Rattle.qx_paths.specs.declared.resolved.Resolved.{Resolved}
use Rattle.qx_machine.specs.declared.rows.Addressed.{Addressed}
use Rattle.qx_machine.specs.declared.rows.Connection.{Connection}
use Rattle.qx_machine.specs.declared.rows.Content.{Content}
use Rattle.qx_machine.specs.declared.rows.Content.TheVariants.{Spelled, Raw}
use Rattle.qx_machine.specs.declared.rows.Over.{Over}
use Rattle.qx_machine.specs.declared.rows.Over.TheVariants.{New, Existing, Side}
use Rattle.qx_machine.specs.declared.rows.State.{State}
use Rattle.qx_machine.specs.declared.rows.State.TheVariants.{Ready}
use Rattle.qx_machine.specs.declared.rows.ThreadRow.{ThreadRow}
use Rattle.qx_isolation.specs.Judgements.{◌>>=◌, found, need, or_refused}
use Rattle.qx_machine.specs.Processes.{Process, servers_at}
use Rattle.qx_isolation.specs.Rows.{row_at, lowest_from}
use Rattle.qx_machine.specs.Servers.{in_use}

-- what a request sends; of a path, what is behind its mount, and so of a second one
abbrev pub content_of : Request → List (List ℕ) → List (List ℕ) → Content
content_of (request.OpenPath flags mode path) rest to = Spelled (msg.Open flags mode rest)
content_of (request.StatPath path) rest to = Spelled (msg.Stat rest)
content_of (request.Unlink path) rest to = Spelled (msg.Unlink rest)
content_of (request.Mkdir mode path) rest to = Spelled (msg.Mknod mode rest)
content_of (request.Rename old new) rest to = Spelled (msg.Rename (rest, to))
content_of (request.Read coid count) rest to = Spelled (msg.Read count)
content_of (request.Write coid bytes) rest to = Spelled (msg.Write bytes)
content_of (request.Close coid) rest to = Spelled msg.Close
content_of (request.Dup coid) rest to = Spelled (msg.Dup coid)
content_of (request.Seek coid whence by) rest to = Spelled (msg.Lseek whence by)
content_of (request.Fstat coid) rest to = Spelled msg.Fstat
content_of (request.List coid after) rest to = Spelled (msg.List after)
content_of (request.Chmod coid mode) rest to = Spelled (msg.Chmod mode)
content_of (request.Notify coid action conds code value) rest to = Spelled (msg.Notify action conds code (Bits32 value))
content_of (request.Notify64 coid action conds code value) rest to = Spelled (msg.Notify action conds code (Bits64 value))
content_of (request.Raw coid bytes) rest to = Raw bytes

-- what is sent can be spelled, and is no longer than a message may be
abbrev pub can_send : Content → Bool
can_send (Spelled message) = table.in_ranges message
can_send (Raw bytes) = nat_le (length bytes) MESSAGE

-- the bytes that are sent
abbrev pub bytes_of : Content → List ℕ
bytes_of (Spelled message) = table.spelling message
bytes_of (Raw bytes) = bytes

-- each field is in its range; a path is none of them, nor is the connection of a dup
abbrev pub request_in_ranges : Request → Bool
request_in_ranges (request.Dup coid) = true
request_in_ranges asked = can_send (content_of asked [] [])

-- what a request names: a path, over a new connection or a side connection, two paths of one mount, or a connection that is there,
-- which is used or has another one made beside it
pub data Address : Type 0 where
  Opens : (path : List ℕ) → Address
  Connects : (path : List ℕ) → Address
  ConnectsBoth : (path to : List ℕ) → Address
  Uses : (coid : ℕ) → Address
  Duplicates : (coid : ℕ) → Address

abbrev pub address : Request → Address
address (request.OpenPath flags mode path) = Opens path
address (request.StatPath path) = Connects path
address (request.Unlink path) = Connects path
address (request.Mkdir mode path) = Connects path
address (request.Rename old new) = ConnectsBoth old new
address (request.Read coid count) = Uses coid.0
address (request.Write coid bytes) = Uses coid.0
address (request.Close coid) = Uses coid.0
address (request.Dup coid) = Duplicates coid.0
address (request.Seek coid whence by) = Uses coid.0
address (request.Fstat coid) = Uses coid.0
address (request.List coid after) = Uses coid.0
address (request.Chmod coid mode) = Uses coid.0
address (request.Notify coid action conds code value) = Uses coid.0
address (request.Notify64 coid action conds code value) = Uses coid.0
address (request.Raw coid bytes) = Uses coid.0

-- how many server connections a process has at a manager, those whose disconnect pulse was made among them
abbrev pub server_count : Manager → Option Process → ℕ
server_count manager None = 0
server_count manager (Some process) = count_by is_some (servers_at manager process)

-- the process has a server connection in use at the manager, or the user may have one more there
abbrev pub can_serve : ℕ → List (Option Process) → Process → Manager → Bool
can_serve most processes process manager = is_some (in_use (servers_at manager process)) || nat_lt (sum_by (server_count manager) processes) most

-- the lowest free connection (C Library Reference: EMFILE)
abbrev pub free_connection : ℕ → Process → Result ℕ Outcome
free_connection most process = do
  free ← need (nat_lt (lowest_from FIRST_CONNECTION process.connections) (FIRST_CONNECTION + most)) (Refused EMFILE)
  Ok (lowest_from FIRST_CONNECTION process.connections)

-- a connection that is there; one of another number never is (C Library Reference: EBADF)
abbrev pub connection_at : ℕ → Process → Result Connection Outcome
connection_at coid process = do
  possible ← need (nat_le FIRST_CONNECTION coid && nat_le coid LAST_CONNECTION) (Refused EBADF)
  found (row_at process.connections coid) (Refused EBADF)

-- where a path leads a user (C Library Reference: open)
abbrev pub place_of : Configuration → ℕ → List MountPoint → List ℕ → Result Resolved Errno
place_of config user mounts path = do
  names ← read_path path
  resolve config.users (name_bytes config user) mounts names

-- a message to where a path leads, over a server connection of the process there (EAGAIN is this profile); with what another path has
-- behind the same mount, or nothing
abbrev pub to_place : ℕ → List (Option Process) → Process → Resolved → List (List ℕ) → Over → Prio → Result Addressed Outcome
to_place most processes process place to over prio = do
  served ← need (can_serve most processes process place.manager) (Refused EAGAIN)
  Ok (record { target = record { manager = place.manager; root = Some place.root; over = over; prio = prio }; rest = place.rest; to = to })

-- a message to what a connection has open
abbrev pub to_connection : Connection → Over → Prio → Addressed
to_connection connection over prio = record { target = record { manager = connection.manager; root = None; over = over; prio = prio }; rest = []; to = [] }

-- to which manager a message goes and over what (C Library Reference: open, dup; rename, EXDEV)
abbrev pub target_at : Configuration → ℕ → List MountPoint → List (Option Process) → Process → Prio → Address → Result Addressed Outcome
target_at config user mounts processes process prio (Opens path) = do
  place ← or_refused (place_of config user mounts path)
  coid ← free_connection (limits_of config user).connections process
  to_place (limits_of config user).servers processes process place [] (New (record { 0 = coid })) prio
target_at config user mounts processes process prio (Connects path) = do
  place ← or_refused (place_of config user mounts path)
  to_place (limits_of config user).servers processes process place [] Side prio
target_at config user mounts processes process prio (ConnectsBoth path to) = do
  place ← or_refused (place_of config user mounts path)
  other ← or_refused (place_of config user mounts to)
  same ← need (place.root == other.root) (Refused EXDEV)
  to_place (limits_of config user).servers processes process place other.rest Side prio
target_at config user mounts processes process prio (Uses coid) = do
  connection ← connection_at coid process
  Ok (to_connection connection (Existing (record { 0 = coid })) prio)
target_at config user mounts processes process prio (Duplicates coid) = do
  connection ← connection_at coid process
  other ← free_connection (limits_of config user).connections process
  Ok (to_connection connection (New (record { 0 = other })) prio)

abbrev pub is_ready : State → Bool
is_ready Ready = true
is_ready _ = false

-- a thread may make a call with these fields; only a ready thread calls, and 2^64 - 1 times at most
abbrev pub may_call : ThreadRow → Request → Result ⊤ Outcome
may_call row asked = do
  ready ← need (is_ready row.state) WrongState
  valid ← need (request_in_ranges asked) (Refused EINVAL)
  countable ← need (nat_lt row.calls CALLS) (Refused EAGAIN)
  Ok tt
