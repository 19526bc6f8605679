-- Server connections: a process, as a manager knows it that something of the process is attached to (System Architecture: server
-- connection identifiers). One whose disconnect pulse was made is not used again, and stands beside a new one until the pulse is performed
-- (that a process has one in use at a manager at most is this profile).
use Rattle.std.specs.Prelude.{ℕ, ◌+◌, ◌==◌, List, [], ◌∷◌, Bool, true, false, ◌||◌, not, Option, Some, None, if◌then◌else◌, is_some, map, option_map, position, slice_set}
use Rattle.std.specs.List.{list_any}
use Rattle.qx_types.specs.Managers.{manager_number}
use Rattle.qx_types.specs.declared.names.Manager.{Manager}
use Rattle.qx_machine.specs.declared.rows.Connection.{Connection}
use Rattle.qx_machine.specs.declared.rows.ServerConnection.{ServerConnection}
use Rattle.qx_isolation.specs.declared.rows.ServerName.{ServerName}
use Rattle.qx_isolation.specs.Rows.{lowest_from, put_row, row_at}

-- those of a process at one manager, from 1
abbrev pub Servers : Type 0
Servers = List (Option ServerConnection)

abbrev pub no_servers : Servers
no_servers = None ∷ []

abbrev pub new_server : ServerConnection
new_server = record { is_leaving = false }

-- ---- what is attached

-- the manager has the number
abbrev pub is_numbered : ℕ → Manager → Bool
is_numbered number manager = manager_number manager == number

-- a connection is there, at the manager of the number
abbrev pub connects : ℕ → Option Connection → Bool
connects number None = false
connects number (Some connection) = is_numbered number connection.manager

-- a thread has a side connection at the manager
abbrev pub sides_with : ℕ → Option Manager → Bool
sides_with number None = false
sides_with number (Some manager) = is_numbered number manager

-- something of the process is attached to the manager
abbrev pub is_attached : ℕ → List (Option Connection) → List (Option Manager) → Bool
is_attached number connections sides = list_any (connects number) connections || list_any (sides_with number) sides

-- ---- the one in use

abbrev pub is_in_use : Option ServerConnection → Bool
is_in_use None = false
is_in_use (Some server) = not server.is_leaving

-- the number of the one in use, if one is
abbrev pub in_use : Servers → Option ℕ
in_use servers = position is_in_use servers

abbrev pub leaving : ServerConnection → ServerConnection
leaving server = record server { is_leaving = true }

-- one is in use exactly while something is attached: it is made under the lowest free number from 1, and left with the last connection
abbrev pub servers_while : Bool → Servers → Servers
servers_while true servers = if is_some (in_use servers) then servers else put_row servers (lowest_from 1 servers) new_server
servers_while false servers = map (option_map leaving) servers

-- one that was left
abbrev pub is_left : Option ServerConnection → Bool
is_left None = false
is_left (Some server) = server.is_leaving

-- one that was left goes
abbrev pub without_left : ℕ → Servers → Servers
without_left number servers = if is_left (row_at servers number) then slice_set servers number None else servers

-- those at the managers from a number on, by the numbers to which something is attached
abbrev pub servers_from : (ℕ → Bool) → ℕ → List Servers → List Servers
servers_from attached number [] = []
servers_from attached number (servers ∷ rest) = servers_while (attached number) servers ∷ servers_from attached (number + 1) rest

-- ---- the one that is lost

-- at a manager where that one was in use before and none is after
abbrev pub lost_by : Manager → Option ℕ → Option ℕ → List ServerName
lost_by manager (Some number) None = record { manager = manager; number = number } ∷ []
lost_by manager _ _ = []
