-- How a user's inodes, names, files, pipes and devices stand together.
use Rattle.std.specs.Prelude.{All, ◌≡◌, ◌≢◌, ◌⊎◌, ℕ, ◌+◌, ◌≤◌, ◌<◌, ◌==◌, ◌&&◌, Bool, false, true, List, Option, Some, None, filter, is_some, length, map, option_map, slice_get, sum_by, if◌then◌else◌}
use Rattle.std.specs.FinMap.{get}
use Rattle.std.specs.List.{count_by}
use Rattle.qx_paths.specs.Prefixes.{MountPoint}
use Rattle.qx_devices.specs.declared.Device.{Device}
use Rattle.qx_types.specs.Configuration.{Configuration}
use Rattle.qx_types.specs.UserLimits.{AreLimits, UserLimits}
use Rattle.qx_types.specs.declared.limits.TheConstants.Limits.{FIRST_CONNECTION, INODES, LAST_CONNECTION}
use Rattle.qx_types.specs.declared.names.Manager.{Manager}
use Rattle.qx_types.specs.declared.step.Step.{Step}
use Rattle.qx_wire.specs.Rests.{is_component}
use Rattle.qx_machine.specs.declared.rows.Attribute.{Attribute}
use Rattle.qx_machine.specs.declared.rows.Client.{Client}
use Rattle.qx_machine.specs.declared.rows.Conditions.{Conditions}
use Rattle.qx_machine.specs.declared.rows.Connection.{Connection}
use Rattle.qx_machine.specs.declared.rows.Event.{Event}
use Rattle.qx_machine.specs.declared.rows.Kind.{Kind}
use Rattle.qx_machine.specs.declared.rows.Kind.TheVariants as kind
use Rattle.qx_machine.specs.declared.rows.Ocb.{Ocb}
use Rattle.qx_isolation.specs.declared.rows.OwnItem.{OwnItem}
use Rattle.qx_isolation.specs.declared.rows.OwnItem.TheVariants.{Message, Unblock, Disconnect}
use Rattle.qx_machine.specs.declared.rows.Pulse.{Pulse}
use Rattle.qx_machine.specs.declared.rows.WaitingCall.{WaitingCall}
use Rattle.qx_machine.specs.Calls.{server_count}
use Rattle.qx_machine.specs.Defaults.{is_own}
use Rattle.qx_machine.specs.Events.{is_due, pulse_of}
use Rattle.qx_machine.specs.Files.{total_size}
use Rattle.qx_machine.specs.Inodes.{is_unused}
use Rattle.qx_machine.specs.Listings.{HasAtMostOnePath}
use Rattle.qx_machine.specs.Managers.{own_kind}
use Rattle.qx_machine.specs.Names.{Key, Names, root_key, under}
use Rattle.qx_machine.specs.Parts.{Part, thread_at}
use Rattle.qx_machine.specs.Pipes.{Pipe}
use Rattle.qx_machine.specs.Processes.{Process, has_ended, servers_at}
use Rattle.qx_machine.specs.Resources.{Resources}
use Rattle.qx_isolation.specs.Rows.{row_at}
use Rattle.qx_machine.specs.Runs.{run}
use Rattle.qx_machine.specs.Servers.{in_use}
use Rattle.qx_machine.specs.Waiting.{is_of_process}
use Rattle.qx_clients.specs.Calls.{has_ended_in}
use Rattle.qx_invariants.specs.Changes.{IsDirectoryAt, IsPipeSettled, IsShort}
use Rattle.qx_invariants.specs.Waits.{count_waiting, count_waiting_in, is_astray, is_foreign, is_of, though_gone, unless_gone, waits}

-- this holds of each user's part in each world that a run reaches
abbrev pub HoldsOfParts : (Part → Type 0) → Type 0
HoldsOfParts Holds = (config : Configuration) (steps : List Step) (user : ℕ) (part : Part) → row_at (run config steps).world.parts user ≡ Some part → Holds part

-- this holds of each user's resources there
abbrev pub HoldsInRuns : (Resources → Type 0) → Type 0
HoldsInRuns Holds = HoldsOfParts (λ part. Holds part.resources)

-- ---- numbers

pub record HasRoom (r : Resources) : Type 0 where
  -- inodes are numbered from 1 to the user's limit, and so are open control blocks
  pub inodes : (inode : ℕ) (attribute : Attribute) → row_at r.inodes.attributes inode ≡ Some attribute → (1 ≤ inode) × (inode ≤ r.limits.inodes)
  pub blocks : (number : ℕ) (block : Ocb) → row_at r.inodes.blocks number ≡ Some block → (1 ≤ number) × (number ≤ r.limits.blocks)
  -- the tables are of these limits
  pub most_inodes : r.inodes.most_inodes ≡ r.limits.inodes
  pub most_blocks : r.inodes.most_blocks ≡ r.limits.blocks
  -- each limit is in its range
  pub limits : AreLimits r.limits
  -- and there are no more mounts than that
  pub mounts : length r.mounts ≤ r.limits.mounts
  -- the tables begin with the place 0
  pub some_inodes : 0 < length r.inodes.attributes
  pub some_blocks : 0 < length r.inodes.blocks
  -- there is a place for the bytes of each inode, and for its pipe or device
  pub files : length r.files ≡ INODES + 1
  pub pipes : length r.pipes ≡ INODES + 1

-- ---- uses

-- one connection has an open control block, or more have it, but no more than the greatest number of a connection
pub record IsUsed (block : Ocb) : Type 0 where
  pub some : 1 ≤ block.uses
  pub few : block.uses ≤ LAST_CONNECTION

-- so it is of each that is there
pub record HasUses (r : Resources) : Type 0 where
  pub used : (number : ℕ) (block : Ocb) → row_at r.inodes.blocks number ≡ Some block → IsUsed block

-- ---- making

-- each open control block that is there is among those that were made, once, and no other
pub record HasMade (r : Resources) : Type 0 where
  pub once : (number : ℕ) → count_by (λ other. other == number) r.inodes.made ≡ (if is_some (row_at r.inodes.blocks number) then 1 else 0)

-- ---- owners

-- all is the user's own
pub record IsOwnedBy (owner : ℕ) (r : Resources) : Type 0 where
  pub user : r.user ≡ owner
  pub inodes : (inode : ℕ) (attribute : Attribute) → row_at r.inodes.attributes inode ≡ Some attribute → attribute.owner ≡ owner

-- ---- contents

-- how many bytes a file of this kind and size has; nothing else has any
abbrev pub file_of : Kind → ℕ → Option ℕ
file_of kind.File size = Some size
file_of _ size = None

-- by which device's rules calls wait in what is of this kind and size, or by a pipe's, and how many bytes stand there; nowhere else does any call wait
abbrev pub calls_of : Kind → ℕ → Option (Option Device × ℕ)
calls_of kind.Pipe size = Some (None, size)
calls_of (kind.Device device) size = Some (Some device, size)
calls_of _ size = None

-- what an inode's kind and size tell of what is in it; nothing, where no inode is
abbrev pub in_inode : {A : Type 0} → (Kind → ℕ → Option A) → Option Attribute → Option A
in_inode content None = None
in_inode content (Some attribute) = content attribute.kind attribute.size

pub record HasContents (r : Resources) : Type 0 where
  -- a file has its bytes, as many as its size says; what is no file, and where no inode is, has none
  pub files : (inode : ℕ) → option_map (λ bytes. length bytes) (row_at r.files inode) ≡ in_inode file_of (row_at r.inodes.attributes inode)
  -- so has a pipe, and so has a device, each by its own rules
  pub pipes : (inode : ℕ) → option_map (λ (pipe : Pipe WaitingCall). (pipe.device, length pipe.bytes)) (row_at r.pipes inode) ≡ in_inode calls_of (row_at r.inodes.attributes inode)

pub record HasLimits (r : Resources) : Type 0 where
  -- no file has more bytes than a file of the user may have
  pub file : (inode : ℕ) (bytes : List ℕ) → row_at r.files inode ≡ Some bytes → length bytes ≤ r.limits.file
  -- nor have all files together
  pub files : total_size r.files ≤ r.limits.bytes
  -- nor do more stand in a pipe or a device than may
  pub pipe : (inode : ℕ) (pipe : Pipe WaitingCall) → row_at r.pipes inode ≡ Some pipe → IsShort pipe

-- ---- pipes and devices

-- nobody waits in any of them who could be served
pub record HasSettledPipes (r : Resources) : Type 0 where
  pub settled : (inode : ℕ) (pipe : Pipe WaitingCall) → row_at r.pipes inode ≡ Some pipe → IsPipeSettled pipe

-- each call that waits in a pipe is over an open control block of that pipe
pub record HasOpenWaiters (r : Resources) : Type 0 where
  pub none_astray : (inode : ℕ) → count_waiting_in (is_astray r.inodes.blocks inode) (row_at r.pipes inode) ≡ 0

-- each call that waits in a pipe is over an open control block of a client of its own process
pub record HasOwnWaiters (r : Resources) : Type 0 where
  pub none_foreign : count_waiting (is_foreign r.inodes.blocks) r.pipes ≡ 0

-- ---- names

-- an inode has one link, and a path leads to it
pub record IsNamed (names : Names) (inode : ℕ) (attribute : Attribute) : Type 0 where
  pub links : attribute.links ≡ 1
  pub key : Key
  pub leads : get names key ≡ Some inode

-- an inode has no link, and no path leads to it
pub record IsUnnamed (names : Names) (inode : ℕ) (attribute : Attribute) : Type 0 where
  pub links : attribute.links ≡ 0
  pub none : (key : Key) → get names key ≢ Some inode

pub record HasNames (r : Resources) : Type 0 where
  -- each path leads to an inode that is there
  pub leads : (key : Key) (inode : ℕ) → get r.names key ≡ Some inode → is_some (row_at r.inodes.attributes inode) ≡ true
  -- no two paths lead to one inode
  pub single : (inode : ℕ) → HasAtMostOnePath r.names inode
  -- the path of a mount's root leads to that root
  pub roots : (root inode : ℕ) → get r.names (root_key root) ≡ Some inode → inode ≡ root
  -- an inode's links tell whether a path leads to it
  pub links : (inode : ℕ) (attribute : Attribute) → row_at r.inodes.attributes inode ≡ Some attribute → IsNamed r.names inode attribute ⊎ IsUnnamed r.names inode attribute
  -- no inode is there that has neither a link nor an open control block
  pub used : (inode : ℕ) → is_unused r.inodes inode (row_at r.inodes.attributes inode) ≡ false
  -- what an open control block has open is there
  pub opened : (number : ℕ) (block : Ocb) → row_at r.inodes.blocks number ≡ Some block → is_some (row_at r.inodes.attributes block.inode) ≡ true

-- a name is a component, in a directory to which a path leads
pub record IsEntry (r : Resources) (above : Key) (name : List ℕ) : Type 0 where
  pub component : is_component name ≡ true
  pub directory : IsDirectoryAt r above

-- what is behind its mount's root on a path is nothing but such names
pub record HasTree (r : Resources) : Type 0 where
  pub entries : (directory : Key) (name : List ℕ) (inode : ℕ) → get r.names (under directory name) ≡ Some inode → IsEntry r directory name

-- what a manager has is a directory or of its own kind
pub record HasKinds (r : Resources) : Type 0 where
  -- so is what a path in one of its mounts leads to
  pub named : (number : ℕ) (mount : MountPoint) → slice_get r.mounts number ≡ Some mount → (path : List (List ℕ)) (inode : ℕ) (attribute : Attribute) → get r.names (mount.root, path) ≡ Some inode → row_at r.inodes.attributes inode ≡ Some attribute → is_own (own_kind mount.manager) attribute.kind ≡ true
  -- and what a client of it has open
  pub opened : (number : ℕ) (block : Ocb) (attribute : Attribute) → row_at r.inodes.blocks number ≡ Some block → row_at r.inodes.attributes block.inode ≡ Some attribute → is_own (own_kind block.client.server.manager) attribute.kind ≡ true

-- the path of each mount's root leads to a directory
pub record HasMounts (r : Resources) : Type 0 where
  pub rooted : All (λ (mount : MountPoint). IsDirectoryAt r (root_key mount.root)) r.mounts

-- ---- clients

-- a process is there and has the client's server connection
pub record IsServer (processes : List (Option Process)) (client : Client) : Type 0 where
  pub process : Process
  pub there : row_at processes client.process ≡ Some process
  pub server : is_some (row_at (servers_at client.server.manager process) client.server.number) ≡ true

-- so it is of the client of each open control block that is there
pub record HasClients (part : Part) : Type 0 where
  pub clients : (number : ℕ) (block : Ocb) → row_at part.resources.inodes.blocks number ≡ Some block → IsServer part.processes block.client

-- ---- connections

abbrev pub is_block : ℕ → Option ℕ → Bool
is_block which None = false
is_block which (Some block) = block == which

-- a connection is there and has that open control block
abbrev pub has_open : ℕ → Option Connection → Bool
has_open which None = false
has_open which (Some connection) = is_block which connection.block

-- an open control block is there, and its client is the process of that number by the server connection that is in use at the manager
pub record IsOpenFor (blocks : List (Option Ocb)) (number : ℕ) (process : Process) (manager : Manager) (which : ℕ) : Type 0 where
  pub block : Ocb
  pub there : row_at blocks which ≡ Some block
  pub process_is : block.client.process ≡ number
  pub manager_is : block.client.server.manager ≡ manager
  pub used : in_use (servers_at manager process) ≡ Some block.client.server.number

pub record HasConnections (part : Part) : Type 0 where
  -- so it is of what a connection has
  pub opened : (number : ℕ) (process : Process) → row_at part.processes number ≡ Some process → (coid : ℕ) (connection : Connection) (which : ℕ) → row_at process.connections coid ≡ Some connection → connection.block ≡ Some which → IsOpenFor part.resources.inodes.blocks number process connection.manager which
  -- as many connections have it as it has uses, until its process ends
  pub uses : (which : ℕ) (block : Ocb) → row_at part.resources.inodes.blocks which ≡ Some block → (process : Process) → row_at part.processes block.client.process ≡ Some process → has_ended process ≡ false → block.uses ≡ count_by (has_open which) process.connections

-- ---- how many connections

-- the number of each is one of so many from 3 on
abbrev pub AreNumbered : ℕ → List (Option Connection) → Type 0
AreNumbered most connections = (coid : ℕ) (connection : Connection) → row_at connections coid ≡ Some connection → (FIRST_CONNECTION ≤ coid) × (coid < FIRST_CONNECTION + most)

pub record HasFewConnections (part : Part) : Type 0 where
  -- so it is of each process, by the user's limit
  pub numbered : (number : ℕ) (process : Process) → row_at part.processes number ≡ Some process → AreNumbered part.resources.limits.connections process.connections
  -- and none has more than that
  pub few : (number : ℕ) (process : Process) → row_at part.processes number ≡ Some process → count_by is_some process.connections ≤ part.resources.limits.connections
  -- and until its process ends, an open control block has no more uses than that has connections
  pub uses : (which : ℕ) (block : Ocb) → row_at part.resources.inodes.blocks which ≡ Some block → (process : Process) → row_at part.processes block.client.process ≡ Some process → has_ended process ≡ false → block.uses ≤ count_by is_some process.connections

-- ---- how many processes, and server connections

-- processes are numbered from 1 to the user's limit
pub record HasFewProcesses (part : Part) : Type 0 where
  pub numbered : (number : ℕ) (process : Process) → row_at part.processes number ≡ Some process → (1 ≤ number) × (number ≤ part.resources.limits.processes)

-- all processes of a user have no more server connections at a manager than the user's limit
pub record HasFewServers (part : Part) : Type 0 where
  pub few : (manager : Manager) → sum_by (server_count manager) part.processes ≤ part.resources.limits.servers

-- ---- events

-- the pulses of a process' armed events that are due, in order of arming
abbrev pub due_pulses : (ℕ → Conditions) → (ℕ → Conditions) → ℕ → List Event → List Pulse
due_pulses before after process armed = map (λ event. pulse_of event (after event.block)) (filter (λ event. is_due before after event && (event.process == process)) armed)

-- ---- threads

pub record WaitsOnce (part : Part) : Type 0 where
  -- of each thread that waits one call waits in the user's pipes, and of any other none but one whose process has ended
  pub once : (process thread : ℕ) → count_waiting (unless_gone (is_of process thread)) part.resources.pipes ≡ waits (thread_at part process thread)
  -- of no thread more than one waits, whether its process has ended or not
  pub few : (process thread : ℕ) → count_waiting (is_of process thread) part.resources.pipes ≤ 1
  -- that the process of a call has ended is said of such a process alone, which is there still
  pub gone : (process : ℕ) → has_ended_in (row_at part.processes process) ≡ false → count_waiting (though_gone (is_of_process process)) part.resources.pipes ≡ 0

-- ---- priorities

-- the greatest priority that an item may have of a user with these limits
abbrev pub greatest_prio : UserLimits → OwnItem → ℕ
greatest_prio limits (Message process thread) = limits.ceiling
greatest_prio limits (Unblock process thread call) = limits.ceiling
greatest_prio limits (Disconnect process server) = limits.disconnect
