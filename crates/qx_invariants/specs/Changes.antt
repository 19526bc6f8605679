-- All that can happen to a user's resources: nothing but these changes, one after another.
use Rattle.std.specs.Prelude.{◌+◌, ◌-◌, ◌≡◌, ◌≤◌, ◌<◌, ◌⊎◌, ◌++◌, length, map, option_map, slice_set, ℕ, Bool, true, List, [], ◌∷◌, Option, Some, None, Ok, is_some, false}
use Rattle.std.specs.List.{count_by}
use Rattle.std.specs.FinMap.{get, insert, remove}
use Rattle.qx_base.specs.declared.device.TheConstants.{STATE}
use Rattle.qx_devices.specs.declared.Device.{Device}
use Rattle.qx_types.specs.declared.limits.TheConstants.Limits.{LAST_CONNECTION, PIPE}
use Rattle.qx_machine.specs.Files.{total_size}
use Rattle.qx_wire.specs.Rests.{is_component}
use Rattle.qx_paths.specs.Prefixes.{MountPoint}
use Rattle.qx_machine.specs.declared.rows.Attribute.{Attribute}
use Rattle.qx_machine.specs.declared.rows.Kind.{Kind}
use Rattle.qx_machine.specs.declared.rows.Ocb.{Ocb}
use Rattle.qx_machine.specs.declared.rows.WaitingCall.{WaitingCall}
use Rattle.qx_machine.specs.Clients.{with_abandoned}
use Rattle.qx_machine.specs.Defaults.{is_own, pipe_in, without_block, without_unused}
use Rattle.qx_machine.specs.Events.{Events, event_count}
use Rattle.qx_machine.specs.Inodes.{block_number, inode_number, moved_to, new_attribute}
use Rattle.qx_machine.specs.Mounting.{with_mount}
use Rattle.qx_machine.specs.Names.{Key, is_below, is_directory, names_in, root_key, under}
use Rattle.qx_machine.specs.Names as names
use Rattle.qx_machine.specs.PipeManager.{deed_of_pipe}
use Rattle.qx_machine.specs.Pipes.{PipeAfter, Pipe, nobody_answered, removed, settle}
use Rattle.qx_machine.specs.RamManager.{with_bytes}
use Rattle.qx_machine.specs.Resources.{Resources, with_empty}
use Rattle.qx_isolation.specs.Rows.{put_row, row_at, with_row}
use Rattle.qx_machine.specs.Waiting.{is_gone, is_over, offered, wanted}
use Rattle.qx_invariants.specs.Waits.{count_answers_to, is_astray, count_waiting_in, count_waiting_of}

-- what happens to an open control block that stays
pub data Move : Type 0 where
  -- it stands at another offset
  ToOffset : (offset : ℕ) → Move
  -- one more connection has it
  OneMore : Move
  -- one connection less has it
  OneLess : Move

-- with what an open control block goes
pub data Parting : Type 0 where
  -- with the last connection that has it
  WithLast : Parting
  -- with its client
  WithClient : Parting

-- one thing that happens
pub data ResourceChange : Type 0 where
  -- a manager's mount comes, with a root of its own
  Mounts : (mount : MountPoint) → ResourceChange
  -- an inode comes with nothing in it, under a name in a directory
  Comes : (inode : ℕ) (directory : Key) (name : List ℕ) (kind : Kind) (mode moment : ℕ) → ResourceChange
  -- an inode has another mode and other times
  Touches : (inode mode mtime ctime : ℕ) → ResourceChange
  -- an open control block comes, of what a path leads to
  Opens : (number : ℕ) (block : Ocb) (at : Key) → ResourceChange
  -- an open control block stands at another offset, or more or fewer connections have it
  Moves : (number : ℕ) (move : Move) → ResourceChange
  -- a file has other bytes
  Writes : (inode moment : ℕ) (bytes : List ℕ) → ResourceChange
  -- something is done to a pipe, or to a device, to which calls came
  Fills : (inode moment : ℕ) (after : PipeAfter WaitingCall) (came : List WaitingCall) → ResourceChange
  -- a name goes, and what it named, unless that is open
  Unlinks : (own : Kind) (directory : Key) (name : List ℕ) (inode mtime ctime : ℕ) → ResourceChange
  -- what begins with a path in a directory begins with another
  Renames : (above : Key) (name : List ℕ) (directory : Key) (next : List ℕ) → ResourceChange
  -- an open control block goes, and what it had open, unless that is named or open still
  Closes : (own : Kind) (number : ℕ) (block : Ocb) (parting : Parting) → ResourceChange
  -- events are armed or go, or pulses come or go
  Notifies : (events : Events) → ResourceChange
  -- a process ends, and its calls that wait are those of a process that has ended
  Abandons : (process : ℕ) → ResourceChange

-- ---- what there is afterwards

abbrev pub touched : ℕ → ℕ → ℕ → Attribute → Attribute
touched mode mtime ctime attribute = record attribute { mode = mode; mtime = mtime; ctime = ctime }

abbrev pub without_link : ℕ → ℕ → Attribute → Attribute
without_link mtime ctime attribute = record attribute { links = 0; mtime = mtime; ctime = ctime }

-- an inode's attribute changes, if it is there
abbrev pub with_changed : ℕ → (Attribute → Attribute) → Resources → Resources
with_changed inode change r = record r { inodes = record r.inodes { attributes = with_row r.inodes.attributes inode change } }

abbrev pub moved : Move → Ocb → Ocb
moved (ToOffset offset) block = moved_to offset block
moved OneMore block = record block { uses = block.uses + 1 }
moved OneLess block = record block { uses = block.uses - 1 }

-- an open control block changes, if it is there
abbrev pub with_moved : ℕ → (Ocb → Ocb) → Resources → Resources
with_moved number change r = record r { inodes = record r.inodes { blocks = with_row r.inodes.blocks number change } }

-- an open control block is there, made last
abbrev pub with_opened : ℕ → Ocb → Resources → Resources
with_opened number block r = record r { inodes = record r.inodes { blocks = put_row r.inodes.blocks number block; made = r.inodes.made ++ number ∷ [] } }

-- an inode is there under a name, and there is nothing in it yet
abbrev pub with_named : ℕ → Key → Attribute → Resources → Resources
with_named inode key attribute r = record r {
  inodes = record r.inodes { attributes = put_row r.inodes.attributes inode attribute };
  names = insert r.names key inode;
}

-- an inode has no name any more, and nothing is under that name
abbrev pub with_unlinked : ℕ → Key → ℕ → ℕ → Resources → Resources
with_unlinked inode key mtime ctime r = record (with_changed inode (without_link mtime ctime) r) { names = remove r.names key }

abbrev pub with_change : ResourceChange → Resources → Resources
with_change (Mounts mount) r = with_mount mount r
with_change (Comes inode directory name kind mode moment) r = with_empty kind inode (with_named inode (under directory name) (new_attribute kind mode r.user moment) r)
with_change (Touches inode mode mtime ctime) r = with_changed inode (touched mode mtime ctime) r
with_change (Opens number block at) r = with_opened number block r
with_change (Moves number move) r = with_moved number (moved move) r
with_change (Writes inode moment bytes) r = with_bytes inode moment bytes r
with_change (Fills inode moment after came) r = (deed_of_pipe r inode moment after).state
with_change (Unlinks own directory name inode mtime ctime) r = without_unused own inode (with_unlinked inode (under directory name) mtime ctime r)
with_change (Renames above name directory next) r = record r { names = names.moved r.names (under above name) (under directory next) }
with_change (Closes own number block parting) r = without_unused own block.inode (without_block number r)
with_change (Notifies events) r = record r { events = events }
with_change (Abandons process) r = record r { pipes = map (option_map (with_abandoned process)) r.pipes }

-- ---- when it can happen

-- a path leads to a directory
pub record IsDirectoryAt (r : Resources) (key : Key) : Type 0 where
  pub inode : ℕ
  pub attribute : Attribute
  pub leads : get r.names key ≡ Some inode
  pub there : row_at r.inodes.attributes inode ≡ Some attribute
  pub directory : is_directory attribute.kind ≡ true

-- a path leads to an inode, or is that of a mount whose root it is
abbrev pub LeadsTo : Resources → Key → ℕ → Type 0
LeadsTo r at inode = (get r.names at ≡ Some inode) ⊎ (at ≡ root_key inode)

-- an inode is there, of a manager's own kind or a directory
pub record IsOwnInode (own : Kind) (r : Resources) (inode : ℕ) : Type 0 where
  pub attribute : Attribute
  pub there : row_at r.inodes.attributes inode ≡ Some attribute
  pub owned : is_own own attribute.kind ≡ true

-- nobody waits in a pipe, or in a device, who could be served: to settle it changes nothing and answers nobody
abbrev pub IsPipeSettled : Pipe WaitingCall → Type 0
IsPipeSettled pipe = settle wanted offered pipe ≡ nobody_answered pipe

-- as many bytes may stand in a pipe, and in a device
abbrev pub most_bytes : Option Device → ℕ
most_bytes None = PIPE
most_bytes (Some device) = STATE

-- and no more do
abbrev pub IsShort : {W : Type 0} → Pipe W → Type 0
IsShort pipe = length pipe.bytes ≤ most_bytes pipe.device

-- this is an open control block once it stands at another offset, or once more or fewer connections have it: what it had open for whom, it has
pub record IsMoved (before after : Ocb) : Type 0 where
  pub inode : after.inode ≡ before.inode
  pub flags : after.flags ≡ before.flags
  pub client : after.client ≡ before.client
  -- no fewer connections than before have it, or one has it still
  pub some : (before.uses ≤ after.uses) ⊎ (1 ≤ after.uses)
  -- no more than before, or than the greatest number of a connection
  pub few : (after.uses ≤ before.uses) ⊎ (after.uses ≤ LAST_CONNECTION)

-- a file is there, and has other bytes
pub record IsRewritten (r : Resources) (inode : ℕ) (bytes : List ℕ) : Type 0 where
  pub was : List ℕ
  pub there : row_at r.files inode ≡ Some was
  -- no more than before, or than a file of the user may have
  pub file : (length bytes ≤ length was) ⊎ (length bytes ≤ r.limits.file)
  -- no more than before, or all files together have no more than they may
  pub files : (length bytes ≤ length was) ⊎ (total_size (slice_set r.files inode (Some bytes)) ≤ r.limits.bytes)

-- something was done to the pipe of an inode, or to its device, to which these calls came
pub record IsDone (r : Resources) (inode : ℕ) (after : PipeAfter WaitingCall) (came : List WaitingCall) : Type 0 where
  pub pipe : Pipe WaitingCall
  pub there : row_at r.pipes inode ≡ Some pipe
  -- they are over open control blocks of that inode
  pub over : count_by (is_astray r.inodes.blocks inode) came ≡ 0
  -- whoever waited, but those whose process has ended, or came was answered once or waits
  pub once : (which : WaitingCall → Bool) → count_answers_to which after.answers + count_waiting_of which after.pipe ≡ count_waiting_of which (removed is_gone pipe) + count_by which came
  -- nobody waits who could be served
  pub settled : IsPipeSettled after.pipe
  -- it is a pipe still, or that device
  pub device : after.pipe.device ≡ pipe.device
  -- no more bytes stand than may
  pub short : IsShort pipe → IsShort after.pipe

-- these are the events of a user who may have so many, once some came or went
pub record AreKept (most : ℕ) (before events : Events) : Type 0 where
  -- armed events and untaken pulses together are no more than before, or than may be
  pub few : (event_count events ≤ event_count before) ⊎ (event_count events ≤ most)
  -- each process has a queue still
  pub queues : length events.pulses ≡ length before.pulses

-- with its last connection goes an open control block that no other has, and with its client any
abbrev pub MayPart : Parting → Ocb → Type 0
MayPart WithLast block = block.uses ≤ 1
MayPart WithClient block = Unit {0}

-- a mount comes where the user may have one more; an inode comes under the lowest free number, with a name that is a component and not there yet, into a directory; a name goes that leads to
-- an inode in which no names are; a path gets a name that is a component and not there yet, in a directory of the same mount that is not below it; only what is there is opened, written, closed or unnamed, and opened by a path; one connection has what comes to be open, and
-- what is open stays so while another has it, unless its client is gone; nobody waits over what is closed; and events do not come to be too
-- many
abbrev pub MayHappen : ResourceChange → Resources → Type 0
MayHappen (Mounts mount) r = (inode_number r.inodes ≡ Ok mount.root) × (length r.mounts < r.limits.mounts)
MayHappen (Comes inode directory name kind mode moment) r = (inode_number r.inodes ≡ Ok inode) × IsDirectoryAt r directory × (get r.names (under directory name) ≡ None) × (is_component name ≡ true)
MayHappen (Touches inode mode mtime ctime) r = Unit {0}
MayHappen (Opens number block at) r = (block_number r.inodes ≡ Ok number) × (is_some (row_at r.inodes.attributes block.inode) ≡ true) × (block.uses ≡ 1) × LeadsTo r at block.inode
MayHappen (Moves number move) r = (block : Ocb) → row_at r.inodes.blocks number ≡ Some block → IsMoved block (moved move block)
MayHappen (Writes inode moment bytes) r = IsRewritten r inode bytes
MayHappen (Fills inode moment after came) r = IsDone r inode after came
MayHappen (Unlinks own directory name inode mtime ctime) r = (get r.names (under directory name) ≡ Some inode) × (names_in r.names inode ≡ []) × IsOwnInode own r inode
MayHappen (Renames above name directory next) r = IsDirectoryAt r directory × (get r.names (under directory next) ≡ None) × (is_component next ≡ true) × (is_below (under above name) directory.0 (next ∷ directory.1) ≡ false) × (above.0 ≡ directory.0)
MayHappen (Closes own number block parting) r = (row_at r.inodes.blocks number ≡ Some block) × IsOwnInode own r block.inode × (count_waiting_in (is_over number) (pipe_in own r block.inode) ≡ 0) × MayPart parting block
MayHappen (Notifies events) r = AreKept r.limits.events r.events events
MayHappen (Abandons process) r = Unit {0}

-- ---- one after another

-- the resources once these changes happened, the last one first
abbrev pub after_all : List ResourceChange → Resources → Resources
after_all [] r = r
after_all (last ∷ before) r = with_change last (after_all before r)

-- each could happen when it did
abbrev pub MayAllHappen : List ResourceChange → Resources → Type 0
MayAllHappen [] r = Unit {0}
MayAllHappen (last ∷ before) r = MayHappen last (after_all before r) × MayAllHappen before r

-- by such changes the first resources become the second
pub record Become (first second : Resources) : Type 0 where
  pub changes : List ResourceChange
  pub may : MayAllHappen changes first
  pub are : after_all changes first ≡ second
