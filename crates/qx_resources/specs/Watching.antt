-- Which pipe is watched while a user's resources are worked on, and which events are due by what was done to it.
use Rattle.std.specs.Prelude.{ℕ, ◌≡◌, ◌==◌, ◌&&◌, not, Bool, true, false, Option, Some, None, Result, Ok, if◌then◌else◌, is_some, length, position}
use Rattle.qx_base.specs.declared.errno.Errno.{Errno}
use Rattle.qx_wire.specs.declared.message.Meaning.{Meaning}
use Rattle.qx_wire.specs.declared.message.Meaning.TheVariants.{Known}
use Rattle.qx_wire.specs.declared.message.Message.{Message}
use Rattle.qx_wire.specs.declared.message.Message.TheVariants.{Read, Write, Close}
use Rattle.qx_machine.specs.declared.rows.Conditions.{Conditions}
use Rattle.qx_machine.specs.declared.rows.Ocb.{Ocb}
use Rattle.qx_machine.specs.declared.rows.Opened.{Opened}
use Rattle.qx_machine.specs.Events.{Events, triggered}
use Rattle.qx_machine.specs.Notification.{conditions_of}
use Rattle.qx_machine.specs.Resources.{Resources}
use Rattle.qx_isolation.specs.Rows.{row_at}
use Rattle.qx_machine.specs.Waiting.{holds, is_call, sides_of}
use Rattle.qx_resources.specs.declared.watching.Watched.{Watched}

-- which conditions hold of the pipe of an inode
abbrev pub pipe_conditions : Resources → ℕ → Conditions
pipe_conditions r inode = conditions_of (sides_of r.inodes inode) (row_at r.pipes inode)

-- what is told of a block over whose pipe nobody watches, before and after alike
abbrev pub unwatched : Conditions
unwatched = record { input = true; output = true }

-- of a block that has the pipe of this inode open these conditions are told
abbrev pub told_of : Option Ocb → ℕ → Conditions → Conditions
told_of None inode these = unwatched
told_of (Some block) inode these = if block.inode == inode then these else unwatched

abbrev pub told_over : Resources → ℕ → Conditions → ℕ → Conditions
told_over r inode these number = told_of (row_at r.inodes.blocks number) inode these

-- a user's events once those that are due by what was watched have given their pulses to the processes that live
abbrev pub watched_settled : (ℕ → Bool) → Option Watched → Resources → Events
watched_settled lives None after = after.events
watched_settled lives (Some watched) after = triggered lives (told_over after watched.inode watched.before) (told_over after watched.inode (pipe_conditions after watched.inode)) after.events

-- the pipe of an inode is watched if it is one, and if anything is armed
abbrev pub watch : Resources → ℕ → Option Watched
watch r inode = if not (length r.events.armed == 0) && is_some (row_at r.pipes inode) then Some (record { inode = inode; before = pipe_conditions r inode }) else None

abbrev pub watch_block : Resources → Option Ocb → Option Watched
watch_block r None = None
watch_block r (Some block) = watch r block.inode

-- of the messages, a read, a write and a close work on the pipe that they come over
abbrev pub works_on_pipe : Message → Bool
works_on_pipe (Read count) = true
works_on_pipe (Write bytes) = true
works_on_pipe Close = true
works_on_pipe _ = false

abbrev pub watched_over : Resources → Meaning → Result Opened Errno → Option Watched
watched_over r (Known message) (Ok opened) = if works_on_pipe message then watch_block r (row_at r.inodes.blocks opened.number) else None
watched_over r _ _ = None

-- an unblock pulse works on the pipe in which its call waits
abbrev pub watch_place : Resources → Option ℕ → Option Watched
watch_place r None = None
watch_place r (Some inode) = watch r inode

abbrev pub watched_call : Resources → ℕ → ℕ → ℕ → Option Watched
watched_call r process thread call = watch_place r (position (holds (is_call process thread call)) r.pipes)

-- no block has a pipe open whose inode's number is free: the next inode may get that number, and an empty pipe with it
abbrev pub HasNoStalePipe : Resources → Type 0
HasNoStalePipe r = (number : ℕ) (block : Ocb) → row_at r.inodes.blocks number ≡ Some block → row_at r.inodes.attributes block.inode ≡ None → row_at r.pipes block.inode ≡ None
