-- How many more nodes can be made with no memory, as threads start and disconnect nodes come and go.
use Rattle.std.specs.Prelude.{ℕ, ◌-◌, ◌*◌, ◌&&◌, not, Bool, true, false, Option, Some, None, Result, Ok, Err, if◌then◌else◌, max}
use Rattle.qx_types.specs.declared.names.Manager.{Manager}
use Rattle.qx_types.specs.declared.outcome.Outcome.{Outcome}
use Rattle.qx_machine.specs.declared.rows.Over.{Over}
use Rattle.qx_machine.specs.declared.rows.Over.TheVariants.{Existing}
use Rattle.qx_machine.specs.Processes.{Process}
use Rattle.qx_process.specs.Reads.{is_served}

-- a server connection of the process is in use at the manager
abbrev pub served_at : Manager → Option Process → Bool
served_at manager None = false
served_at manager (Some process) = is_served manager process

-- a call attaches what its message goes over
abbrev pub attaches : Over → Bool
attaches (Existing coid) = false
attaches _ = true

-- the room once a server connection is in use or not, as one was or was not before: the disconnect node of a new one came out of it
abbrev pub room_used : ℕ → Bool → Bool → ℕ
room_used room before after = if after && not before then room - 1 else room

-- once two nodes for each thread of a process came out of it, if its start was not refused
abbrev pub room_started : ℕ → ℕ → Result ℕ Outcome → ℕ
room_started room threads (Ok number) = room - 2 * threads
room_started room threads (Err outcome) = room

-- once there is room for the disconnect node of what a message goes over
abbrev pub room_for : Over → ℕ → ℕ
room_for over room = if attaches over then max room 2 else room
