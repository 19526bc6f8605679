-- The pipes of one user, and the calls that wait there (Writing a Resource Manager: clients to whom no reply is made yet).
use Rattle.std.specs.Prelude.{ℕ, ◌+◌, ◌==◌, ◌&&◌, ◌||◌, not, Bool, false, List, Option, Some, None, length, replicate}
use Rattle.std.specs.List.{list_any}
use Rattle.qx_types.specs.declared.flags.TheConstants.OFlags.{NONBLOCK}
use Rattle.qx_types.specs.declared.limits.TheConstants.Limits.{INODES}
use Rattle.qx_types.specs.declared.outcome.Answer.{Answer}
use Rattle.qx_types.specs.declared.outcome.Answer.TheVariants.{Reply, Failed}
use Rattle.qx_machine.specs.declared.rows.Caller.{Caller}
use Rattle.qx_machine.specs.declared.rows.Manner.{Manner}
use Rattle.qx_machine.specs.declared.rows.Ocb.{Ocb}
use Rattle.qx_machine.specs.declared.rows.Opened.{Opened}
use Rattle.qx_machine.specs.declared.rows.Sides.{Sides}
use Rattle.qx_machine.specs.declared.rows.WaitingCall.{WaitingCall}
use Rattle.qx_machine.specs.Inodes.{Inodes, has, readers_of, writers_of}
use Rattle.qx_machine.specs.Pipes.{Pipe}

-- the pipes of a user, under the numbers of their inodes
abbrev pub Pipes : Type 0
Pipes = List (Option (Pipe WaitingCall))

-- no pipe, and a place for that of each inode
abbrev pub no_pipes : Pipes
no_pipes = replicate (INODES + 1) None

-- ---- calls that wait

-- whose message works on what is open
abbrev pub caller_in : Opened → Caller
caller_in opened = record { call = opened.call; process = opened.process; thread = opened.thread; is_asked = opened.is_asked }

-- a call that reads so many bytes or writes these
abbrev pub waiting_call : Opened → ℕ → List ℕ → WaitingCall
waiting_call opened wanted bytes = record { process = opened.process; thread = opened.thread; call = opened.call; block = opened.number; wanted = wanted; bytes = bytes; is_gone = false }

abbrev pub wanted : WaitingCall → ℕ
wanted call = call.wanted

abbrev pub offered : WaitingCall → List ℕ
offered call = call.bytes

-- a waiting call's process has ended
abbrev pub is_gone : WaitingCall → Bool
is_gone call = call.is_gone

-- a call of a thread of that process
abbrev pub is_of_process : ℕ → WaitingCall → Bool
is_of_process process call = call.process == process

-- that call of a thread
abbrev pub is_call : ℕ → ℕ → ℕ → WaitingCall → Bool
is_call process thread number call = (call.process == process) && (call.thread == thread) && (call.call == number)

-- a call over this block
abbrev pub is_over : ℕ → WaitingCall → Bool
is_over number call = call.block == number

-- who waits in this pipe
abbrev pub holds : (WaitingCall → Bool) → Option (Pipe WaitingCall) → Bool
holds which None = false
holds which (Some pipe) = list_any which pipe.readers || list_any which pipe.writers

-- a write was answered with the number of its bytes, so they went in
abbrev pub is_written : List ℕ → Answer → Bool
is_written bytes (Reply status answer) = not (length bytes == 0) && not (status == 0)
is_written bytes (Failed error) = false

-- ---- how a pipe is open

-- how a message over this block is done, where the pipe has so many blocks for the other side
abbrev pub manner_of : ℕ → Ocb → Bool → Manner
manner_of others block is_asked = record { has_other_side = not (others == 0); is_nonblock = has block.flags NONBLOCK; is_asked = is_asked }

-- for which sides a pipe has open control blocks
abbrev pub sides_of : Inodes → ℕ → Sides
sides_of inodes inode = record { for_reading = not (readers_of inodes inode == 0); for_writing = not (writers_of inodes inode == 0) }
