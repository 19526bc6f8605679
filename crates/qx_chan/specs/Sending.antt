-- How a call of a thread is judged and sent, and what memory it wants.
use Rattle.std.specs.Prelude.{⊤, ℕ, false, List, Option, Some, None, Result, Ok, Err, IfSome, IsTrue}
use Rattle.qx_base.specs.Memory.{FitInto, kept_beside}
use Rattle.qx_types.specs.Configuration.{Configuration}
use Rattle.qx_types.specs.declared.names.Thread.{Thread}
use Rattle.qx_types.specs.declared.outcome.Outcome.{Outcome}
use Rattle.qx_types.specs.declared.outcome.Outcome.TheVariants.{WrongState}
use Rattle.qx_types.specs.declared.request.Request.{Request}
use Rattle.qx_paths.specs.Mounts.{mounts_of}
use Rattle.qx_paths.specs.Prefixes.{MountPoint}
use Rattle.qx_machine.specs.declared.rows.Addressed.{Addressed}
use Rattle.qx_machine.specs.declared.rows.Sent.{Sent}
use Rattle.qx_machine.specs.declared.rows.ThreadRow.{ThreadRow}
use Rattle.qx_machine.specs.Calls.{bytes_of, content_of}
use Rattle.qx_machine.specs.Clients.{target_by}
use Rattle.qx_machine.specs.Processes.{Process}
use Rattle.qx_isolation.specs.Rows.{row_at}
use Rattle.qx_chan.specs.Channel.{Channel, IsExisting, after_send}

-- where a call goes, by the mounts and the processes of its thread's user, if the user is there
abbrev pub target_among : Configuration → List MountPoint → Thread → Request → Option (List (Option Process)) → Result Addressed Outcome
target_among config mounts thread request None = Err WrongState
target_among config mounts thread request (Some processes) = target_by config thread.proc.user.0 mounts processes thread request

-- where a call goes in a channel, or the outcome of one that goes nowhere
abbrev pub call_target : Configuration → Channel → Thread → Request → Result Addressed Outcome
call_target config c thread request = target_among config (mounts_of c.mounts thread.proc.user.0) thread request (row_at c.users thread.proc.user.0)

-- the message of a call that goes there
abbrev pub sent_to : Addressed → Request → Sent
sent_to addressed request = record { target = addressed.target; is_asked = false; bytes = bytes_of (content_of request addressed.rest addressed.to) }

-- once the message of a call is sent to where it goes, if it goes anywhere
abbrev pub after_call : Channel → Thread → Request → Result Addressed Outcome → Channel
after_call c thread request (Ok addressed) = after_send c thread (sent_to addressed request)
after_call c thread request (Err outcome) = c

-- what is told of a call that was sent, or the outcome of one that goes nowhere
abbrev pub told_of : Result Addressed Outcome → Result ⊤ Outcome
told_of (Ok addressed) = Ok tt
told_of (Err outcome) = Err outcome

-- the memory that is kept for messages once a call is sent to where it goes, if it goes anywhere
abbrev pub kept_after : Request → Result Addressed Outcome → ℕ → ℕ
kept_after request (Ok addressed) kept = kept_beside (bytes_of (content_of request addressed.rest addressed.to)) kept
kept_after request (Err outcome) kept = kept

-- what a call wants memory for is there: it goes over a connection that is there, its message stands in its value or fits into the memory
-- that is kept, and its thread has room for the reply
pub record HasMemory (kept : ℕ) (place : Option ThreadRow) (request : Request) (addressed : Addressed) : Type 0 where
  pub over : IsExisting addressed.target.over
  pub message : FitInto (bytes_of (content_of request addressed.rest addressed.to)) kept
  pub room : IfSome place (λ row. IsTrue row.has_room)
