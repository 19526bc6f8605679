-- What a node of the table stands for and carries.
use Rattle.std.specs.Prelude.{◌≡◌, ℕ, ◌==◌, Bool, false, [], Option, Some, None, is_some, unwrap_or}
use Rattle.qx_isolation.specs.declared.rows.Queued.{Queued}
use Rattle.qx_machine.specs.declared.rows.WaitingCall.{WaitingCall}
use Rattle.qx_machine.specs.Machine.{rank}
use Rattle.qx_machine.specs.Processes.{keeps_room}
use Rattle.qx_queues.specs.Queues.{UsersAnswer}
use Rattle.qx_queues.specs.declared.waiting.Answered as taken

-- nothing, a call that waits in a pipe, or the answer to one that waited
pub data Load : Type 0 where
  Nothing : Load
  Waits : (call : WaitingCall) → Load
  Answered : (given : UsersAnswer) → Load

-- an item as it stands in a line, and what its node carries
pub record Waiting : Type 0 where
  pub queued : Queued
  pub load : Load

-- an item whose node carries that
abbrev pub carrying : Queued → Load → Waiting
carrying queued load = record { queued = queued; load = load }

abbrev pub idle : Queued → Waiting
idle queued = carrying queued Nothing

-- the place of a node in a line's order
abbrev pub rank_of : Waiting → ℕ
rank_of waiting = rank waiting.queued

abbrev pub no_call : WaitingCall
no_call = record { process = 0; thread = 0; call = 0; block = 0; wanted = 0; bytes = []; is_gone = false }

abbrev pub carried : Load → Option WaitingCall
carried Nothing = None
carried (Waits call) = Some call
carried (Answered given) = None

-- the call that waits with a node
abbrev pub call_carried : Waiting → WaitingCall
call_carried waiting = unwrap_or (carried waiting.load) no_call

-- the call of that number waits
abbrev pub waits_in : ℕ → Load → Bool
waits_in number Nothing = false
waits_in number (Waits call) = call.call == number
waits_in number (Answered given) = false

-- to which call of which thread an answer goes, and what it is
abbrev pub addressed_by : taken.Answered → UsersAnswer
addressed_by taken = record { thread = taken.thread; call = taken.call; answer = taken.answer }

-- an answer comes with the room for its thread's replies, unless it takes that along
abbrev pub ComesWithRoom : taken.Answered → Type 0
ComesWithRoom taken = is_some taken.room ≡ keeps_room taken.answer
