-- The call that a thread waits for, by its row.
use Rattle.std.specs.Prelude.{Option, Some, None, option_map, if◌then◌else◌}
use Rattle.qx_machine.specs.declared.rows.Sent.{Sent}
use Rattle.qx_machine.specs.declared.rows.State.{State}
use Rattle.qx_machine.specs.declared.rows.State.TheVariants.{Taken, Waiting}
use Rattle.qx_machine.specs.declared.rows.ThreadRow.{ThreadRow}
use Rattle.qx_machine.specs.Performing.{taken_in}
use Rattle.qx_process.specs.Reads.{queued_in}
use Rattle.qx_chan.specs.declared.call.Call.{Call}

-- the message that was received, is not answered and is not asked to unblock its thread
abbrev pub unasked_in : State → Option Sent
unasked_in (Taken sent) = if sent.is_asked then None else Some sent
unasked_in (Waiting sent) = if sent.is_asked then None else Some sent
unasked_in _ = None

-- the call that sent a thread's message
abbrev pub call_with : ThreadRow → Sent → Call
call_with row sent = record { target = sent.target; number = row.calls; is_asked = sent.is_asked }

abbrev pub call_by : (State → Option Sent) → ThreadRow → Option Call
call_by message row = option_map (call_with row) (message row.state)

abbrev pub sent_call : (State → Option Sent) → Option ThreadRow → Option Call
sent_call message None = None
sent_call message (Some row) = call_by message row

-- the call of a thread whose message stands in a line
abbrev pub queued_call : Option ThreadRow → Option Call
queued_call row = sent_call queued_in row

-- of one whose message was received, is not answered and is not asked to unblock it
abbrev pub unasked_call : Option ThreadRow → Option Call
unasked_call row = sent_call unasked_in row

-- a thread's message that was received and is not served
abbrev pub taken_of : Option ThreadRow → Option Sent
taken_of None = None
taken_of (Some row) = taken_in row.state
