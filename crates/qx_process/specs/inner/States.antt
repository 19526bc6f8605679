-- What a thread is doing, of how its cell keeps it.
use Rattle.qx_machine.specs.declared.rows.Sent.{Sent}
use Rattle.qx_machine.specs.declared.rows.State.{State}
use Rattle.qx_machine.specs.declared.rows.State.TheVariants as state
use Rattle.qx_machine.specs.declared.rows.ThreadRow.{ThreadRow}
use Rattle.qx_types.specs.declared.names.Prio.{Prio}
use Rattle.std.specs.Prelude.{ℕ, Bool}
use Rattle.qx_process.specs.declared.thread.Doing.{Doing}
use Rattle.qx_process.specs.declared.thread.Doing.TheVariants as doing
use Rattle.qx_process.specs.declared.thread.Stage.{Stage}
use Rattle.qx_process.specs.declared.thread.Stage.TheVariants as stage

abbrev pub state_at : Stage → Sent → State
state_at stage.Queued sent = state.Queued sent
state_at stage.Taken sent = state.Taken sent
state_at stage.Waiting sent = state.Waiting sent

abbrev pub state_of : Doing → State
state_of doing.Ready = state.Ready
state_of (doing.Sent stage sent) = state_at stage sent
state_of (doing.Answered answer) = state.Answered answer

abbrev pub row_of : Doing → Prio → ℕ → Bool → ThreadRow
row_of what prio calls has_room = record { state = state_of what; prio = prio; calls = calls; has_room = has_room }
