-- How many calls wait in pipes and devices; a pipe stands for either here.
use Rattle.std.specs.Prelude.{ℕ, ◌+◌, ◌==◌, ◌&&◌, not, Bool, false, true, List, Option, Some, None}
use Rattle.std.specs.List.{count_by, sum_by}
use Rattle.qx_types.specs.declared.outcome.Answer.{Answer}
use Rattle.qx_machine.specs.declared.rows.Ocb.{Ocb}
use Rattle.qx_machine.specs.declared.rows.State.{State}
use Rattle.qx_machine.specs.declared.rows.State.TheVariants.{Waiting}
use Rattle.qx_machine.specs.declared.rows.ThreadRow.{ThreadRow}
use Rattle.qx_machine.specs.declared.rows.WaitingCall.{WaitingCall}
use Rattle.qx_machine.specs.Inodes.{is_open}
use Rattle.qx_machine.specs.Pipes.{Pipe}
use Rattle.qx_isolation.specs.Rows.{row_at}
use Rattle.qx_machine.specs.Waiting.{Pipes, is_gone}

module _ {W : Type 0} where
  -- how many of those who wait in a pipe are such
  abbrev pub count_waiting_of : (W → Bool) → Pipe W → ℕ
  count_waiting_of which p = count_by which p.readers + count_by which p.writers

  -- how many of the answers are to such
  abbrev pub count_answers_to : (W → Bool) → List (W × Answer) → ℕ
  count_answers_to which answers = count_by (λ answer. which answer.0) answers

-- the same where a pipe may be
abbrev pub count_waiting_in : (WaitingCall → Bool) → Option (Pipe WaitingCall) → ℕ
count_waiting_in which None = 0
count_waiting_in which (Some pipe) = count_waiting_of which pipe

-- the same in all pipes of a user
abbrev pub count_waiting : (WaitingCall → Bool) → Pipes → ℕ
count_waiting which pipes = sum_by (count_waiting_in which) pipes

-- a call of this thread
abbrev pub is_of : ℕ → ℕ → WaitingCall → Bool
is_of process thread call = (call.process == process) && (call.thread == thread)

-- such a call whose process has not ended, and such a one whose process has
abbrev pub unless_gone : (WaitingCall → Bool) → WaitingCall → Bool
unless_gone which call = which call && not (is_gone call)

abbrev pub though_gone : (WaitingCall → Bool) → WaitingCall → Bool
though_gone which call = which call && is_gone call

-- a call over an open control block that has another inode open, or over none
abbrev pub is_astray : List (Option Ocb) → ℕ → WaitingCall → Bool
is_astray blocks inode call = not (is_open (λ flags. true) inode (row_at blocks call.block))

-- an open control block of a client of that process
abbrev pub is_of_client : ℕ → Option Ocb → Bool
is_of_client process None = false
is_of_client process (Some block) = block.client.process == process

-- a call over an open control block of another process's client, or over none
abbrev pub is_foreign : List (Option Ocb) → WaitingCall → Bool
is_foreign blocks call = not (is_of_client call.process (row_at blocks call.block))

-- 1 for a thread whose call waits, else 0
abbrev pub count_state_waiting : State → ℕ
count_state_waiting (Waiting sent) = 1
count_state_waiting _ = 0

abbrev pub waits : Option ThreadRow → ℕ
waits None = 0
waits (Some row) = count_state_waiting row.state
