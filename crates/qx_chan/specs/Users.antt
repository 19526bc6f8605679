-- The processes of all users, and one process or thread among them.
use Rattle.std.specs.Prelude.{◌≡◌, ⊤, ℕ, [], ◌∷◌, List, Option, Some, None, Result, Err, replicate}
use Rattle.qx_types.specs.UserLimits.{UserLimits}
use Rattle.qx_types.specs.declared.names.Proc.{Proc}
use Rattle.qx_types.specs.declared.names.Thread.{Thread}
use Rattle.qx_types.specs.declared.outcome.Outcome.{Outcome}
use Rattle.qx_types.specs.declared.outcome.Outcome.TheVariants.{WrongState}
use Rattle.qx_machine.specs.declared.rows.State.TheVariants.{Ready}
use Rattle.qx_machine.specs.declared.rows.Target.{Target}
use Rattle.qx_machine.specs.declared.rows.ThreadRow.{ThreadRow}
use Rattle.qx_machine.specs.Clients.{spawn_number}
use Rattle.qx_machine.specs.Parts.{thread_of}
use Rattle.qx_machine.specs.Processes.{Process, with_thread}
use Rattle.qx_isolation.specs.Rows.{row_at, with_row}
use Rattle.qx_process.specs.Reads.{UsesBy}
use Rattle.qx_clients.specs.Calls.{done_or, with_prio}

-- by user and by process, both from 1
abbrev pub Users : Type 0
Users = List (Option (List (Option Process)))

-- users from 1 to this many, with no process
abbrev pub no_processes : ℕ → Users
no_processes users = None ∷ replicate users (Some (None ∷ []))

abbrev pub process_of_user : ℕ → Option (List (Option Process)) → Option Process
process_of_user number None = None
process_of_user number (Some processes) = row_at processes number

-- a process of a user
abbrev pub process_of : Users → Proc → Option Process
process_of users proc = process_of_user proc.num (row_at users proc.user.0)

-- a thread's row
abbrev pub thread_row : Users → Thread → Option ThreadRow
thread_row users thread = thread_of thread.tid (process_of users thread.proc)

-- one process changes
abbrev pub with_process_of : Users → Proc → (Process → Process) → Users
with_process_of users proc change = with_row users proc.user.0 (λ processes. with_row processes proc.num change)

-- one thread changes
abbrev pub with_thread_row : Users → Thread → (ThreadRow → ThreadRow) → Users
with_thread_row users thread change = with_process_of users thread.proc (with_thread thread.tid change)

-- the number of a process of a user with these limits that would start now
abbrev pub spawn_number_in : UserLimits → ℕ → ℕ → Option (List (Option Process)) → Result ℕ Outcome
spawn_number_in limits threads prio None = Err WrongState
spawn_number_in limits threads prio (Some processes) = spawn_number limits processes threads prio

-- how a change of a thread's priority is judged
abbrev pub prio_outcome_in : ℕ → ℕ → ℕ → ℕ → Option (List (Option Process)) → Outcome
prio_outcome_in ceiling process thread prio None = WrongState
prio_outcome_in ceiling process thread prio (Some processes) = done_or (with_prio ceiling processes process thread prio)

-- the thread is there, and waits for nothing
abbrev pub IsThreadReady : Option ThreadRow → Type 0
IsThreadReady None = ⊥
IsThreadReady (Some row) = row.state ≡ Ready

-- ---- server connections

-- what a process that is there uses, once it has attached what a message goes over
abbrev pub UsesAt : Target → Option Process → Option Process → Type 0
UsesAt target (Some before) (Some after) = UsesBy target.over target.manager before after
UsesAt target None None = ⊤
UsesAt target _ _ = ⊥
