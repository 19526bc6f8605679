-- How calls on a user's processes are judged, and what the processes are then.
use Rattle.std.specs.Prelude.{ℕ, ◌≡◌, Bool, false, List, Option, Some, None, Result, Ok, Err, ⊤}
use Rattle.qx_types.specs.declared.outcome.Outcome.{Outcome}
use Rattle.qx_types.specs.declared.outcome.Outcome.TheVariants.{Spawned, Done, WrongState}
use Rattle.qx_isolation.specs.declared.rows.ServerName.{ServerName}
use Rattle.qx_machine.specs.declared.rows.Target.{Target}
use Rattle.qx_machine.specs.Clients.{may_give}
use Rattle.qx_isolation.specs.Judgements.{◌>>=◌, found}
use Rattle.qx_machine.specs.Processes.{Process, has_ended, new_process, ranked_thread, with_thread}
use Rattle.qx_isolation.specs.Rows.{row_at, put_row, with_row}
use Rattle.qx_process.specs.Reads.{CanAttach, Loses, LosesAll}

-- a process is there and has ended
abbrev pub has_ended_in : Option Process → Bool
has_ended_in None = false
has_ended_in (Some process) = has_ended process

-- the outcome of a spawn, by the number of the new process
abbrev pub spawn_outcome : Result ℕ Outcome → Outcome
spawn_outcome (Ok number) = Spawned number
spawn_outcome (Err outcome) = outcome

-- the processes with the new one
abbrev pub spawned : List (Option Process) → ℕ → ℕ → Result ℕ Outcome → List (Option Process)
spawned processes threads prio (Ok number) = put_row processes number (new_process threads prio)
spawned processes threads prio (Err outcome) = processes

-- the outcome of a call that changes the processes and tells nothing more
abbrev pub done_or : Result (List (Option Process)) Outcome → Outcome
done_or (Ok after) = Done
done_or (Err outcome) = outcome

-- the processes after a call, which are as before where it is refused
abbrev pub after_or : List (Option Process) → Result (List (Option Process)) Outcome → List (Option Process)
after_or before (Ok after) = after
after_or before (Err outcome) = before

-- a thread of a user with this ceiling gets another priority
abbrev pub with_prio : ℕ → List (Option Process) → ℕ → ℕ → ℕ → Result (List (Option Process)) Outcome
with_prio ceiling processes number thread prio = do
  process ← found (row_at processes number) WrongState
  row ← found (row_at process.threads thread) WrongState
  allowed ← may_give ceiling prio
  Ok (with_row processes number (with_thread thread (ranked_thread prio)))

-- the process is there, and what a message goes over can be attached to the target's manager
abbrev pub CanAttachAt : Option Process → Target → Type 0
CanAttachAt None target = ⊥
CanAttachAt (Some process) target = CanAttach process target.manager target.over

-- the process under a number has lost that server connection or none; where no process is there, none is lost
abbrev pub LosesAt : Option ServerName → Option Process → Option Process → Type 0
LosesAt lost None None = lost ≡ None
LosesAt lost (Some before) (Some after) = Loses lost before after
LosesAt lost _ _ = ⊥

-- the process under a number has ended, and has lost each server connection that it used, if it is there
abbrev pub EndsAt : Option Process → Option Process → Type 0
EndsAt None None = ⊤
EndsAt (Some before) (Some after) = LosesAll before after
EndsAt _ _ = ⊥
