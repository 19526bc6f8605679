-- The end of each step of a user: events that are due, and processes that have ended.
use Rattle.std.specs.Prelude.{ℕ, ◌+◌, ◌==◌, ◌||◌, not, Bool, List, [], ◌∷◌, Option, Some, None, is_some, if◌then◌else◌}
use Rattle.std.specs.List.{list_any}
use Rattle.qx_isolation.specs.declared.rows.OwnItem.{OwnItem}
use Rattle.qx_isolation.specs.declared.rows.OwnItem.TheVariants.{Message, Unblock, Disconnect}
use Rattle.qx_machine.specs.Notification.{events_settled}
use Rattle.qx_machine.specs.Parts.{Part}
use Rattle.qx_machine.specs.Processes.{Process, has_ended, has_server, living}
use Rattle.qx_isolation.specs.Rows.{row_at}
use Rattle.qx_machine.specs.Waiting.{Pipes, holds, is_of_process}

-- the process under a number is there and has not ended
abbrev pub is_living : List (Option Process) → ℕ → Bool
is_living processes number = is_some (living (row_at processes number))

-- ---- processes that have ended

-- whose item it is
abbrev pub process_of_item : OwnItem → ℕ
process_of_item (Message process thread) = process
process_of_item (Unblock process thread call) = process
process_of_item (Disconnect process server) = process

-- a worker holds an item of the process
abbrev pub is_held : List OwnItem → ℕ → Bool
is_held held number = list_any (λ item. process_of_item item == number) held

-- a call of the process waits in a pipe; once the process has no server connection there, none does, as each waits on an open control block
abbrev pub has_waiting : Pipes → ℕ → Bool
has_waiting pipes number = list_any (holds (is_of_process number)) pipes

-- what a process has that has ended: server connections, items that workers hold, and calls that wait
abbrev pub is_kept : List OwnItem → Pipes → ℕ → Process → Bool
is_kept held pipes number process = has_server process || is_held held number || has_waiting pipes number

-- it stays while it has any of these
abbrev pub stays : List OwnItem → Pipes → ℕ → Process → Bool
stays held pipes number process = not (has_ended process) || is_kept held pipes number process

abbrev pub row_left : List OwnItem → Pipes → ℕ → Option Process → Option Process
row_left held pipes number None = None
row_left held pipes number (Some process) = if stays held pipes number process then Some process else None

-- the processes from a number on, without those that are freed
abbrev pub processes_left : List OwnItem → Pipes → ℕ → List (Option Process) → List (Option Process)
processes_left held pipes number [] = []
processes_left held pipes number (row ∷ rows) = row_left held pipes number row ∷ processes_left held pipes (number + 1) rows

-- ---- both

-- what the end of a step settles, from the rows before it, where workers hold these items of the user then
abbrev pub settled : Part → List OwnItem → Part → Part
settled before held after = record after {
  processes = processes_left held after.resources.pipes 0 after.processes;
  resources = record after.resources { events = events_settled (is_living after.processes) before.resources after.resources };
}
