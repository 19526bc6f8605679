-- What a world is read for: a thread's row among the rows of all users, and the manager whose line is next.
use Rattle.std.specs.Prelude.{ℕ, Bool, List, Option, Some, None, find, is_some, length, nat_lt}
use Rattle.qx_types.specs.Managers.{managers}
use Rattle.qx_types.specs.declared.names.Manager.{Manager}
use Rattle.qx_types.specs.declared.names.Proc.{Proc}
use Rattle.qx_types.specs.declared.names.Thread.{Thread}
use Rattle.qx_types.specs.declared.outcome.Answer.{Answer}
use Rattle.qx_machine.specs.Clients.{answer_in}
use Rattle.qx_machine.specs.declared.rows.ThreadRow.{ThreadRow}
use Rattle.qx_machine.specs.Machine.{World, line_of}
use Rattle.qx_machine.specs.Parts.{Part, thread_of}
use Rattle.qx_machine.specs.Processes.{Process}
use Rattle.qx_isolation.specs.Rows.{row_at}

abbrev pub process_of_part : ℕ → Option Part → Option Process
process_of_part number None = None
process_of_part number (Some part) = row_at part.processes number

-- a process among the rows of all users
abbrev pub process_among_parts : List (Option Part) → Proc → Option Process
process_among_parts parts proc = process_of_part proc.num (row_at parts proc.user.0)

-- a thread's row among the rows of all users
abbrev pub row_among_parts : List (Option Part) → Thread → Option ThreadRow
row_among_parts parts thread = thread_of thread.tid (process_among_parts parts thread.proc)

-- the answer that a thread has and has not taken
abbrev pub answer_of : Option ThreadRow → Option Answer
answer_of None = None
answer_of (Some row) = answer_in row.state

abbrev pub is_thread_answered : Option ThreadRow → Bool
is_thread_answered row = is_some (answer_of row)

-- an item waits for the manager
abbrev pub has_item : World → Manager → Bool
has_item w manager = nat_lt 0 (length (line_of w manager))

-- the manager whose line a worker serves next: the first one, by number, for which an item waits
abbrev pub next_manager : World → Option Manager
next_manager w = find (has_item w) managers
