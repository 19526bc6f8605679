-- All rows of one user, and what a step changes in the lines.
use Rattle.std.specs.Prelude.{ℕ, List, [], Option, Some, None, map, take}
use Rattle.qx_types.specs.declared.names.Thread.{Thread}
use Rattle.qx_machine.specs.declared.rows.Connection.{Connection}
use Rattle.qx_isolation.specs.declared.rows.OwnItem.TheVariants as item
use Rattle.qx_isolation.specs.declared.rows.ServerName.{ServerName}
use Rattle.qx_machine.specs.declared.rows.ThreadRow.{ThreadRow}
use Rattle.qx_machine.specs.Processes.{Process, lost_servers, with_thread}
use Rattle.qx_machine.specs.Resources.{Resources}
use Rattle.qx_isolation.specs.Rows.{row_at, with_row}
pub use Rattle.qx_isolation.specs.System.{Change, Put, Remove}

-- a user's processes from 1, and resources
pub record Part : Type 0 where
  pub processes : List (Option Process)
  pub resources : Resources

abbrev pub thread_of : ℕ → Option Process → Option ThreadRow
thread_of thread None = None
thread_of thread (Some process) = row_at process.threads thread

abbrev pub connection_of : ℕ → Option Process → Option Connection
connection_of coid None = None
connection_of coid (Some process) = row_at process.connections coid

-- a thread's row, by the number of its process and its own
abbrev pub thread_at : Part → ℕ → ℕ → Option ThreadRow
thread_at part process thread = thread_of thread (row_at part.processes process)

-- one of the processes changes
abbrev pub with_process : ℕ → (Process → Process) → Part → Part
with_process process change part = record part { processes = with_row part.processes process change }

-- one of the threads changes
abbrev pub with_thread_of : Thread → (ThreadRow → ThreadRow) → Part → Part
with_thread_of thread change part = with_process thread.proc.num (with_thread thread.tid change) part

-- ---- disconnect pulses

-- the pulse that a process has lost a server connection, of this priority (Writing a Resource Manager: _PULSE_CODE_DISCONNECT; that its
-- priority is one of the user's limits is this profile)
abbrev pub disconnect : ℕ → ℕ → ServerName → Change
disconnect prio process server = Put server.manager (item.Disconnect process server) prio

-- that of a process whose message changes it so; a message goes to one manager, so there is one at most
abbrev pub disconnects : ℕ → ℕ → (Process → Process) → Option Process → List Change
disconnects prio number change None = []
disconnects prio number change (Some process) = map (disconnect prio number) (take 1 (lost_servers process (change process)))
