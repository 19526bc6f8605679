-- How many numbers have a place: from 0, which nobody has. No process of the user, and no thread of the process, has a number behind them.
use Rattle.std.specs.Prelude.{ℕ, Option, Some, None, length}
use Rattle.qx_machine.specs.Parts.{Part}
use Rattle.qx_machine.specs.Processes.{Process}

abbrev pub process_places : Option Part → ℕ
process_places None = 0
process_places (Some part) = length part.processes

abbrev pub thread_places : Option Process → ℕ
thread_places None = 0
thread_places (Some process) = length process.threads
