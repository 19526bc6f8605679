-- What lends a row of its own, and ends with what was left in the row.
use Rattle.std.specs.Prelude.{ℕ, List, Option, Some, slice_set}
use Rattle.std.specs.Borrow.{Lends, LendsIf, Fml, MutBor}
use Rattle.qx_machine.specs.declared.rows.ThreadRow.{ThreadRow}
use Rattle.qx_machine.specs.Processes.{Process}
use Rattle.qx_isolation.specs.Rows.{with_row}
use Rattle.qx_process.specs.contracts.process.Process as process
use Rattle.qx_process.specs.contracts.thread.ThreadCell as cell
use Rattle.qx_process.specs.Lends.{put_thread}
use Rattle.qx_clients.specs.contracts.processes.Processes as processes

abbrev pub lends_process : MutBor (List (Option Process)) → ℕ → Option (MutBor Process) → Fml
lends_process lender number r = LendsIf processes.the_row process.the_row lender r (λ row. slice_set lender.now number (Some row)) lender.now

-- the same of a process that is there
abbrev pub lends_process_there : MutBor (List (Option Process)) → ℕ → MutBor Process → Fml
lends_process_there lender number r = Lends processes.the_row process.the_row lender r (λ row. slice_set lender.now number (Some row))

abbrev pub lends_thread_of : MutBor (List (Option Process)) → ℕ → ℕ → Option (MutBor ThreadRow) → Fml
lends_thread_of lender number thread r =
    LendsIf processes.the_row cell.the_row lender r (λ row. with_row lender.now number (put_thread thread row)) lender.now
