-- What lends a thread's row, and ends with what was left in the row.
use Rattle.std.specs.Prelude.{ℕ, Option, Some, slice_set}
use Rattle.std.specs.Borrow.{Lends, LendsIf, Fml, MutBor}
use Rattle.qx_machine.specs.declared.rows.ThreadRow.{ThreadRow}
use Rattle.qx_machine.specs.Processes.{Process}
use Rattle.qx_process.specs.contracts.process.Process as process
use Rattle.qx_process.specs.contracts.thread.ThreadCell as cell

-- the process with another row of a thread that is there
abbrev pub put_thread : ℕ → ThreadRow → Process → Process
put_thread thread row process = record process { threads = slice_set process.threads thread (Some row) }

abbrev pub lends_thread : MutBor Process → ℕ → Option (MutBor ThreadRow) → Fml
lends_thread lender thread r = LendsIf process.the_row cell.the_row lender r (λ row. put_thread thread row lender.now) lender.now

-- the same of a thread that is there
abbrev pub lends_thread_there : MutBor Process → ℕ → MutBor ThreadRow → Fml
lends_thread_there lender thread r = Lends process.the_row cell.the_row lender r (λ row. put_thread thread row lender.now)
