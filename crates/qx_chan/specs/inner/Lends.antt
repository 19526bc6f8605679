-- What lends a row of its own, and ends with what was left in the row.
use Rattle.std.specs.Prelude.{ℕ, List, Option, Some, slice_set}
use Rattle.std.specs.Borrow.{Lends, LendsIf, Fml, MutBor}
use Rattle.qx_types.specs.declared.names.Proc.{Proc}
use Rattle.qx_types.specs.declared.names.Thread.{Thread}
use Rattle.qx_machine.specs.declared.rows.ThreadRow.{ThreadRow}
use Rattle.qx_machine.specs.Processes.{Process}
use Rattle.qx_process.specs.contracts.process.Process as process
use Rattle.qx_process.specs.contracts.thread.ThreadCell as cell
use Rattle.qx_clients.specs.contracts.processes.Processes as processes
use Rattle.qx_chan.specs.contracts.users.Users as users
use Rattle.qx_chan.specs.Users.{Users, with_process_of, with_thread_row}

-- the processes of a user
abbrev pub lends_processes : MutBor (Users) → ℕ → Option (MutBor (List (Option Process))) → Fml
lends_processes lender user r = LendsIf users.the_row processes.the_row lender r (λ rows. slice_set lender.now user (Some rows)) lender.now

-- one process
abbrev pub lends_process_of : MutBor (Users) → Proc → Option (MutBor Process) → Fml
lends_process_of lender proc r = LendsIf users.the_row process.the_row lender r (λ row. with_process_of lender.now proc (λ _. row)) lender.now

-- one thread
abbrev pub lends_thread_row : MutBor (Users) → Thread → Option (MutBor ThreadRow) → Fml
lends_thread_row lender thread r = LendsIf users.the_row cell.the_row lender r (λ row. with_thread_row lender.now thread (λ _. row)) lender.now

-- the same of what is there
abbrev pub lends_processes_there : MutBor (Users) → ℕ → MutBor (List (Option Process)) → Fml
lends_processes_there lender user r = Lends users.the_row processes.the_row lender r (λ rows. slice_set lender.now user (Some rows))

abbrev pub lends_process_there : MutBor (Users) → Proc → MutBor Process → Fml
lends_process_there lender proc r = Lends users.the_row process.the_row lender r (λ row. with_process_of lender.now proc (λ _. row))

abbrev pub lends_thread_there : MutBor (Users) → Thread → MutBor ThreadRow → Fml
lends_thread_there lender thread r = Lends users.the_row cell.the_row lender r (λ row. with_thread_row lender.now thread (λ _. row))
