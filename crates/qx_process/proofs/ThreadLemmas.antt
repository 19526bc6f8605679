-- A thread's row, as it is changed or left.
use Rattle.std.proofs.Common.{◌≡◌, ℕ, Some, None, refl, ap}
use Rattle.qx_machine.specs.declared.rows.ThreadRow.{ThreadRow}
use Rattle.qx_machine.specs.Processes.{Process, with_thread}
use Rattle.qx_isolation.specs.Rows.{row_at}
use Rattle.qx_process.specs.Lends.{put_thread}
use Rattle.qx_rows.proofs.RowLemmas.{set-row, with_row-none}

-- no thread is there to be changed
pub thread_absent : (process : Process) (thread : ℕ) (f : ThreadRow → ThreadRow) → row_at process.threads thread ≡ None → with_thread thread f process ≡ process
thread_absent process thread f is = ap (λ threads. record process { threads = threads }) (with_row-none process.threads thread f is)

-- a thread's row that is left as it was changes nothing in the process
pub thread_put_back : (process : Process) (thread : ℕ) (row : ThreadRow) → row_at process.threads thread ≡ Some row → put_thread thread row process ≡ process
thread_put_back process thread row is = rw (set-row process.threads thread row is) refl
