-- A row that was lent and is left as it was.
use Rattle.std.proofs.Common.{◌≡◌, ℕ, List, Option, Some, None, refl}
use Rattle.std.specs.Prelude.{OnSome}
use Rattle.qx_machine.specs.declared.rows.ThreadRow.{ThreadRow}
use Rattle.qx_machine.specs.Parts.{thread_of}
use Rattle.qx_machine.specs.Processes.{Process}
use Rattle.qx_isolation.specs.Rows.{row_at, with_row}
use Rattle.qx_rows.proofs.RowLemmas.{set-row, with_row-none}
use Rattle.qx_process.specs.Lends.{put_thread}

-- a thread's row that is put back changes nothing
pub put_thread_same : (rows : List (Option Process)) (number thread : ℕ) (row : ThreadRow) → thread_of thread (row_at rows number) ≡ Some row → with_row rows number (put_thread thread row) ≡ rows
put_thread_same rows number thread row there = by_process (row_at rows number) refl there
  where
    by_process : (place : Option Process) → row_at rows number ≡ place → thread_of thread place ≡ Some row → with_row rows number (put_thread thread row) ≡ rows
    by_process None is of = rw (with_row-none rows number (put_thread thread row) is) refl
    by_process (Some process) is of = rw (is, set-row process.threads thread row of, set-row rows number process is) refl

-- what holds anyway holds of what is there
pub if_there : {A : Type 0} {P : Type 0} (place : Option A) → P → OnSome place P
if_there None holds = tt
if_there (Some row) holds = holds
