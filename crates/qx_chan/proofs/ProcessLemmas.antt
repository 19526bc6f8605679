-- One process among those of all users, where it changes.
use Rattle.std.proofs.Common.{◌≡◌, ◌≢◌, inl, inr, ℕ, List, Option, Some, None, Ok, Err, refl, sym, ap}
use Rattle.std.specs.Prelude.{IsSome, OnErr, Result, option_map, slice_set}
use Rattle.std.proofs.lemmas.Bool.{cases_eq}
use Rattle.qx_types.specs.declared.names.Proc.{Proc}
use Rattle.qx_types.specs.declared.names.Thread.{Thread}
use Rattle.qx_machine.specs.declared.rows.ThreadRow.{ThreadRow}
use Rattle.qx_machine.specs.Parts.{thread_of}
use Rattle.qx_machine.specs.Processes.{Process, with_thread}
use Rattle.qx_isolation.specs.Rows.{row_at, with_row}
use Rattle.qx_process.specs.Lends.{put_thread}
use Rattle.qx_rows.proofs.RowLemmas.{set-row, with_row-none}
use Rattle.qx_chan.specs.Users.{Users, process_of_user, process_of, thread_row, with_process_of, with_thread_row}
use Rattle.qx_chan.proofs.RowReads.{option_cases, row_at-with_other, row_at-with_same}

pub process_of-same : (users : Users) (proc : Proc) (f : Process → Process) → process_of (with_process_of users proc f) proc ≡ option_map f (process_of users proc)
process_of-same users proc f = rw (row_at-with_same users proc.user.0 (λ rows. with_row rows proc.num f)) (by_user (row_at users proc.user.0))
  where
    by_user : (o : Option (List (Option Process))) → process_of_user proc.num (option_map (λ rows. with_row rows proc.num f) o) ≡ option_map f (process_of_user proc.num o)
    by_user None = refl
    by_user (Some rows) = row_at-with_same rows proc.num f

module _ (users : Users) (proc : Proc) (h : List (Option Process) → List (Option Process))
    (others : (rows : List (Option Process)) → row_at users proc.user.0 ≡ Some rows → (n : ℕ) → n ≢ proc.num → row_at (h rows) n ≡ row_at rows n) where
  pub process_of-other : (other : Proc) → other ≢ proc → process_of (with_row users proc.user.0 h) other ≡ process_of users other
  process_of-other other differs = elim (cases_eq other.user.0 proc.user.0) [
    | inr apart ↦ ap (process_of_user other.num) (row_at-with_other users proc.user.0 other.user.0 h apart)
    | inl user ↦ elim (cases_eq other.num proc.num) [
      | inl num ↦ absurd (differs (λ i. record { user = record { 0 = user i }; num = num i }))
      | inr apart ↦ rw (user, row_at-with_same users proc.user.0 h) (by_user (row_at users proc.user.0) refl apart)
    ]
  ]
    where
      by_user : (o : Option (List (Option Process))) → row_at users proc.user.0 ≡ o → other.num ≢ proc.num → process_of_user other.num (option_map h o) ≡ process_of_user other.num o
      by_user None there apart = refl
      by_user (Some rows) there apart = others rows there other.num apart

-- where a process is there, so is its user, and where a thread is there, its process

pub user-there : (users : Users) (proc : Proc) → IsSome (process_of users proc) → IsSome (row_at users proc.user.0)
user-there users proc there = by_user (row_at users proc.user.0) there
  where
    by_user : (o : Option (List (Option Process))) → IsSome (process_of_user proc.num o) → IsSome o
    by_user None none = none
    by_user (Some rows) some = refl

pub process-there : (users : Users) (thread : Thread) → IsSome (thread_row users thread) → IsSome (process_of users thread.proc)
process-there users thread there = by_process (process_of users thread.proc) there
  where
    by_process : (o : Option Process) → IsSome (thread_of thread.tid o) → IsSome o
    by_process None none = none
    by_process (Some process) some = refl

-- a thread's row that is put into its process, as that is put among those of all users
pub thread-put : (users : Users) (thread : Thread) (process : Process) (row left : ThreadRow)
    → process_of users thread.proc ≡ Some process
    → row_at process.threads thread.tid ≡ Some row
    → with_process_of users thread.proc (λ _. put_thread thread.tid left process) ≡ with_thread_row users thread (λ _. left)
thread-put users thread process row left is there = elim (option_cases (row_at users thread.proc.user.0)) [
  | inl nobody ↦ let clash : None ≡ Some process = rw nobody at is in absurd (cc)
  | inr rows ↦
      let its : row_at rows.0 thread.proc.num ≡ Some process = rw rows.1 at is in
      rw (rows.1, its, there) refl
]

-- a process that is not there, and one that is left as it was

pub with_process-none : (users : Users) (proc : Proc) (f : Process → Process) → process_of users proc ≡ None → with_process_of users proc f ≡ users
with_process-none users proc f none = elim (option_cases (row_at users proc.user.0)) [
  | inl nobody ↦ with_row-none users proc.user.0 (λ rows. with_row rows proc.num f) nobody
  | inr rows ↦
      let its : row_at rows.0 proc.num ≡ None = rw rows.1 at none in
      rw (rows.1, with_row-none rows.0 proc.num f its, set-row users proc.user.0 rows.0 rows.1) refl
]

-- a change that leaves the process as it was
pub with_process-fixed : (users : Users) (proc : Proc) (f : Process → Process) (process : Process) → process_of users proc ≡ Some process → f process ≡ process → with_process_of users proc f ≡ users
with_process-fixed users proc f process there same = elim (option_cases (row_at users proc.user.0)) [
  | inl nobody ↦ let clash : None ≡ Some process = rw nobody at there in absurd (cc)
  | inr rows ↦
      let its : row_at rows.0 proc.num ≡ Some process = rw rows.1 at there in
      rw (rows.1, its, same, set-row rows.0 proc.num process its, set-row users proc.user.0 rows.0 rows.1) refl
]

pub with_process-same : (users : Users) (proc : Proc) (process : Process) → process_of users proc ≡ Some process → with_process_of users proc (λ _. process) ≡ users
with_process-same users proc process there = with_process-fixed users proc (λ _. process) process there refl

-- a thread that is not there
pub with_thread-none : (users : Users) (thread : Thread) (g : ThreadRow → ThreadRow) → thread_row users thread ≡ None → with_thread_row users thread g ≡ users
with_thread-none users thread g none = elim (option_cases (process_of users thread.proc)) [
  | inl nobody ↦ with_process-none users thread.proc (with_thread thread.tid g) nobody
  | inr process ↦
      let its : row_at process.0.threads thread.tid ≡ None = rw process.1 at none in
      let same : with_thread thread.tid g process.0 ≡ process.0 = ap (λ threads. record process.0 { threads = threads }) (with_row-none process.0.threads thread.tid g its) in
      with_process-fixed users thread.proc (with_thread thread.tid g) process.0 process.1 same
]

-- and one whose row stays
pub with_thread-same : (users : Users) (thread : Thread) (row : ThreadRow) → thread_row users thread ≡ Some row → with_thread_row users thread (λ _. row) ≡ users
with_thread-same users thread row there = elim (option_cases (process_of users thread.proc)) [
  | inl nobody ↦ let clash : None ≡ Some row = rw nobody at there in absurd (cc)
  | inr process ↦
      let its : row_at process.0.threads thread.tid ≡ Some row = rw process.1 at there in
      let same : with_thread thread.tid (λ _. row) process.0 ≡ process.0 = ap (λ threads. record process.0 { threads = threads }) (rw its (set-row process.0.threads thread.tid row its)) in
      with_process-fixed users thread.proc (with_thread thread.tid (λ _. row)) process.0 process.1 same
]

-- a row that was read and is put back changed
pub with_thread-put : (users : Users) (thread : Thread) (g : ThreadRow → ThreadRow) (row : ThreadRow) → thread_row users thread ≡ Some row → with_thread_row users thread (λ _. g row) ≡ with_thread_row users thread g
with_thread-put users thread g row there = elim (option_cases (row_at users thread.proc.user.0)) [
  | inl nobody ↦ let clash : None ≡ Some row = rw nobody at there in absurd (cc)
  | inr rows ↦ elim (option_cases (row_at rows.0 thread.proc.num)) [
    | inl nobody ↦ let clash : None ≡ Some row = rw (rows.1, nobody) at there in absurd (cc)
    | inr process ↦
        let its : row_at process.0.threads thread.tid ≡ Some row = rw (rows.1, process.1) at there in
        rw (rows.1, process.1, its) refl
  ]
]

-- a process that was lent from its user's, and is put back as it was
pub process-put_back : (users : Users) (proc : Proc) (rows : List (Option Process)) (process : Process) → Some rows ≡ row_at users proc.user.0 → Some process ≡ row_at rows proc.num → slice_set users proc.user.0 (Some (slice_set rows proc.num (Some process))) ≡ users
process-put_back users proc rows process user there = rw (set-row rows proc.num process (sym there)) (set-row users proc.user.0 rows (sym user))

pub ruleset puts_back = (set-row, process-put_back)

pub ruleset lends = (with_process-same, with_process-none, with_thread-none, with_row-none)

-- a row that a refused call put back
pub put_back : {A R E : Type 0} (xs : List (Option A)) (n : ℕ) (x y : A) (r : Result R E) → Some x ≡ row_at xs n → OnErr r (y ≡ x) → OnErr r (slice_set xs n (Some y) ≡ xs)
put_back xs n x y (Ok done) there same = tt
put_back xs n x y (Err error) there same = rw same (set-row xs n x (sym there))
