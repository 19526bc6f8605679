-- Processes of which none is to be freed, as one of them changes or comes, and as a worker takes an item.
use Rattle.std.proofs.Common.{◌≡◌, inl, inr, ℕ, zero, suc, ◌+◌, List, [], ◌∷◌, ◌++◌, length, Bool, true, false, refl, sym, ap, ap₂, ◌∙◌, arith}
use Rattle.std.specs.Prelude.{map, Option, Some, None, ◌==◌, ◌||◌, not, drop, is_none, nat_lt, option_map, slice_set}
use Rattle.std.proofs.lemmas.Bool.{cases_Bool, cond_both}
use Rattle.std.proofs.lemmas.Bool.Decides.{nat_tests}
use Rattle.std.proofs.lemmas.List.{length-set}
use Rattle.qx_types.specs.declared.names.Manager.{Manager}
use Rattle.qx_isolation.specs.declared.rows.Held.{Held}
use Rattle.qx_machine.specs.declared.rows.Over.{Over}
use Rattle.qx_machine.specs.declared.rows.Over.TheVariants.{Existing, New, Side}
use Rattle.qx_isolation.specs.declared.rows.OwnItem.{OwnItem}
use Rattle.qx_machine.specs.declared.rows.Sent.{Sent}
use Rattle.qx_machine.specs.declared.rows.ThreadRow.{ThreadRow}
use Rattle.qx_machine.specs.Machine.{own_held}
use Rattle.qx_machine.specs.Parts.{thread_of}
use Rattle.qx_machine.specs.Processes.{Process, has_ended, has_server, new_process, queued_thread, with_over, with_queued, with_side, with_thread}
use Rattle.qx_isolation.specs.Rows.{put_row, row_at, with_row}
use Rattle.qx_machine.specs.Settling.{has_waiting, is_held, process_of_item, processes_left, row_left, stays}
use Rattle.qx_machine.specs.declared.rows.WaitingCall.{WaitingCall}
use Rattle.qx_machine.specs.Clients.{abandoned, with_abandoned}
use Rattle.qx_machine.specs.Pipes.{Pipe}
use Rattle.qx_machine.specs.Waiting.{Pipes, holds, is_of_process}
use Rattle.std.specs.List.{list_any}
use Rattle.qx_machine.proofs.Living.{KeepsThreads, keeps-thread}
use Rattle.qx_machine.proofs.Settled.{row_at-left}
use Rattle.qx_chan.proofs.RowReads.{option_cases}

-- ---- who lives

threaded : (process : Process) (thread : ℕ) (row : ThreadRow) → row_at process.threads thread ≡ Some row → has_ended process ≡ false
threaded process thread row there = by process.threads there
  where
    by : (threads : List (Option ThreadRow)) → row_at threads thread ≡ Some row → (length threads == 0) ≡ false
    by [] none = absurd (cc)
    by (first ∷ rest) is = grind (arith, nat_tests)

pub starts : (threads prio : ℕ) → has_ended (new_process threads prio) ≡ false
starts threads prio = grind (arith, nat_tests)

-- what a message goes over leaves the threads
over-keeps : (thread : ℕ) (manager : Manager) (over : Over) (process : Process) → (with_over thread manager over process).threads ≡ process.threads
over-keeps thread manager (New coid) process = refl
over-keeps thread manager (Existing coid) process = refl
over-keeps thread manager Side process = cond_both (is_none (row_at process.sides thread)) (with_side thread (Some manager) process) process (λ after. after.threads ≡ process.threads) (λ is. refl) (λ is. refl)

pub queued-keeps : (thread : ℕ) (sent : Sent) → KeepsThreads (with_queued thread sent)
queued-keeps thread sent = record { keeps = λ process. ap length (over-keeps thread sent.target.manager sent.target.over _) ∙ (keeps-thread thread (queued_thread sent)).keeps process }

-- ---- one user's processes

module _ (held : List OwnItem) (pipes : Pipes) where
  -- the row under a number is left
  abbrev pub IsLeft : ℕ → Option Process → Type 0
  IsLeft number row = row_left held pipes number row ≡ row

  -- all rows are, from a number on
  abbrev pub AreLeft : ℕ → List (Option Process) → Type 0
  AreLeft first rows = processes_left held pipes first rows ≡ rows

  at : (one other : ℕ) (row : Option Process) → one ≡ other → IsLeft one row → IsLeft other row
  at one other row same left = ap (λ number. row_left held pipes number row) (sym same) ∙ left

  left-first : (first : ℕ) (row : Option Process) (rows : List (Option Process)) → AreLeft first (row ∷ rows) → IsLeft first row
  left-first first row rows left = ap (λ all. row_at all 0) left

  left-rest : (first : ℕ) (row : Option Process) (rows : List (Option Process)) → AreLeft first (row ∷ rows) → AreLeft (first + 1) rows
  left-rest first row rows left = ap (drop 1) left

  pub left-row : (rows : List (Option Process)) (number : ℕ) → AreLeft 0 rows → IsLeft number (row_at rows number)
  left-row rows number left = at (0 + number) number (row_at rows number) (omega arith) (sym (row_at-left held pipes 0 number rows) ∙ ap (λ all. row_at all number) left)

  -- ---- one is put

  left-set : (first number : ℕ) (rows : List (Option Process)) (row : Option Process) → AreLeft first rows → IsLeft (first + number) row → AreLeft first (slice_set rows number row)
  left-set first number [] row left its = refl
  left-set first zero (x ∷ rows) row left its = ap₂ (λ y ys. y ∷ ys) (at (first + 0) first row (omega arith) its) (left-rest first x rows left)
  left-set first (suc number) (x ∷ rows) row left its =
      ap₂ (λ y ys. y ∷ ys) (left-first first x rows left) (left-set (first + 1) number rows row (left-rest first x rows left) (at (first + suc number) (first + 1 + number) row (omega arith) its))

  left-append : (first : ℕ) (rows : List (Option Process)) (row : Option Process) → AreLeft first rows → IsLeft (first + length rows) row → AreLeft first (rows ++ row ∷ [])
  left-append first [] row left its = ap (λ y. y ∷ []) (at (first + 0) first row (omega arith) its)
  left-append first (x ∷ rows) row left its =
      ap₂ (λ y ys. y ∷ ys) (left-first first x rows left) (left-append (first + 1) rows row (left-rest first x rows left) (at (first + length (x ∷ rows)) (first + 1 + length rows) row (omega arith) its))

  pub left-changed : (rows : List (Option Process)) (number : ℕ) (row : Option Process) → AreLeft 0 rows → IsLeft number row → AreLeft 0 (slice_set rows number row)
  left-changed rows number row left its = left-set 0 number rows row left (at number (0 + number) row (omega arith) its)

  -- ---- a process that lives

  pub left-living : (number : ℕ) (process : Process) → has_ended process ≡ false → IsLeft number (Some process)
  left-living number process lives = rw lives refl

  pub left-put : (rows : List (Option Process)) (number : ℕ) (process : Process) → AreLeft 0 rows → has_ended process ≡ false → AreLeft 0 (put_row rows number process)
  left-put rows number process left lives =
      cond_both (nat_lt number (length rows)) (slice_set rows number (Some process)) (rows ++ Some process ∷ []) (AreLeft 0) (λ is. left-changed rows number (Some process) left (left-living number process lives)) (λ is. left-append 0 rows (Some process) left (left-living (0 + length rows) process lives))

  pub left-with : (rows : List (Option Process)) (number : ℕ) (process : Process) (change : Process → Process) → AreLeft 0 rows → row_at rows number ≡ Some process → has_ended (change process) ≡ false → AreLeft 0 (with_row rows number change)
  left-with rows number process change left there lives = left-changed rows number (option_map change (row_at rows number)) left (rw there (left-living number (change process) lives))

  -- a process with a thread lives, and does so still with as many
  pub left-kept : (rows : List (Option Process)) (number thread : ℕ) (row : ThreadRow) (change : Process → Process) → AreLeft 0 rows → thread_of thread (row_at rows number) ≡ Some row → KeepsThreads change → AreLeft 0 (with_row rows number change)
  left-kept rows number thread row change left there kept = elim (option_cases (row_at rows number)) [
    | inl none ↦ let clash : None ≡ Some row = rw none at there in absurd (cc)
    | inr process ↦
        let its : row_at process.0.threads thread ≡ Some row = rw process.1 at there in
        left-with rows number process.0 change left process.1 (ap (λ count. count == 0) (kept.keeps process.0) ∙ threaded process.0 thread row its)
  ]

  -- ---- one of its threads changes, whether it lives or not

  stay : (number : ℕ) (process : Process) → IsLeft number (Some process) → stays held pipes number process ≡ true
  stay number process left = elim (cases_Bool (stays held pipes number process)) [
    | inl is ↦ is
    | inr is_not ↦ let gone : None ≡ Some process = rw is_not at left in absurd (cc)
  ]

  thread-left : (number thread : ℕ) (change : ThreadRow → ThreadRow) (row : Option Process) → IsLeft number row → IsLeft number (option_map (with_thread thread change) row)
  thread-left number thread change None left = refl
  thread-left number thread change (Some process) left =
      rw (length-set process.threads thread (option_map change (row_at process.threads thread)), stay number process left) refl

  pub left-thread : (rows : List (Option Process)) (number thread : ℕ) (change : ThreadRow → ThreadRow) → AreLeft 0 rows → AreLeft 0 (with_row rows number (with_thread thread change))
  left-thread rows number thread change left =
      left-changed rows number (option_map (with_thread thread change) (row_at rows number)) left (thread-left number thread change (row_at rows number) (left-row rows number left))

-- ---- a worker takes an item

or-grows : (a b c d e : Bool) → (c ≡ true → e ≡ true) → (a || (b || c || d)) ≡ true → (a || (b || e || d)) ≡ true
or-grows true b c d e grows is = refl
or-grows false true c d e grows is = refl
or-grows false false true d e grows is = rw (grows refl) refl
or-grows false false false d true grows is = refl
or-grows false false false d false grows is = is

module _ (held more : List OwnItem) (pipes : Pipes) (grows : (number : ℕ) → is_held held number ≡ true → is_held more number ≡ true) where
  row-held : (number : ℕ) (row : Option Process) → IsLeft held pipes number row → IsLeft more pipes number row
  row-held number None left = refl
  row-held number (Some process) left =
      rw (or-grows (not (has_ended process)) (has_server process) (is_held held number) (has_waiting pipes number) (is_held more number) (grows number) (stay held pipes number process left)) refl

  pub left-held : (first : ℕ) (rows : List (Option Process)) → AreLeft held pipes first rows → AreLeft more pipes first rows
  left-held first [] left = refl
  left-held first (row ∷ rows) left = ap₂ (λ y ys. y ∷ ys) (row-held first row (left-first held pipes first row rows left)) (left-held (first + 1) rows (left-rest held pipes first row rows left))

-- ---- calls that wait

or-waits : (a b c d e : Bool) → (d ≡ true → e ≡ true) → (a || (b || c || d)) ≡ true → (a || (b || c || e)) ≡ true
or-waits true b c d e waits is = refl
or-waits false true c d e waits is = refl
or-waits false false true d e waits is = refl
or-waits false false false true e waits is = waits refl
or-waits false false false false e waits is = absurd (cc)

module _ (held : List OwnItem) (before after : Pipes) (waits : (number : ℕ) → has_waiting before number ≡ has_waiting after number) where
  row-waits : (number : ℕ) (row : Option Process) → IsLeft held before number row → IsLeft held after number row
  row-waits number None left = refl
  row-waits number (Some process) left =
      rw (or-waits (not (has_ended process)) (has_server process) (is_held held number) (has_waiting before number) (has_waiting after number) (λ is. sym (waits number) ∙ is) (stay held before number process left)) refl

  pub left-waits : (first : ℕ) (rows : List (Option Process)) → AreLeft held before first rows → AreLeft held after first rows
  left-waits first [] left = refl
  left-waits first (row ∷ rows) left = ap₂ (λ y ys. y ∷ ys) (row-waits first row (left-first held before first row rows left)) (left-waits (first + 1) rows (left-rest held before first row rows left))

-- calls that are marked are of the process that they were of
same_process : (process number : ℕ) (call : WaitingCall) → is_of_process number (abandoned process call) ≡ is_of_process number call
same_process process number call = cond_both (is_of_process process call) (record call { is_gone = true }) call (λ marked. is_of_process number marked ≡ is_of_process number call) (λ is. refl) (λ is. refl)

any-marked : (process number : ℕ) (calls : List WaitingCall) → list_any (is_of_process number) (map (abandoned process) calls) ≡ list_any (is_of_process number) calls
any-marked process number [] = refl
any-marked process number (call ∷ calls) = ap₂ (λ one rest. one || rest) (same_process process number call) (any-marked process number calls)

held-marked : (process number : ℕ) (row : Option (Pipe WaitingCall)) → holds (is_of_process number) (option_map (with_abandoned process) row) ≡ holds (is_of_process number) row
held-marked process number None = refl
held-marked process number (Some pipe) = ap₂ (λ one other. one || other) (any-marked process number pipe.readers) (any-marked process number pipe.writers)

pub waiting-marked : (process number : ℕ) (pipes : Pipes) → has_waiting (map (option_map (with_abandoned process)) pipes) number ≡ has_waiting pipes number
waiting-marked process number [] = refl
waiting-marked process number (row ∷ rows) = ap₂ (λ one rest. one || rest) (held-marked process number row) (waiting-marked process number rows)

-- ---- one row alone is not left

pub one-alone : (held : List OwnItem) (pipes : Pipes) (first number : ℕ) (rows : List (Option Process)) (row : Option Process) → AreLeft held pipes first rows
    → processes_left held pipes first (slice_set rows number row) ≡ slice_set rows number (row_left held pipes (first + number) row)
one-alone held pipes first number [] row left = refl
one-alone held pipes first zero (x ∷ rows) row left =
    let at : first ≡ first + 0 = omega arith in
    ap₂ (λ y ys. y ∷ ys) (ap (λ n. row_left held pipes n row) at) (left-rest held pipes first x rows left)
one-alone held pipes first (suc number) (x ∷ rows) row left =
    let at : first + 1 + number ≡ first + suc number = omega arith in
    ap₂ (λ y ys. y ∷ ys) (left-first held pipes first x rows left) (one-alone held pipes (first + 1) number rows row (left-rest held pipes first x rows left) ∙ ap (λ n. slice_set rows number (row_left held pipes n row)) at)

-- what workers hold of a user, as one of them takes an item more
more-held : (first : OwnItem) (held more : List OwnItem) (number : ℕ) → (is_held held number ≡ true → is_held more number ≡ true) → is_held (first ∷ held) number ≡ true → is_held (first ∷ more) number ≡ true
more-held first held more number grows is = by (process_of_item first == number) (is_held held number) (is_held more number) grows is
  where
    by : (here before after : Bool) → (before ≡ true → after ≡ true) → (here || before) ≡ true → (here || after) ≡ true
    by true before after grows is = refl
    by false before after grows is = grows is

one-held : (first : OwnItem) (held : List OwnItem) (number : ℕ) → is_held held number ≡ true → is_held (first ∷ held) number ≡ true
one-held first held number is = by (process_of_item first == number) (is_held held number) is
  where
    by : (here before : Bool) → before ≡ true → (here || before) ≡ true
    by true before is = refl
    by false before is = is

pub held-grows : (user worker : ℕ) (taken : Held) (hands : List (Option Held)) (number : ℕ) → row_at hands worker ≡ None
    → is_held (own_held user hands) number ≡ true → is_held (own_held user (slice_set hands worker (Some taken))) number ≡ true
held-grows user worker taken [] number free is = is
held-grows user zero taken (None ∷ hands) number free is =
    cond_both (taken.user.0 == user) (taken.item ∷ own_held user hands) (own_held user hands) (λ items. is_held items number ≡ true) (λ own. one-held taken.item (own_held user hands) number is) (λ other. is)
held-grows user zero taken (Some held ∷ hands) number free is = absurd (cc)
held-grows user (suc worker) taken (None ∷ hands) number free is = held-grows user worker taken hands number free is
held-grows user (suc worker) taken (Some held ∷ hands) number free is = elim (cases_Bool (held.user.0 == user)) [
  | inl own ↦
      let before : is_held (held.item ∷ own_held user hands) number ≡ true = rw own at is in
      rw own (more-held held.item (own_held user hands) (own_held user (slice_set hands worker (Some taken))) number (λ held. held-grows user worker taken hands number free held) before)
  | inr other ↦
      let before : is_held (own_held user hands) number ≡ true = rw other at is in
      rw other (held-grows user worker taken hands number free before)
]
