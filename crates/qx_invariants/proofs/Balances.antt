-- How many calls wait after a change, with those that it answers: as many as waited and came. And which threads wait, once threads have changed or calls were answered.
use Rattle.std.proofs.Common.{◌≡◌, ℕ, ◌+◌, Bool, [], ◌∷◌, refl, sym, ap, ◌∙◌, arith, zero, suc, get_or, cond, ◌≢◌, ◌⊎◌, inl, inr, ◌<◌, ◌≤◌, ◌==◌, ◌&&◌, ◌++◌, true, false, List, length}
use Rattle.std.specs.Prelude.{Option, Some, None, not, slice_set, option_map, replicate}
use Rattle.std.specs.List.{count_by}
use Rattle.std.proofs.lemmas.List.Sums.{sum_by-append, sum_by-cons, sum_by-set}
use Rattle.std.proofs.lemmas.Option.{unwrap_or-slice_get}
use Rattle.qx_types.specs.declared.outcome.Answer.{Answer}
use Rattle.qx_machine.specs.declared.rows.Kind.{Kind}
use Rattle.qx_machine.specs.declared.rows.WaitingCall.{WaitingCall}
use Rattle.qx_machine.specs.Defaults.{without_block, without_unused}
use Rattle.qx_machine.specs.Inodes.{new_attribute}
use Rattle.qx_machine.specs.Names.{under}
use Rattle.qx_machine.specs.Pipes.{Pipe, pipe_of}
use Rattle.qx_machine.specs.Resources.{Resources}
use Rattle.qx_isolation.specs.Rows.{row_at, put_row, with_row}
use Rattle.qx_machine.specs.Waiting.{Pipes, is_gone}
use Rattle.qx_clients.specs.Calls.{has_ended_in}
use Rattle.qx_invariants.specs.Changes.{Abandons, ResourceChange, Closes, Comes, Fills, MayHappen, Mounts, Unlinks, with_change, with_named, with_unlinked}
use Rattle.qx_invariants.specs.Holds.{HasOpenWaiters, calls_of, in_inode}
use Rattle.qx_invariants.specs.Waits.{count_answers_to, count_waiting, count_waiting_in, count_waiting_of, is_of, though_gone, unless_gone, waits, count_state_waiting}
use Rattle.qx_invariants.proofs.Astray.{closed_astray, nobody_over, nobody_unused}
use Rattle.qx_attr.proofs.CountLemmas.{within_table}
use Rattle.qx_invariants.proofs.Rows.{content_cases, empty_cases, freed, inode_is_new, unused_cases, with_row-at, with_row-other}
use Rattle.qx_invariants.proofs.Calls.{removed_none, removed_same}
use Rattle.qx_invariants.proofs.Contents.{none_fits}
use Rattle.qx_invariants.proofs.Told.{Told, nothing, told_by}
use Rattle.qx_invariants.proofs.Together.{Holds, holds-keep}
use Rattle.std.proofs.Math.ListN.{length-set}
use Rattle.std.proofs.lemmas.Bool.{cases_eq, eq-eqb, eqb-true, ne_eqb}
use Rattle.qx_machine.specs.declared.rows.State.{State}
use Rattle.qx_machine.specs.declared.rows.ThreadRow.{ThreadRow}
use Rattle.qx_machine.specs.Parts.{Part, thread_at, thread_of, with_process}
use Rattle.qx_machine.specs.Performing.{with_answer, with_answers}
use Rattle.qx_machine.specs.Processes.{Process, answered_thread, new_process, new_thread, with_thread}
use Rattle.qx_attr.specs.inner.Counts.{one}
use Rattle.qx_attr.proofs.TableLemmas.{row-put}
use Rattle.qx_machine.specs.declared.rows.State.TheVariants as state

-- a pipe is replaced by one in which as many wait
set_same : (which : WaitingCall → Bool) (pipes : Pipes) (n : ℕ) (row : Option (Pipe WaitingCall)) → count_waiting_in which row ≡ count_waiting_in which (row_at pipes n) → count_waiting which (slice_set pipes n row) ≡ count_waiting which pipes
set_same which [] n row same = refl
set_same which (place ∷ pipes) zero row same =
    let now = sum_by-cons (count_waiting_in which) row pipes in
    let was = sum_by-cons (count_waiting_in which) place pipes in
    omega (arith, now, was, same)
set_same which (place ∷ pipes) (suc n) row same =
    let now = sum_by-cons (count_waiting_in which) place (slice_set pipes n row) in
    let was = sum_by-cons (count_waiting_in which) place pipes in
    let rest = set_same which pipes n row same in
    omega (arith, now, was, rest)

pub set_other : (which : WaitingCall → Bool) (pipes : Pipes) (n : ℕ) (was now : Pipe WaitingCall) → row_at pipes n ≡ Some was → count_waiting which (slice_set pipes n (Some now)) + count_waiting_of which was ≡ count_waiting which pipes + count_waiting_of which now
set_other which pipes n was now is =
    let set = sum_by-set (count_waiting_in which) pipes n (Some now) None (within_table pipes n was is) in
    let before : count_waiting_in which (get_or pipes n None) ≡ count_waiting_of which was = ap (count_waiting_in which) (sym (unwrap_or-slice_get pipes n None) ∙ is) in
    omega (arith, set, before)

-- nobody waits in what goes
unused_same : (own : Kind) (inode : ℕ) (r : Resources) → HasOpenWaiters r → (which : WaitingCall → Bool) → count_waiting which (without_unused own inode r).pipes ≡ count_waiting which r.pipes
unused_same own inode r h which =
    unused_cases (λ (s : Resources). count_waiting which s.pipes ≡ count_waiting which r.pipes) own inode r
    (λ gone. content_cases (λ (s : Resources). count_waiting which s.pipes ≡ count_waiting which r.pipes) own inode (freed inode r) (λ is. refl)
    (λ is. set_same which r.pipes inode None (sym (nobody_unused r h inode gone which))) (λ is. refl))
    (λ stays. refl)

-- of those whose process has not ended as many wait, with those that were answered, as waited at first and came; and of the others no more
pub record IsBalance (first now : Pipes) (answers : List (WaitingCall × Answer)) (came : List WaitingCall) : Type 0 where
  pub here : (which : WaitingCall → Bool) → count_answers_to (unless_gone which) answers + count_waiting (unless_gone which) now ≡ count_waiting (unless_gone which) first + count_by (unless_gone which) came
  pub gone : (which : WaitingCall → Bool) → count_answers_to (though_gone which) answers + count_waiting (though_gone which) now ≤ count_waiting (though_gone which) first + count_by (though_gone which) came

-- so it is while nothing happens but by deeds
abbrev pub Balance : Resources → Resources → Told → Type 0
Balance first r told = told.others ≡ [] → IsBalance first.pipes r.pipes told.answers told.came

-- all that holds, and that
pub record Balanced (first r : Resources) (told : Told) : Type 0 where
  pub holds : Holds r
  pub balance : Balance first r told

pub balanced_first : (r : Resources) → Holds r → Balanced r r nothing
balanced_first r h = record { holds = h; balance = λ none. record { here = λ which. omega arith; gone = λ which. omega arith } }

same_balance : (first r now : Resources) (told : Told) → ((which : WaitingCall → Bool) → count_waiting which now.pipes ≡ count_waiting which r.pipes) → Balance first r told → Balance first now told
same_balance first r now told same balance none =
    let before = balance none in
    record {
      here = λ which. let waited = before.here which in let alike = same (unless_gone which) in omega (arith, waited, alike);
      gone = λ which. let waited = before.gone which in let alike = same (though_gone which) in omega (arith, waited, alike);
    }

not_here : (which gone : Bool) → gone ≡ true → (which && not gone) ≡ false
not_here true gone is = ap not is
not_here false gone is = refl

not_gone : (which gone : Bool) → gone ≡ false → (which && gone) ≡ false
not_gone true gone is = is
not_gone false gone is = refl

balance-keeps : (first : Resources) (change : ResourceChange) (r : Resources) (told : Told) → MayHappen change r → Holds r → Balance first r told → Balance first (with_change change r) (told_by change told)
balance-keeps first (Comes inode directory name which mode moment) r told may h balance =
    empty_cases (λ (s : Resources). Balance first s told) which inode (with_named inode (under directory name) (new_attribute which mode r.user moment) r) (λ is. balance)
    (λ device. same_balance first r (record r { pipes = slice_set r.pipes inode (Some (pipe_of device [] [] [])) }) told (λ of. set_same of r.pipes inode (Some (pipe_of device [] [] [])) (ap (count_waiting_in of) (sym none))) balance) (λ is. balance)
  where
    none : row_at r.pipes inode ≡ None
    none = none_fits calls_of _ (row_at r.pipes inode) (h.contents.pipes inode ∙ ap (in_inode calls_of) (inode_is_new r.inodes inode h.room.some_inodes may.0).free)
balance-keeps first (Fills inode moment after came) r told may h balance = λ none.
    let before = balance none in
    record {
      here = λ which.
          let waited = before.here which in
          let left = removed_same is_gone (unless_gone which) (λ call is. not_here (which call) (is_gone call) is) may.pipe in
          omega (arith, waited, left, may.once (unless_gone which), set (unless_gone which), answers (unless_gone which), calls (unless_gone which));
      gone = λ which.
          let waited = before.gone which in
          let left = removed_none is_gone (though_gone which) (λ call is. not_gone (which call) (is_gone call) is) may.pipe in
          omega (arith, waited, left, may.once (though_gone which), set (though_gone which), answers (though_gone which), calls (though_gone which));
    }
  where
    set : (which : WaitingCall → Bool) → count_waiting which (slice_set r.pipes inode (Some after.pipe)) + count_waiting_of which may.pipe ≡ count_waiting which r.pipes + count_waiting_of which after.pipe
    set which = set_other which r.pipes inode may.pipe after.pipe may.there

    answers : (which : WaitingCall → Bool) → count_answers_to which (told.answers ++ after.answers) ≡ count_answers_to which told.answers + count_answers_to which after.answers
    answers which = sum_by-append (λ (answer : WaitingCall × Answer). cond (which answer.0) 1 0) told.answers after.answers

    calls : (which : WaitingCall → Bool) → count_by which (told.came ++ came) ≡ count_by which told.came + count_by which came
    calls which = sum_by-append (λ call. cond (which call) 1 0) told.came came
balance-keeps first (Unlinks own directory name inode mtime ctime) r told may h balance =
    same_balance first r (without_unused own inode (with_unlinked inode (under directory name) mtime ctime r)) told (unused_same own inode (with_unlinked inode (under directory name) mtime ctime r) (record { none_astray = h.waiters.none_astray })) balance
balance-keeps first (Closes own number block parting) r told may h balance =
    same_balance first r (without_unused own block.inode (without_block number r)) told (unused_same own block.inode (without_block number r) (closed_astray r h.waiters number block may.0 (nobody_over own r number block.inode h.contents may.1 may.2))) balance
balance-keeps first (Mounts mount) r told may h balance = λ none. absurd (cc)
balance-keeps first (Abandons process) r told may h balance = λ none. absurd (cc)
balance-keeps first _ r told may h balance = balance

pub balanced-keeps : (first : Resources) (change : ResourceChange) (r : Resources) (told : Told) → MayHappen change r → Balanced first r told → Balanced first (with_change change r) (told_by change told)
balanced-keeps first change r told may h = record { holds = holds-keep change r may h.holds; balance = balance-keeps first change r told may h.holds h.balance }

-- ---- threads

-- at most one call of a thread waits
pub waits_few : (row : Option ThreadRow) → waits row ≤ 1
waits_few None = omega arith
waits_few (Some row) = by row.state
  where
    by : (s : State) → count_state_waiting s ≤ 1
    by state.Ready = omega arith
    by _ = omega arith

-- ---- a call is of a thread, or of another one

pub is_its : (process thread : ℕ) (call : WaitingCall) → ((is_of process thread call ≡ true) × (process ≡ call.process) × (thread ≡ call.thread)) ⊎ ((is_of process thread call ≡ false) × ((process ≢ call.process) ⊎ (thread ≢ call.thread)))
is_its process thread call = elim (cases_eq call.process process) [
  | inl same ↦ elim (cases_eq call.thread thread) [
    | inl also ↦ inl (ap (λ b. b && (call.thread == thread)) (eq-eqb call.process process same) ∙ eq-eqb call.thread thread also, sym same, sym also)
    | inr apart ↦ inr (ap (λ b. b && (call.thread == thread)) (eq-eqb call.process process same) ∙ ne_eqb call.thread thread apart, inr (λ e. apart (sym e)))
  ]
  | inr apart ↦ inr (ap (λ b. b && (call.thread == thread)) (ne_eqb call.process process apart), inl (λ e. apart (sym e)))
]

-- ---- one of the threads changes

-- this changes one thread of a process
abbrev pub ChangesThread : ℕ → (ThreadRow → ThreadRow) → (Process → Process) → Type 0
ChangesThread thread change f = (process : Process) → (f process).threads ≡ with_row process.threads thread change

module _ (part : Part) (number thread : ℕ) (change : ThreadRow → ThreadRow) (f : Process → Process) (changes : ChangesThread thread change f) where
  pub thread_changed : thread_at (with_process number f part) number thread ≡ option_map change (thread_at part number thread)
  thread_changed = ap (thread_of thread) (with_row-at part.processes number f) ∙ by (row_at part.processes number)
    where
      by : (row : Option Process) → thread_of thread (option_map f row) ≡ option_map change (thread_of thread row)
      by None = refl
      by (Some process) = ap (λ threads. row_at threads thread) (changes process) ∙ with_row-at process.threads thread change

  pub thread_other : (p t : ℕ) → (p ≢ number) ⊎ (t ≢ thread) → thread_at (with_process number f part) p t ≡ thread_at part p t
  thread_other p t (inl apart) = ap (thread_of t) (with_row-other part.processes number f p apart)
  thread_other p t (inr apart) = elim (cases_eq p number) [
    | inl same ↦ ap (λ n. thread_of t (row_at (with_row part.processes number f) n)) same ∙ (ap (thread_of t) (with_row-at part.processes number f) ∙ (by (row_at part.processes number) ∙ ap (λ n. thread_of t (row_at part.processes n)) (sym same)))
    | inr differ ↦ ap (thread_of t) (with_row-other part.processes number f p differ)
  ]
    where
      by : (row : Option Process) → thread_of t (option_map f row) ≡ thread_of t row
      by None = refl
      by (Some process) = ap (λ threads. row_at threads t) (changes process) ∙ with_row-other process.threads thread change t apart

  -- the change is not seen in who waits
  pub thread_same : ((row : ThreadRow) → thread_at part number thread ≡ Some row → count_state_waiting (change row).state ≡ count_state_waiting row.state) → (p t : ℕ) → waits (thread_at (with_process number f part) p t) ≡ waits (thread_at part p t)
  thread_same same p t = elim (cases_eq p number) [
    | inl is ↦ elim (cases_eq t thread) [
      | inl also ↦
          ap (λ n. waits (thread_at (with_process number f part) n t)) is
          ∙ (ap (λ n. waits (thread_at (with_process number f part) number n)) also ∙ (ap waits thread_changed ∙ (by (thread_at part number thread) refl ∙ (ap (λ n. waits (thread_at part number n)) (sym also) ∙ ap (λ n. waits (thread_at part n t)) (sym is)))))
      | inr apart ↦ ap waits (thread_other p t (inr apart))
    ]
    | inr apart ↦ ap waits (thread_other p t (inl apart))
  ]
    where
      by : (row : Option ThreadRow) → thread_at part number thread ≡ row → waits (option_map change row) ≡ waits row
      by None is = refl
      by (Some row) is = same row is

-- ---- calls are answered

module _ (process thread : ℕ) where
  answered_zero : (row : Option ThreadRow) (given : Answer) → waits (option_map (answered_thread given) row) ≡ 0
  answered_zero None given = refl
  answered_zero (Some row) given = refl

  -- an answer leaves who did not wait, and whose call it was waits no more
  one_answer : (call : WaitingCall) (given : Answer) (part : Part) → ((is_of process thread call ≡ true) × (waits (thread_at (with_answer (call, given) part) process thread) ≡ 0)) ⊎ ((is_of process thread call ≡ false) × (thread_at (with_answer (call, given) part) process thread ≡ thread_at part process thread))
  one_answer call given part = by (is_its process thread call)
    where
      by : ((is_of process thread call ≡ true) × (process ≡ call.process) × (thread ≡ call.thread)) ⊎ ((is_of process thread call ≡ false) × ((process ≢ call.process) ⊎ (thread ≢ call.thread)))
          → ((is_of process thread call ≡ true) × (waits (thread_at (with_answer (call, given) part) process thread) ≡ 0)) ⊎ ((is_of process thread call ≡ false) × (thread_at (with_answer (call, given) part) process thread ≡ thread_at part process thread))
      by (inl its) = inl (
        its.0,
        ap (λ n. waits (thread_at (with_answer (call, given) part) n thread)) its.1 ∙ (ap (λ n. waits (thread_at (with_answer (call, given) part) call.process n)) its.2
            ∙ (ap waits (thread_changed part call.process call.thread (answered_thread given) (with_thread call.thread (answered_thread given)) (λ row. refl)) ∙ answered_zero (thread_at part call.process call.thread) given)),
      )
      by (inr other) = inr (other.0, thread_other part call.process call.thread (answered_thread given) (with_thread call.thread (answered_thread given)) (λ row. refl) process thread other.1)

  zero_stays : (answers : List (WaitingCall × Answer)) (part : Part) → waits (thread_at part process thread) ≡ 0 → waits (thread_at (with_answers answers part) process thread) ≡ 0
  zero_stays [] part none = none
  zero_stays ((call, given) ∷ answers) part none = zero_stays answers (with_answer (call, given) part) (elim (one_answer call given part) [ inl its ↦ its.1 | inr other ↦ ap waits other.1 ∙ none ])

  first_count : (call : WaitingCall) (given : Answer) (answers : List (WaitingCall × Answer)) → count_answers_to (is_of process thread) ((call, given) ∷ answers) ≡ cond (is_of process thread call) 1 0 + count_answers_to (is_of process thread) answers
  first_count call given answers = sum_by-cons (λ (answer : WaitingCall × Answer). cond (is_of process thread answer.0) 1 0) (call, given) answers

  -- whose calls are not answered waits as before; whose are, waits no more
  pub after_answers : (answers : List (WaitingCall × Answer)) (part : Part)
      → ((count_answers_to (is_of process thread) answers ≡ 0) × (waits (thread_at (with_answers answers part) process thread) ≡ waits (thread_at part process thread))) ⊎ ((0 < count_answers_to (is_of process thread) answers) × (waits (thread_at (with_answers answers part) process thread) ≡ 0))
  after_answers [] part = inl (refl, refl)
  after_answers ((call, given) ∷ answers) part = by (one_answer call given part) (after_answers answers (with_answer (call, given) part))
    where
      by : ((is_of process thread call ≡ true) × (waits (thread_at (with_answer (call, given) part) process thread) ≡ 0)) ⊎ ((is_of process thread call ≡ false) × (thread_at (with_answer (call, given) part) process thread ≡ thread_at part process thread))
          → ((count_answers_to (is_of process thread) answers ≡ 0) × (waits (thread_at (with_answers answers (with_answer (call, given) part)) process thread) ≡ waits (thread_at (with_answer (call, given) part) process thread))) ⊎ ((0 < count_answers_to (is_of process thread) answers) × (waits (thread_at (with_answers answers (with_answer (call, given) part)) process thread) ≡ 0))
          → ((count_answers_to (is_of process thread) ((call, given) ∷ answers) ≡ 0) × (waits (thread_at (with_answers answers (with_answer (call, given) part)) process thread) ≡ waits (thread_at part process thread))) ⊎ ((0 < count_answers_to (is_of process thread) ((call, given) ∷ answers)) × (waits (thread_at (with_answers answers (with_answer (call, given) part)) process thread) ≡ 0))
      by (inl its) later = let its_own : one (is_of process thread call) ≡ 1 = ap one its.0 in inr (omega (arith, its_own, first_count call given answers), zero_stays answers (with_answer (call, given) part) its.1)
      by (inr other) (inl none) = let zeros : one (is_of process thread call) ≡ 0 = ap one other.0 in inl (omega (arith, zeros, none.0, first_count call given answers), none.1 ∙ ap waits other.1)
      by (inr other) (inr some) = let more = some.0 in inr (omega (arith, more, first_count call given answers), some.1)

-- ---- processes that have ended

-- such a process has no thread
pub ended_nobody : (row : Option Process) (t : ℕ) → has_ended_in row ≡ true → thread_of t row ≡ None
ended_nobody None t is = refl
ended_nobody (Some process) t is = by process.threads is
  where
    by : (threads : List (Option ThreadRow)) → (length threads == 0) ≡ true → row_at threads t ≡ None
    by [] is = refl
    by (row ∷ threads) is = let none = eqb-true (length (row ∷ threads)) 0 is in absurd (omega (arith, none))

-- one that changes and has as many threads has ended as before
pub ended_same : (part : Part) (number : ℕ) (f : Process → Process) → ((process : Process) → length (f process).threads ≡ length process.threads) → (p : ℕ) → has_ended_in (row_at (with_process number f part).processes p) ≡ has_ended_in (row_at part.processes p)
ended_same part number f same p = elim (cases_eq p number) [
  | inl is ↦ ap (λ n. has_ended_in (row_at (with_row part.processes number f) n)) is ∙ (ap has_ended_in (with_row-at part.processes number f) ∙ (by (row_at part.processes number) ∙ ap (λ n. has_ended_in (row_at part.processes n)) (sym is)))
  | inr apart ↦ ap has_ended_in (with_row-other part.processes number f p apart)
]
  where
    by : (row : Option Process) → has_ended_in (option_map f row) ≡ has_ended_in row
    by None = refl
    by (Some process) = ap (λ n. n == 0) (same process)

-- a thread that changes is there still
pub same_threads : (thread : ℕ) (change : ThreadRow → ThreadRow) (f : Process → Process) → ChangesThread thread change f → (process : Process) → length (f process).threads ≡ length process.threads
same_threads thread change f changes process = ap (λ threads. length threads) (changes process) ∙ length-set process.threads thread (option_map change (row_at process.threads thread))

pub ended_answers : (answers : List (WaitingCall × Answer)) (part : Part) (p : ℕ) → has_ended_in (row_at (with_answers answers part).processes p) ≡ has_ended_in (row_at part.processes p)
ended_answers [] part p = refl
ended_answers ((call, given) ∷ answers) part p =
    ended_answers answers (with_answer (call, given) part) p ∙ ended_same part call.process (with_thread call.thread (answered_thread given)) (same_threads call.thread (answered_thread given) (with_thread call.thread (answered_thread given)) (λ process. refl)) p

-- ---- a process comes

ready_all : (threads prio t : ℕ) → waits (row_at (replicate threads (Some (new_thread prio))) t) ≡ 0
ready_all zero prio t = refl
ready_all (suc threads) prio zero = refl
ready_all (suc threads) prio (suc t) = ready_all threads prio t

nobody_new : (threads prio t : ℕ) → waits (thread_of t (Some (new_process threads prio))) ≡ 0
nobody_new threads prio zero = refl
nobody_new threads prio (suc t) = ready_all threads prio t

pub after_spawn : (part : Part) (number threads prio : ℕ) → row_at part.processes number ≡ None → (p t : ℕ) → waits (thread_at (record part { processes = put_row part.processes number (new_process threads prio) }) p t) ≡ waits (thread_at part p t)
after_spawn part number threads prio free p t = elim (row-put part.processes number (new_process threads prio) free p) [
  | inl same ↦ ap (λ row. waits (thread_of t row)) same
  | inr new ↦ ap (λ row. waits (thread_of t row)) new.0 ∙ (nobody_new threads prio t ∙ ap (λ row. waits (thread_of t row)) (sym new.1))
]

-- it has not ended
pub spawn_ended : (part : Part) (number threads prio : ℕ) → row_at part.processes number ≡ None → (p : ℕ) → has_ended_in (row_at (put_row part.processes number (new_process threads prio)) p) ≡ has_ended_in (row_at part.processes p)
spawn_ended part number threads prio free p = elim (row-put part.processes number (new_process threads prio) free p) [
  | inl same ↦ ap has_ended_in same
  | inr new ↦ ap has_ended_in new.0 ∙ (some (replicate threads (Some (new_thread prio))) ∙ ap has_ended_in (sym new.1))
]
  where
    some : (rows : List (Option ThreadRow)) → (length (None ∷ rows) == 0) ≡ false
    some rows = ne_eqb (length (None ∷ rows)) 0 (λ none. omega (arith, none))
