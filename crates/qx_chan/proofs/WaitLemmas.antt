-- The calls that wait, as the rows of their threads change.
use Rattle.std.proofs.Common.{◌≡◌, ◌≢◌, inl, inr, ℕ, ◌∷◌, [], ◌||◌, Bool, true, false, List, Option, Some, None, length, ◌==◌, refl, sym, ◌∙◌, ap, arith}
use Rattle.std.proofs.lemmas.Bool.Decides.{eqb_tells}
use Rattle.std.specs.List.{AllByRecursion, list_any}
use Rattle.std.proofs.lemmas.Bool.{or_parts}
use Rattle.qx_types.specs.declared.names.Proc.{Proc}
use Rattle.qx_types.specs.declared.names.Thread.{Thread}
use Rattle.qx_machine.specs.declared.rows.ThreadRow.{ThreadRow}
use Rattle.qx_machine.specs.Parts.{thread_of}
use Rattle.qx_machine.specs.Processes.{Process}
use Rattle.qx_isolation.specs.Rows.{row_at}
use Rattle.qx_queues.specs.Queues.{UsersCall, caller, is_same_thread}
use Rattle.qx_queues.proofs.EntryLemmas.{is_same_thread-differs, is_same_thread-self}
use Rattle.qx_queues.proofs.NodesLemmas.{same_or_not}
use Rattle.qx_chan.specs.inner.Kept.{IsWaiting, may_wait, waits_for}
use Rattle.qx_clients.specs.Calls.{has_ended_in}
use Rattle.qx_chan.specs.Users.{Users, process_of, thread_row}

-- where each thread that waits for a call does so still, and each process that has ended is there still
module _ (old new : Users) (still : (other : Thread) (call : ℕ) → waits_for call (thread_row old other) ≡ true → waits_for call (thread_row new other) ≡ true)
    (ended : (other : Proc) → has_ended_in (process_of old other) ≡ true → has_ended_in (process_of new other) ≡ true) where
  may-all : (gone : Bool) (thread : Thread) (call : ℕ) → may_wait gone thread.tid call (process_of old thread.proc) ≡ true → may_wait gone thread.tid call (process_of new thread.proc) ≡ true
  may-all true thread call is = ended thread.proc is
  may-all false thread call is = still thread call is

  pub waits-all : (calls : List UsersCall) → AllByRecursion (IsWaiting old) calls → AllByRecursion (IsWaiting new) calls
  waits-all [] wait = tt
  waits-all (own ∷ calls) wait = (may-all own.call.is_gone (caller own) own.call.call wait.0, waits-all calls wait.1)

-- what has a place has some
pub some-places : {A : Type 0} (first : A) (rest : List A) → (length (first ∷ rest) == 0) ≡ false
some-places first rest = elim (eqb_tells (length (first ∷ rest)) 0) [
  | inl same ↦ absurd (omega (arith, same.1))
  | inr apart ↦ apart.0
]

-- a process with a thread has not ended
threads-ended : (tid : ℕ) (threads : List (Option ThreadRow)) (row : ThreadRow) → row_at threads tid ≡ Some row → (length threads == 0) ≡ false
threads-ended tid [] row is = let none : None ≡ Some row = is in absurd (cc)
threads-ended tid (first ∷ rest) row is = some-places first rest

pub there-lives : (tid : ℕ) (process : Option Process) (row : ThreadRow) → thread_of tid process ≡ Some row → has_ended_in process ≡ false
there-lives tid None row is = refl
there-lives tid (Some process) row is = threads-ended tid process.threads row is

-- a thread that is there and waits for no call has none among those that wait
module _ (users : Users) (thread : Thread) (row : ThreadRow) (there : thread_row users thread ≡ Some row) (none : (call : ℕ) → waits_for call (thread_row users thread) ≡ false) where
  may-not : (gone : Bool) (call : ℕ) → may_wait gone thread.tid call (process_of users thread.proc) ≡ false
  may-not true call = there-lives thread.tid (process_of users thread.proc) row there
  may-not false call = none call

  pub no-call : (calls : List UsersCall) → AllByRecursion (IsWaiting users) calls → list_any (λ own. is_same_thread (caller own) thread) calls ≡ false
  no-call [] wait = refl
  no-call (own ∷ calls) wait = elim (same_or_not (caller own) thread) [
    | inr differs ↦ ap (λ b. b || list_any (λ own. is_same_thread (caller own) thread) calls) (is_same_thread-differs (caller own) thread differs) ∙ no-call calls wait.1
    | inl same ↦
        let its : may_wait own.call.is_gone thread.tid own.call.call (process_of users thread.proc) ≡ true = ap (λ t. may_wait own.call.is_gone t.tid own.call.call (process_of users t.proc)) (sym same) ∙ wait.0 in
        let clash : false ≡ true = sym (may-not own.call.is_gone own.call.call) ∙ its in
        absurd (cc)
  ]

-- where the rows of all threads but one are as they were, and that one is of none of these
module _ {A : Type 0} (of : A → Thread) (thread : Thread) where
  apart : (x : A) → is_same_thread (of x) thread ≡ false → of x ≢ thread
  apart x other same =
      let here : is_same_thread (of x) thread ≡ true = ap (λ t. is_same_thread t thread) same ∙ is_same_thread-self thread in
      let clash : true ≡ false = sym here ∙ other in
      cc

  pub all-others : (P Q : A → Type 0) → ((x : A) → of x ≢ thread → P x → Q x) → (xs : List A) → list_any (λ x. is_same_thread (of x) thread) xs ≡ false → AllByRecursion P xs → AllByRecursion Q xs
  all-others P Q step [] none wait = tt
  all-others P Q step (x ∷ xs) none wait =
      let first : is_same_thread (of x) thread ≡ false = (or_parts (is_same_thread (of x) thread) (list_any (λ x. is_same_thread (of x) thread) xs) none).0 in
      (step x (apart x first) wait.0, all-others P Q step xs (or_parts (is_same_thread (of x) thread) (list_any (λ x. is_same_thread (of x) thread) xs) none).1 wait.1)

-- a thread that waits for nothing has no call of which that is to be told
pub no-wait : (row after : Option ThreadRow) → ((call : ℕ) → waits_for call row ≡ false) → (call : ℕ) → waits_for call row ≡ true → waits_for call after ≡ true
no-wait row after none call is = let clash : false ≡ true = sym (none call) ∙ is in absurd (cc)
