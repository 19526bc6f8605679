-- Whose calls wait, in the lists of the queues and in the pipes of a user.
use Rattle.std.proofs.Common.{◌≡◌, ◌⊎◌, ◌==◌, ◌&&◌, inl, inr, ℕ, zero, suc, ◌||◌, Bool, true, false, List, [], ◌∷◌, ◌++◌, Option, Some, None, IfNone, IfSome, is_some, map, option_map, unwrap_or, refl, sym, ◌∙◌, ap, ap₂}
use Rattle.std.specs.FinMap as maps
use Rattle.std.specs.List.{list_any}
use Rattle.std.proofs.lemmas.Bool.{cases_Bool, or_parts, and_parts}
use Rattle.std.proofs.lemmas.Bool.Decides.{eqb_tells}
use Rattle.std.proofs.lemmas.List.Folds.{list_any-append}
use Rattle.qx_types.specs.declared.names.Proc.{Proc}
use Rattle.qx_types.specs.declared.names.Thread.{Thread}
use Rattle.qx_machine.specs.declared.rows.WaitingCall.{WaitingCall}
use Rattle.qx_machine.specs.Settling.{has_waiting}
use Rattle.qx_machine.specs.Waiting.{Pipes, holds, is_call, is_of_process}
use Rattle.qx_machine.specs.Pipes.{Pipe}
use Rattle.qx_isolation.specs.Rows.{row_at}
use Rattle.qx_queues.proofs.TableLemmas.{none_some}
use Rattle.qx_queues.specs.Queues as queues
use Rattle.qx_queues.specs.Queues.{Queues, UsersCall, caller, has_call, has_call_of, is_same_proc, is_same_thread, waiting_in_list}
use Rattle.qx_queues.specs.Waits.{is_users_call, users_call}
use Rattle.qx_shared.specs.inner.Own.{AreAllPipes, AreUsers, calls_of, shown_pipe, shown_shared}
use Rattle.qx_shared.specs.inner.Row.{Place, Rows, list_of_place, list_on, place, row_of}
use Rattle.qx_shared.specs.Row.{PipeRow}
use Rattle.qx_shared.specs.Shared.{HasNoCall, IsReceived, Shared, calls_at, pipes_of, waiting_calls, waiting_on}
use Rattle.qx_shared.specs.Shared as shared
use Rattle.qx_shared.specs.declared.side.Side.{Side}
use Rattle.qx_shared.specs.declared.side.Side.TheVariants.{Reading, Writing}
use Rattle.qx_shared.proofs.OwnLemmas.{mapped-there, row_of-told}

-- of those in one list or another
any_both : {A : Type 0} (which : A → Bool) (xs ys : List A) → list_any which (xs ++ ys) ≡ false → (list_any which xs ≡ false) × (list_any which ys ≡ false)
any_both which xs ys none = or_parts (list_any which xs) (list_any which ys) (sym (list_any-append which xs ys) ∙ none)

pub list_any-mapped : {A B : Type 0} (f : A → B) (which : B → Bool) (xs : List A) → list_any which (map f xs) ≡ list_any (λ x. which (f x)) xs
list_any-mapped f which [] = refl
list_any-mapped f which (x ∷ xs) = ap (λ b. which (f x) || b) (list_any-mapped f which xs)

pub waiting_on-in : (c : Queues) (side : Side) (row : PipeRow) → waiting_on side (shown_pipe c row) ≡ calls_of c (list_on side row)
waiting_on-in c Reading row = refl
waiting_on-in c Writing row = refl

-- a user's pipes, side by side
module _ (which : WaitingCall → Bool) where
  none-at : (pipes : Pipes) → list_any which (waiting_calls pipes) ≡ false → (inode : ℕ) (side : Side) (pipe : Pipe WaitingCall) → row_at pipes inode ≡ Some pipe → list_any which (waiting_on side pipe) ≡ false
  none-at [] none inode side pipe is = absurd (none_some pipe None refl is)
  none-at (first ∷ pipes) none (suc inode) side pipe is = none-at pipes (any_both which (calls_at first) (waiting_calls pipes) none).1 inode side pipe is
  none-at (first ∷ pipes) none zero side pipe is = on side
    where
      both : (list_any which pipe.readers ≡ false) × (list_any which pipe.writers ≡ false)
      both = any_both which pipe.readers pipe.writers (ap (λ o. list_any which (calls_at o)) (sym is) ∙ (any_both which (calls_at first) (waiting_calls pipes) none).0)

      on : (side : Side) → list_any which (waiting_on side pipe) ≡ false
      on Reading = both.0
      on Writing = both.1

  none-waits : (pipes : Pipes) → ((inode : ℕ) (side : Side) (pipe : Pipe WaitingCall) → row_at pipes inode ≡ Some pipe → list_any which (waiting_on side pipe) ≡ false) → list_any which (waiting_calls pipes) ≡ false
  none-waits [] none = refl
  none-waits (None ∷ pipes) none = none-waits pipes (λ inode. none (suc inode))
  none-waits (Some pipe ∷ pipes) none =
      list_any-append which (pipe.readers ++ pipe.writers) (waiting_calls pipes)
      ∙ ap₂ (λ a b. a || b)
      (list_any-append which pipe.readers pipe.writers ∙ ap₂ (λ a b. a || b) (none 0 Reading pipe refl) (none 0 Writing pipe refl))
      (none-waits pipes (λ inode. none (suc inode)))

absent_in : (c : Queues) (list : ℕ) → is_some (maps.get c.pipes list) ≡ false → waiting_in_list c list ≡ []
absent_in c list is = of (maps.get c.pipes list) is
  where
    of : (o : Option (List UsersCall)) → is_some o ≡ false → unwrap_or o [] ≡ []
    of None is = refl
    of (Some all) is = absurd (cc)

-- by whose pipe a call waits that passes a test
module _ (c : Queues) (all : List Rows) (are : AreAllPipes c all) (which : UsersCall → Bool) where
  abbrev of_user : ℕ → WaitingCall → Bool
  of_user user call = which (users_call user call)

  in_list : (p : Place) (list : ℕ) (row : PipeRow) → row_of all p.user p.inode ≡ Some row → list_on p.side row ≡ list → list_any which (waiting_in_list c list) ≡ list_any (of_user p.user) (waiting_on p.side (shown_pipe c row))
  in_list p list row is of =
      ap (list_any which) (are.users p list (ap (option_map (list_on p.side)) is ∙ ap Some of))
      ∙ list_any-mapped (users_call p.user) which (calls_of c list)
      ∙ ap (list_any (of_user p.user)) (ap (calls_of c) (sym of) ∙ sym (waiting_on-in c p.side row))

  pub in_pipes : (user : ℕ) → list_any which (shared.waiting_in (shown_shared c all) user) ≡ list_any (of_user user) (waiting_calls (pipes_of (shown_shared c all) user))
  in_pipes user = list_any-mapped (users_call user) which (waiting_calls (pipes_of (shown_shared c all) user))

  pub lists-none : ((user : ℕ) → list_any which (shared.waiting_in (shown_shared c all) user) ≡ false) → (list : ℕ) → list_any which (waiting_in_list c list) ≡ false
  lists-none none list = elim (cases_Bool (is_some (maps.get c.pipes list))) [
    | inr absent ↦ rw (absent_in c list absent) refl
    | inl there ↦
        let own = are.owned list there in
        let row = mapped-there (list_on own.0.side) (row_of all own.0.user own.0.inode) list own.1 in
        in_list own.0 list row.0 row.1 row.2
        ∙ none-at (of_user own.0.user) (pipes_of (shown_shared c all) own.0.user) (sym (in_pipes own.0.user) ∙ none own.0.user) own.0.inode own.0.side (shown_pipe c row.0) (row_of-told c all own.0.user own.0.inode ∙ ap (option_map (shown_pipe c)) row.1)
  ]

  -- and the other way
  pub pipes-none : ((list : ℕ) → list_any which (waiting_in_list c list) ≡ false) → (user : ℕ) → list_any which (shared.waiting_in (shown_shared c all) user) ≡ false
  pipes-none none user = in_pipes user ∙ none-waits (of_user user) (pipes_of (shown_shared c all) user) (λ inode side pipe is.
      let row = mapped-there (shown_pipe c) (row_of all user inode) pipe (sym (row_of-told c all user inode) ∙ is) in
      ap (λ p. list_any (of_user user) (waiting_on side p)) (sym row.2)
      ∙ sym (in_list (place user inode side) (list_on side row.0) row.0 row.1 refl)
      ∙ none (list_on side row.0))

module _ (c : Queues) (all : List Rows) (are : AreAllPipes c all) (thread : Thread) where
  abbrev is_threads : UsersCall → Bool
  is_threads own = is_same_thread (caller own) thread

  pub received : IsReceived (shown_shared c all) thread → queues.IsMessageReceived c thread
  received is = record { own = is.own; idle = is.idle; no_call = record { waiting = lists-none c all are is_threads is.no_call.waiting; answered = is.no_call.answered } }

  pub no_call : HasNoCall (shown_shared c all) thread → queues.HasNoListedCall c thread
  no_call is = record { waiting = lists-none c all are is_threads is.waiting; answered = is.answered }

  -- and the other way
  pub no_call-told : queues.HasNoListedCall c thread → HasNoCall (shown_shared c all) thread
  no_call-told is = record { waiting = pipes-none c all are is_threads is.waiting; answered = is.answered }

pub no_call-taken : (c : Queues) (all : List Rows) (are : AreAllPipes c all) {A : Type 0} (thread_in : A → Thread) (o : Option A) → IfSome o (λ taken. queues.HasNoListedCall c (thread_in taken)) → IfSome o (λ taken. HasNoCall (shown_shared c all) (thread_in taken))
no_call-taken c all are thread_in None is = tt
no_call-taken c all are thread_in (Some taken) is = no_call-told c all are (thread_in taken) is

-- ---- whether a call of a process waits

same_number : (n : ℕ) → (n == n) ≡ true
same_number n = elim (eqb_tells n n) [ inl same ↦ same.0 | inr differs ↦ absurd (differs.1 refl) ]

holds-any : (which : WaitingCall → Bool) (pipes : Pipes) → list_any (holds which) pipes ≡ list_any which (waiting_calls pipes)
holds-any which [] = refl
holds-any which (None ∷ pipes) = holds-any which pipes
holds-any which (Some pipe ∷ pipes) =
    ap₂ (λ a b. a || b) (sym (list_any-append which pipe.readers pipe.writers)) (holds-any which pipes)
    ∙ sym (list_any-append which (pipe.readers ++ pipe.writers) (waiting_calls pipes))

any-none : {A : Type 0} (xs : List A) → list_any (λ x. false) xs ≡ false
any-none [] = refl
any-none (x ∷ xs) = any-none xs

module _ (c : Queues) (all : List Rows) (are : AreAllPipes c all) (proc : Proc) where
  abbrev is_procs : UsersCall → Bool
  is_procs own = is_same_proc (caller own).proc proc

  abbrev waits : Bool
  waits = has_waiting (pipes_of (shown_shared c all) proc.user.0) proc.num

  of_user-any : (user : ℕ) → list_any is_procs (shared.waiting_in (shown_shared c all) user) ≡ ((user == proc.user.0) && list_any (is_of_process proc.num) (waiting_calls (pipes_of (shown_shared c all) user)))
  of_user-any user = in_pipes c all are is_procs user ∙ of (user == proc.user.0)
    where
      of : (b : Bool) → list_any (λ call. b && is_of_process proc.num call) (waiting_calls (pipes_of (shown_shared c all) user)) ≡ (b && list_any (is_of_process proc.num) (waiting_calls (pipes_of (shown_shared c all) user)))
      of true = refl
      of false = any-none (waiting_calls (pipes_of (shown_shared c all) user))

  process-none : waits ≡ false → (list : ℕ) → has_call_of (waiting_in_list c list) proc ≡ false
  process-none none = lists-none c all are is_procs (λ user. of_user-any user ∙ elim (eqb_tells user proc.user.0) [
    | inr differs ↦ rw differs.0 refl
    | inl same ↦ rw same.0 (ap (λ u. list_any (is_of_process proc.num) (waiting_calls (pipes_of (shown_shared c all) u))) same.1 ∙ sym (holds-any (is_of_process proc.num) (pipes_of (shown_shared c all) proc.user.0)) ∙ none)
  ])

  process-waits : ((list : ℕ) → has_call_of (waiting_in_list c list) proc ≡ false) → waits ≡ false
  process-waits none =
      holds-any (is_of_process proc.num) (pipes_of (shown_shared c all) proc.user.0)
      ∙ sym (of_user-any proc.user.0 ∙ ap (λ b. b && list_any (is_of_process proc.num) (waiting_calls (pipes_of (shown_shared c all) proc.user.0))) (same_number proc.user.0))
      ∙ pipes-none c all are is_procs none proc.user.0

  pub waits-is : (b : Bool) → (b ≡ false → (list : ℕ) → has_call_of (waiting_in_list c list) proc ≡ false) → (((list : ℕ) → has_call_of (waiting_in_list c list) proc ≡ false) → b ≡ false) → b ≡ waits
  waits-is false none all_none = sym (process-waits (none refl))
  waits-is true none all_none = elim (cases_Bool waits) [
    | inl is ↦ sym is
    | inr not ↦ let clash : true ≡ false = all_none (process-none not) in absurd (cc)
  ]

  -- and each thread of it has no call then
  pub threads-none : waits ≡ false → c.answered ≡ [] → (thread : ℕ) → queues.HasNoListedCall c (record { proc = proc; tid = thread })
  threads-none none unanswered thread = record { waiting = λ list. of_process (waiting_in_list c list) (process-none none list); answered = rw unanswered refl }
    where
      one : (process thread more calls : Bool) → (process || more) ≡ false → (more ≡ false → calls ≡ false) → ((process && thread) || calls) ≡ false
      one false thread more calls none rest = rest none
      one true thread more calls none rest = absurd (cc)

      of_process : (calls : List UsersCall) → has_call_of calls proc ≡ false → has_call calls (record { proc = proc; tid = thread }) ≡ false
      of_process [] none = refl
      of_process (own ∷ calls) none = one (is_procs own) (own.call.thread == thread) (has_call_of calls proc) _ none (of_process calls)

-- ---- in which pipe a call waits

or_true : (a b : Bool) → (a || b) ≡ true → (a ≡ true) ⊎ (b ≡ true)
or_true true b is = inl refl
or_true false b is = inr is

any-implies : {A : Type 0} (p q : A → Bool) → ((x : A) → p x ≡ true → q x ≡ true) → (xs : List A) → list_any p xs ≡ true → list_any q xs ≡ true
any-implies p q implies [] is = absurd (cc)
any-implies p q implies (x ∷ xs) is = elim (or_true (p x) (list_any p xs) is) [
  | inl here ↦ ap (λ b. b || list_any q xs) (implies x here)
  | inr rest ↦ ap (λ b. q x || b) (any-implies p q implies xs rest) ∙ or_right (q x)
]
  where
    or_right : (a : Bool) → (a || true) ≡ true
    or_right true = refl
    or_right false = refl

module _ (c : Queues) (all : List Rows) (user inode : ℕ) (which : WaitingCall → Bool) where
  -- whether one of those waits there
  abbrev pub held : Bool
  held = holds which (row_at (pipes_of (shown_shared c all) user) inode)

  pub holds-none : row_of all user inode ≡ None → held ≡ false
  holds-none none = ap (holds which) (row_of-told c all user inode ∙ ap (option_map (shown_pipe c)) none)

  pub holds-told : (row : PipeRow) → row_of all user inode ≡ Some row → held ≡ (list_any (λ own. which own.call) (waiting_in_list c row.readers) || list_any (λ own. which own.call) (waiting_in_list c row.writers))
  holds-told row is =
      ap (holds which) (row_of-told c all user inode ∙ ap (option_map (shown_pipe c)) is)
      ∙ ap₂ (λ a b. a || b) (list_any-mapped (λ own. own.call) which (waiting_in_list c row.readers)) (list_any-mapped (λ own. own.call) which (waiting_in_list c row.writers))

module _ (c : Queues) (all : List Rows) (are : AreAllPipes c all) (thread : Thread) (call : ℕ) where
  abbrev is_that : WaitingCall → Bool
  is_that = is_call thread.proc.num thread.tid call

  abbrev of_thread : UsersCall → Bool
  of_thread = is_users_call thread call

  abbrev holds_it : ℕ → Bool
  holds_it inode = held c all thread.proc.user.0 inode is_that

  that-is : (own : WaitingCall) → is_that own ≡ true → of_thread (users_call thread.proc.user.0 own) ≡ true
  that-is own is = by (own.process == thread.proc.num) (own.thread == thread.tid) (own.call == call) (thread.proc.user.0 == thread.proc.user.0) (same_number thread.proc.user.0) is
    where
      by : (a b c user : Bool) → user ≡ true → (a && b && c) ≡ true → ((user && a && b) && c) ≡ true
      by true true c user same is = rw same is
      by true false c user same is = absurd (cc)
      by false b c user same is = absurd (cc)

  in-list : (list : ℕ) → AreUsers c thread.proc.user.0 list → list_any (λ own. is_that own.call) (waiting_in_list c list) ≡ true → list_any of_thread (waiting_in_list c list) ≡ true
  in-list list users is =
      ap (list_any of_thread) users
      ∙ list_any-mapped (users_call thread.proc.user.0) of_thread (calls_of c list)
      ∙ any-implies is_that (λ own. of_thread (users_call thread.proc.user.0 own)) that-is (calls_of c list) (list_any-mapped (λ own. own.call) is_that (waiting_in_list c list) ∙ is)

  -- on which side, and in which list
  holds-place : (inode : ℕ) → holds_it inode ≡ true → (side : Side) × (list : ℕ) × (list_of_place all (place thread.proc.user.0 inode side) ≡ Some list) × (list_any of_thread (waiting_in_list c list) ≡ true)
  holds-place inode is = of (row_of all thread.proc.user.0 inode) refl
    where
      of : (o : Option PipeRow) → row_of all thread.proc.user.0 inode ≡ o → (side : Side) × (list : ℕ) × (list_of_place all (place thread.proc.user.0 inode side) ≡ Some list) × (list_any of_thread (waiting_in_list c list) ≡ true)
      of None none = let clash : false ≡ true = sym (holds-none c all thread.proc.user.0 inode is_that none) ∙ is in absurd (cc)
      of (Some row) there =
          let reading : list_of_place all (place thread.proc.user.0 inode Reading) ≡ Some row.readers = ap (option_map (list_on Reading)) there in
          let writing : list_of_place all (place thread.proc.user.0 inode Writing) ≡ Some row.writers = ap (option_map (list_on Writing)) there in
          elim (or_true (list_any (λ own. is_that own.call) (waiting_in_list c row.readers)) (list_any (λ own. is_that own.call) (waiting_in_list c row.writers)) (sym (holds-told c all thread.proc.user.0 inode is_that row there) ∙ is)) [
            | inl reads ↦ (Reading, row.readers, reading, in-list row.readers (are.users (place thread.proc.user.0 inode Reading) row.readers reading) reads)
            | inr writes ↦ (Writing, row.writers, writing, in-list row.writers (are.users (place thread.proc.user.0 inode Writing) row.writers writing) writes)
          ]

  -- in no other
  pub holds-once : ((other : Thread) (one two : ℕ) → has_call (waiting_in_list c one) other ≡ true → has_call (waiting_in_list c two) other ≡ true → one ≡ two) → (inode : ℕ) → holds_it inode ≡ true → (other : ℕ) → holds_it other ≡ true → other ≡ inode
  holds-once once inode is other also =
      let here = holds-place inode is in
      let there = holds-place other also in
      let has : (list : ℕ) → list_any of_thread (waiting_in_list c list) ≡ true → has_call (waiting_in_list c list) thread ≡ true = λ list. any-implies of_thread (λ own. is_same_thread (caller own) thread) (λ own both. (and_parts (is_same_thread (caller own) thread) (own.call.call == call) both).0) (waiting_in_list c list) in
      let same : there.1 ≡ here.1 = once thread there.1 here.1 (has there.1 there.3) (has here.1 here.3) in
      ap (λ p. p.inode) (are.apart (place thread.proc.user.0 other there.0) (place thread.proc.user.0 inode here.0) here.1 (there.2 ∙ ap Some same) here.2)

  -- in none
  pub holds-nowhere : {A : Type 0} (o : Option A) → IfNone o ((list : ℕ) → list_any of_thread (waiting_in_list c list) ≡ false) → IfNone o ((inode : ℕ) → holds_it inode ≡ false)
  holds-nowhere (Some found) none = tt
  holds-nowhere None none = λ inode. elim (cases_Bool (holds_it inode)) [
    | inr not ↦ not
    | inl is ↦ let place = holds-place inode is in let clash : false ≡ true = sym (none place.1) ∙ place.3 in absurd (cc)
  ]
