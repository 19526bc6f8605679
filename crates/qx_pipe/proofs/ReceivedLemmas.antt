-- A call that was received is received still once others were answered.
use Rattle.std.proofs.Common.{◌≡◌, inl, inr, ℕ, zero, suc, ◌+◌, ◌≤◌, Bool, true, false, ltb, ◌||◌, List, [], ◌∷◌, ◌++◌, Some, None, IsSome, map, slice_set, unwrap_or, refl, sym, ap, ap₂, subst, ◌∙◌, arith}
use Rattle.std.specs.Prelude.{cond, not}
use Rattle.std.specs.List.{count_by, list_any}
use Rattle.std.proofs.lemmas.Bool.{cases_eq}
use Rattle.std.proofs.lemmas.Bool.Decides.{nat_tests}
use Rattle.std.proofs.lemmas.List.{get_or-set_other}
use Rattle.std.proofs.lemmas.List.Filters.{sum_by-filter_both}
use Rattle.std.proofs.lemmas.List.Folds.{list_any-append}
use Rattle.std.proofs.lemmas.List.Sums.{sum_by-append, sum_by-cons}
use Rattle.qx_types.specs.declared.names.Thread.{Thread}
use Rattle.qx_machine.specs.declared.rows.WaitingCall.{WaitingCall}
use Rattle.qx_machine.specs.Waiting.{Pipes, is_gone, no_pipes, offered, wanted}
use Rattle.qx_machine.specs.Pipes.{PipeAfter, Pipe, clean, nobody_answered, pipe_of, removed}
use Rattle.qx_isolation.specs.Rows.{row_at}
use Rattle.qx_queues.specs.Queues.{caller, has_call, is_same_thread}
use Rattle.qx_queues.specs.Waits.{users_call}
use Rattle.qx_shared.specs.Shared.{HasNoCall, HasPipe, IsCallReceived, Shared, calls_at, pipe_at, pipes_of, users_given, waiting_calls, with_pipe_after}
use Rattle.qx_pipe.specs.Laws.{answers_to, waiting_of}
use Rattle.qx_pipe.proofs.AfterLemmas.{get_or-set}
use Rattle.qx_pipe.proofs.LawLemmas.{counted-settle}

-- none among them, by a test and by a count
module _ {A B : Type 0} (f : A → B) (test : B → Bool) where
  any-first : (b : Bool) (n : ℕ) → (b || ltb 0 n) ≡ ltb 0 (cond b 1 0 + n)
  any-first true n = grind (arith, nat_tests)
  any-first false n = ap (ltb 0) (omega arith)

  any-count : (xs : List A) → list_any test (map f xs) ≡ ltb 0 (count_by (λ x. test (f x)) xs)
  any-count [] = refl
  any-count (x ∷ xs) = ap (λ b. test (f x) || b) (any-count xs) ∙ any-first (test (f x)) (count_by (λ x. test (f x)) xs) ∙ sym (ap (ltb 0) (sum_by-cons (λ x. cond (test (f x)) 1 0) x xs))

  none-count : (xs : List A) → list_any test (map f xs) ≡ false → count_by (λ x. test (f x)) xs ≡ 0
  none-count xs none = let zero : ltb 0 (count_by (λ x. test (f x)) xs) ≡ false = sym (any-count xs) ∙ none in grind (arith, nat_tests)

  count-none : (xs : List A) → count_by (λ x. test (f x)) xs ≡ 0 → list_any test (map f xs) ≡ false
  count-none xs none = any-count xs ∙ ap (ltb 0) none

-- such as wait in the pipes of a user, as one pipe changes
module _ (which : WaitingCall → Bool) where
  waiting-append : (xs ys : List WaitingCall) → count_by which (xs ++ ys) ≡ count_by which xs + count_by which ys
  waiting-append xs ys = sum_by-append (λ call. cond (which call) 1 0) xs ys

  waiting-with_pipe : (pipes : Pipes) (inode : ℕ) (new d : Pipe WaitingCall) → IsSome (row_at pipes inode)
      → count_by which (waiting_calls (slice_set pipes inode (Some new))) + waiting_of which (unwrap_or (row_at pipes inode) d) ≡ count_by which (waiting_calls pipes) + waiting_of which new
  waiting-with_pipe [] inode new d has = absurd (cc)
  waiting-with_pipe (None ∷ pipes) zero new d has = absurd (cc)
  waiting-with_pipe (Some old ∷ pipes) zero new d has =
      omega (arith, waiting-append (new.readers ++ new.writers) (waiting_calls pipes), waiting-append new.readers new.writers, waiting-append (old.readers ++ old.writers) (waiting_calls pipes), waiting-append old.readers old.writers)
  waiting-with_pipe (row ∷ pipes) (suc inode) new d has =
      omega (arith, waiting-with_pipe pipes inode new d has, waiting-append (calls_at row) (waiting_calls pipes), waiting-append (calls_at row) (waiting_calls (slice_set pipes inode (Some new))))

-- others are answered or leave, and nobody new waits
record Lessens (p : Pipe WaitingCall) (after : PipeAfter WaitingCall) : Type 0 where
  lessens : (which : WaitingCall → Bool) → answers_to which after.answers + waiting_of which after.pipe ≤ waiting_of which p

module _ (c : Shared) (user inode : ℕ) (has : HasPipe c user inode) (after : PipeAfter WaitingCall) (less : Lessens (pipe_at c user inode) after) where
  module _ (thread : Thread) (none : HasNoCall c thread) where
    abbrev is_own : WaitingCall → Bool
    is_own call = is_same_thread (caller (users_call user call)) thread

    none-waits_in : count_by is_own (waiting_calls (pipes_of c user)) ≡ 0
    none-waits_in = none-count (users_call user) (λ own. is_same_thread (caller own) thread) (waiting_calls (pipes_of c user)) (none.waiting user)

    none-waits_at : waiting_of is_own (pipe_at c user inode) ≡ 0
    none-waits_at = omega (arith, none-waits_in, waiting-with_pipe is_own (pipes_of c user) inode (pipe_of None [] [] []) (pipe_of None [] [] []) has)

    none-waits_after : count_by is_own (waiting_calls (slice_set (pipes_of c user) inode (Some after.pipe))) ≡ 0
    none-waits_after = omega (arith, none-waits_in, none-waits_at, less.lessens is_own, waiting-with_pipe is_own (pipes_of c user) inode after.pipe (pipe_of None [] [] []) has)

    no_call-after : HasNoCall (with_pipe_after c user inode after) thread
    no_call-after = record {
      waiting = λ other. elim (cases_eq other user) [
        | inl same ↦ rw same (ap (λ pipes. has_call (map (users_call user) (waiting_calls pipes)) thread) (get_or-set inode c.pipes user _ has) ∙ count-none (users_call user) (λ own. is_same_thread (caller own) thread) _ none-waits_after)
        | inr differs ↦ ap (λ pipes. has_call (map (users_call other) (waiting_calls pipes)) thread) (get_or-set_other c.pipes user other _ no_pipes differs) ∙ none.waiting other
      ];
      answered =
          list_any-append (λ given. is_same_thread given.thread thread) c.answered (map (users_given user) after.answers)
          ∙ ap₂ ◌||◌ none.answered (count-none (users_given user) (λ given. is_same_thread given.thread thread) after.answers (omega (arith, none-waits_at, less.lessens is_own)));
    }

  received-after : (call : WaitingCall) → IsCallReceived c user call → IsCallReceived (with_pipe_after c user inode after) user call
  received-after call received = record { own = received.own; idle = received.idle; no_call = no_call-after (caller (users_call user call)) received.no_call }

module _ (c now : Shared) (user inode : ℕ) (has : HasPipe c user inode) (is : now ≡ with_pipe_after c user inode (clean wanted offered is_gone (pipe_at c user inode))) where
  clean-lessens : Lessens (pipe_at c user inode) (clean wanted offered is_gone (pipe_at c user inode))
  clean-lessens = record {
    lessens = λ which.
        let stay = λ (all : List WaitingCall). sum_by-filter_both is_gone (λ call. not (is_gone call)) (λ call. refl) (λ call. cond (which call) 1 0) all in
        omega (arith, (counted-settle which wanted offered (removed is_gone (pipe_at c user inode))).counted, stay (pipe_at c user inode).readers, stay (pipe_at c user inode).writers);
  }

  pub received-clean : (call : WaitingCall) → IsCallReceived c user call → IsCallReceived now user call
  received-clean call received = subst (λ shared. IsCallReceived shared user call) (sym is) (received-after c user inode has _ clean-lessens call received)

-- other bytes stand
module _ (c now : Shared) (user inode : ℕ) (has : HasPipe c user inode) (bytes : List ℕ) (is : now ≡ with_pipe_after c user inode (nobody_answered (record (pipe_at c user inode) { bytes = bytes }))) where
  pub received-bytes : (call : WaitingCall) → IsCallReceived c user call → IsCallReceived now user call
  received-bytes call received = subst (λ shared. IsCallReceived shared user call) (sym is) (received-after c user inode has (nobody_answered (record (pipe_at c user inode) { bytes = bytes })) (record { lessens = λ which. omega arith }) call received)
