-- One pipe after one call and then another.
use Rattle.std.proofs.Common.{◌≡◌, ℕ, zero, suc, ◌+◌, List, [], ◌∷◌, ◌++◌, Bool, true, false, not, ◌&&◌, ◌||◌, ◌==◌, map, length, Option, Some, None, is_some, IsSome, unwrap_or, get_or, slice_set, replicate, refl, sym, ap, ap₂, subst, ◌∙◌, append-nil, append_assoc, arith}
use Rattle.std.specs.Prelude.{filter}
use Rattle.std.proofs.lemmas.Bool.{cond_both, false≢true}
use Rattle.std.proofs.lemmas.List.{map-append, set-get_or, set-set}
use Rattle.std.proofs.lemmas.List.Folds.{list_any-append}
use Rattle.qx_base.specs.declared.errno.Errno.{Errno}
use Rattle.qx_base.specs.declared.errno.Errno.TheVariants.{EPIPE}
use Rattle.qx_types.specs.declared.limits.TheConstants.Limits.{INODES}
use Rattle.qx_types.specs.declared.outcome.Answer.{Answer}
use Rattle.qx_types.specs.declared.outcome.Answer.TheVariants.{Failed, Reply}
use Rattle.qx_machine.specs.declared.rows.Sides.{Sides}
use Rattle.qx_machine.specs.declared.rows.WaitingCall.{WaitingCall}
use Rattle.qx_machine.specs.Waiting.{Pipes, is_written, no_pipes}
use Rattle.qx_machine.specs.Pipes.{PipeAfter, Pipe, all_answered, and_then, dismissed, nobody_answered, one_answered, readers_ended, writers_ended}
use Rattle.qx_isolation.specs.Rows.{row_at}
use Rattle.qx_isolation.proofs.Places.{set-row_at}
use Rattle.qx_shared.specs.Shared.{HasPipe, Shared, pipe_at, pipes_of, users_given, went_in, with_pipe_after, with_answer_to}

-- ---- no bytes go in with these answers

or_false : (b : Bool) → (b || false) ≡ b
or_false true = refl
or_false false = refl

and_false : (b : Bool) → (b && false) ≡ false
and_false true = refl
and_false false = refl

module _ (answer : Answer) (none : (bytes : List ℕ) → is_written bytes answer ≡ false) where
  went_in-all : (calls : List WaitingCall) → went_in (map (λ call. (call, answer)) calls) ≡ false
  went_in-all [] = refl
  went_in-all (call ∷ calls) = ap₂ ◌||◌ (none call.bytes) (went_in-all calls)

pub went_in-dismissed : (leaves : WaitingCall → Bool) (error : Errno) (p : Pipe WaitingCall) → went_in (dismissed leaves (Failed error) p).answers ≡ false
went_in-dismissed leaves error p =
    list_any-append (λ answer. is_written answer.0.bytes answer.1) (all_answered leaves (Failed error) p.readers) (all_answered leaves (Failed error) p.writers)
    ∙ ap₂ ◌||◌ (went_in-all (Failed error) (λ _. refl) (filter leaves p.readers)) (went_in-all (Failed error) (λ _. refl) (filter leaves p.writers))

pub went_in-readers_ended : (sides : Sides) (p : Pipe WaitingCall) → went_in (readers_ended sides p).answers ≡ false
went_in-readers_ended sides p = cond_both {A = PipeAfter WaitingCall} sides.for_writing _ _ (λ after. went_in after.answers ≡ false) (λ _. refl) (λ _. went_in-all (Reply 0 []) (λ bytes. and_false (not (length bytes == 0))) (filter (λ _. true) p.readers))

pub went_in-writers_ended : (sides : Sides) (p : Pipe WaitingCall) → went_in (writers_ended sides p).answers ≡ false
went_in-writers_ended sides p = cond_both {A = PipeAfter WaitingCall} sides.for_reading _ _ (λ after. went_in after.answers ≡ false) (λ _. refl) (λ _. went_in-all (Failed EPIPE) (λ _. refl) (filter (λ _. true) p.writers))

-- ---- a pipe among all

no-pipe : (places inode : ℕ) → is_some (row_at (replicate {A = Option (Pipe WaitingCall)} places None) inode) ≡ false
no-pipe zero inode = refl
no-pipe (suc places) zero = refl
no-pipe (suc places) (suc inode) = no-pipe places inode

row_at-set : {A : Type 0} (rows : List (Option A)) (i : ℕ) (row : A) → IsSome (row_at rows i) → row_at (slice_set rows i (Some row)) i ≡ Some row
row_at-set [] i row has = absurd (cc)
row_at-set (first ∷ rows) zero row has = refl
row_at-set (first ∷ rows) (suc i) row has = row_at-set rows i row has

the-row : {A : Type 0} (d : A) (row : Option A) → IsSome row → Some (unwrap_or row d) ≡ row
the-row d None has = absurd (cc)
the-row d (Some row) has = refl

-- a user who has a pipe is one of all
module _ (inode : ℕ) where
  pub get_or-set : (all : List Pipes) (user : ℕ) (pipes : Pipes) → IsSome (row_at (get_or all user no_pipes) inode) → get_or (slice_set all user pipes) user no_pipes ≡ pipes
  get_or-set [] user pipes has = absurd (false≢true (sym (no-pipe (INODES + 1) inode) ∙ has))
  get_or-set (first ∷ all) zero pipes has = refl
  get_or-set (first ∷ all) (suc user) pipes has = get_or-set all user pipes has

module _ (all : List Pipes) (user inode : ℕ) (has : IsSome (row_at (get_or all user no_pipes) inode)) where
  abbrev with_row : Pipe WaitingCall → List Pipes
  with_row p = slice_set all user (slice_set (get_or all user no_pipes) inode (Some p))

  pub row_at-with_row : (p : Pipe WaitingCall) → row_at (get_or (with_row p) user no_pipes) inode ≡ Some p
  row_at-with_row p = ap (λ pipes. row_at pipes inode) (get_or-set inode all user _ has) ∙ row_at-set (get_or all user no_pipes) inode p has

  pub with_row-twice : (p q : Pipe WaitingCall) → slice_set (with_row p) user (slice_set (get_or (with_row p) user no_pipes) inode (Some q)) ≡ with_row q
  with_row-twice p q =
      set-set all user _ _
      ∙ ap (slice_set all user) (ap (λ pipes. slice_set pipes inode (Some q)) (get_or-set inode all user _ has) ∙ set-set (get_or all user no_pipes) inode _ _)

-- ---- one pipe, after calls on it

module _ (c : Shared) (user inode : ℕ) (has : HasPipe c user inode) where
  pub with_after-nobody : with_pipe_after c user inode (nobody_answered (pipe_at c user inode)) ≡ c
  with_after-nobody =
      let pipes : slice_set c.pipes user (slice_set (pipes_of c user) inode (Some (pipe_at c user inode))) ≡ c.pipes =
      ap (λ row. slice_set c.pipes user (slice_set (pipes_of c user) inode row)) (the-row _ (row_at (pipes_of c user) inode) has)
      ∙ ap (slice_set c.pipes user) (set-row_at (pipes_of c user) inode) ∙ set-get_or c.pipes user no_pipes in
      λ i. record c { pipes = pipes i; answered = append-nil c.answered i }

  -- nothing was done to it
  module _ (after : PipeAfter WaitingCall) (is : after ≡ nobody_answered (pipe_at c user inode)) where
    pub nothing-done : c ≡ with_pipe_after c user inode after
    nothing-done = sym (ap (with_pipe_after c user inode) is ∙ with_after-nobody)

    pub nothing-went : false ≡ went_in after.answers
    nothing-went = sym (ap (λ a. went_in a.answers) is)

  -- a call that is answered alone leaves the pipe
  pub with_answer_to-after : (call : WaitingCall) (answer : Answer) → with_answer_to c user call answer ≡ with_pipe_after c user inode (one_answered call answer (pipe_at c user inode))
  with_answer_to-after call answer = λ i. record c { pipes = (sym with_after-nobody i).pipes; answered = c.answered ++ users_given user (call, answer) ∷ [] }

  -- a call is answered, once other bytes stand
  pub answered-after : (p : Pipe WaitingCall) (call : WaitingCall) (answer : Answer) → with_answer_to (with_pipe_after c user inode (nobody_answered p)) user call answer ≡ with_pipe_after c user inode (one_answered call answer p)
  answered-after p call answer = λ i. record (with_pipe_after c user inode (nobody_answered p)) { answered = append-nil c.answered i ++ users_given user (call, answer) ∷ [] }

  -- the same bytes stand
  pub same-bytes : (now : Shared) (bytes : List ℕ) → now ≡ with_pipe_after c user inode (nobody_answered (record (pipe_at c user inode) { bytes = bytes })) → bytes ≡ (pipe_at c user inode).bytes → now ≡ c
  same-bytes now bytes is same = is ∙ ap (λ bytes. with_pipe_after c user inode (nobody_answered (record (pipe_at c user inode) { bytes = bytes }))) same ∙ with_after-nobody

-- what follows a call is done with the pipe as it is then
pub ruleset steps = (row_at-with_row, with_row-twice, with_after-nobody, with_answer_to-after, map-append, append_assoc, list_any-append)

-- what was done to a pipe, from here to there, and whether bytes went in
pub record Done (c now : Shared) (user inode : ℕ) (after : PipeAfter WaitingCall) (more : Bool) : Type 0 where
  pub had : HasPipe c user inode
  pub is : now ≡ with_pipe_after c user inode after
  pub went : more ≡ went_in after.answers

pub done-nothing : (c : Shared) (user inode : ℕ) → HasPipe c user inode → Done c c user inode (nobody_answered (pipe_at c user inode)) false
done-nothing c user inode has = record { had = has; is = sym (with_after-nobody c user inode has); went = refl }

module _ {c mid : Shared} {user inode : ℕ} {first : PipeAfter WaitingCall} {before : Bool} (done : Done c mid user inode first before) (next : Pipe WaitingCall → PipeAfter WaitingCall) {new : Shared} (is : new ≡ with_pipe_after mid user inode (next (pipe_at mid user inode))) where
  pub done-then : {more : Bool} → more ≡ went_in (next (pipe_at mid user inode)).answers → Done c new user inode (and_then first next) (before || more)
  done-then written = record { had = done.had; is = grind (arith, steps); went = grind (arith, steps) }

  pub done-quietly : ((p : Pipe WaitingCall) → went_in (next p).answers ≡ false) → Done c new user inode (and_then first next) before
  done-quietly quiet = subst (Done c new user inode (and_then first next)) (or_false before) (done-then (sym (quiet (pipe_at mid user inode))))
