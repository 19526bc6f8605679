-- One change of a pipe after another.
use Rattle.std.proofs.Common.{◌≡◌, ◌<◌, ◌+◌, ◌++◌, inl, inr, ℕ, List, [], Option, Some, None, get_or, length, map, slice_set, unwrap_or, sym, ◌∙◌, ap, append_assoc}
use Rattle.std.specs.Prelude.{IsSome}
use Rattle.std.proofs.lemmas.Bool.{cases_lt}
use Rattle.std.proofs.lemmas.List.{get_or-set_same, get_or_past, map-append, set-set}
use Rattle.qx_types.specs.declared.limits.TheConstants.Limits.{INODES}
use Rattle.qx_machine.specs.declared.rows.WaitingCall.{WaitingCall}
use Rattle.qx_machine.specs.Waiting.{Pipes, no_pipes}
use Rattle.qx_machine.specs.Pipes.{PipeAfter, Pipe, and_then, pipe_of}
use Rattle.qx_isolation.specs.Rows.{row_at}
use Rattle.qx_rows.proofs.RowLemmas.{row_at-get_or}
use Rattle.qx_queues.proofs.TableLemmas.{absent_is}
use Rattle.qx_shared.specs.Shared.{HasPipe, Shared, pipe_at, users_given, with_pipe_after}
use Rattle.qx_shared.proofs.OwnLemmas.{row_at-none}

module _ (all : List Pipes) (user inode : ℕ) (there : IsSome (row_at (get_or all user no_pipes) inode)) where
  user-within : user < length all
  user-within = elim (cases_lt user (length all)) [
    | inl within ↦ within
    | inr past ↦ absurd (absent_is (row_at (get_or all user no_pipes) inode) there (ap (λ (p : Pipes). row_at p inode) (get_or_past all user no_pipes past) ∙ row_at-none (INODES + 1) inode))
  ]

  inode-within : inode < length (get_or all user no_pipes)
  inode-within = elim (cases_lt inode (length (get_or all user no_pipes))) [
    | inl within ↦ within
    | inr past ↦ absurd (absent_is (row_at (get_or all user no_pipes) inode) there (row_at-get_or (get_or all user no_pipes) inode ∙ get_or_past (get_or all user no_pipes) inode None past))
  ]

  abbrev put : Option (Pipe WaitingCall) → List Pipes
  put row = slice_set all user (slice_set (get_or all user no_pipes) inode row)

  got : (row : Option (Pipe WaitingCall)) → get_or (put row) user no_pipes ≡ slice_set (get_or all user no_pipes) inode row
  got row = get_or-set_same all user _ no_pipes user-within

  pub row-put : (row : Option (Pipe WaitingCall)) → row_at (get_or (put row) user no_pipes) inode ≡ row
  row-put row = ap (λ (p : Pipes). row_at p inode) (got row) ∙ row_at-get_or _ inode ∙ get_or-set_same (get_or all user no_pipes) inode row None inode-within

  pub put-twice : (one two : Option (Pipe WaitingCall)) → slice_set (put one) user (slice_set (get_or (put one) user no_pipes) inode two) ≡ put two
  put-twice one two =
      set-set all user _ _
      ∙ ap (λ (p : Pipes). slice_set all user (slice_set p inode two)) (got one)
      ∙ ap (slice_set all user) (set-set (get_or all user no_pipes) inode one two)

module _ (s : Shared) (user inode : ℕ) (there : HasPipe s user inode) (first : PipeAfter WaitingCall) where
  pub pipe_at-after : pipe_at (with_pipe_after s user inode first) user inode ≡ first.pipe
  pipe_at-after = ap (λ o. unwrap_or o (pipe_of None [] [] [])) (row-put s.pipes user inode there (Some first.pipe))

  pub then-after : (next : Pipe WaitingCall → PipeAfter WaitingCall) → with_pipe_after (with_pipe_after s user inode first) user inode (next (pipe_at (with_pipe_after s user inode first) user inode)) ≡ with_pipe_after s user inode (and_then first next)
  then-after next =
      let second = next first.pipe in
      let answered = append_assoc s.answered (map (users_given user) first.answers) (map (users_given user) second.answers) ∙ ap (λ more. s.answered ++ more) (sym (map-append (users_given user) first.answers second.answers)) in
      ap (λ p. with_pipe_after (with_pipe_after s user inode first) user inode (next p)) pipe_at-after
      ∙ (λ i. record s { pipes = put-twice s.pipes user inode there (Some first.pipe) (Some second.pipe) i; answered = answered i })
