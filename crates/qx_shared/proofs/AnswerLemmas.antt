-- What a device told, as the answer to a call and as the bytes that stand in the row then.
use Rattle.std.proofs.Common.{◌≡◌, ℕ, List, [], ◌∷◌, Option, Some, None, IsSome, map, get_or, option_map, slice_set, refl, sym, ◌∙◌, ap}
use Rattle.std.specs.Prelude.{IfSome, drop, take, slice_get}
use Rattle.std.proofs.lemmas.Option.{same_Some}
use Rattle.qx_base.specs.declared.errno.Errno.{Errno}
use Rattle.qx_base.specs.Verdict.{Left, Verdict, Waits, Gives, Fails, left_by}
use Rattle.qx_base.specs.declared.device.Told.TheVariants as told
use Rattle.qx_devices.specs.declared.Device.{Device}
use Rattle.qx_types.specs.declared.outcome.Answer.{Answer}
use Rattle.qx_types.specs.declared.outcome.Answer.TheVariants.{Reply, Failed}
use Rattle.qx_isolation.specs.Rows.{row_at}
use Rattle.qx_machine.specs.declared.rows.WaitingCall.{WaitingCall}
use Rattle.qx_machine.specs.Waiting.{offered, wanted}
use Rattle.qx_machine.specs.Pipes.{Pipe, nobody_answered, read_told, write_told}
use Rattle.qx_machine.specs.Verdicts.{told_of}
use Rattle.qx_queues.specs.Queues.{Queues, answer_to, waiting_in_list, with_more_answers, with_waiting}
use Rattle.qx_shared.specs.inner.Own.{AreAllPipes, shown_shared}
use Rattle.qx_shared.specs.inner.Row.{Rows, bytes_at, list_of_place, list_on, place, row_of, row_with_bytes, verdict_on}
use Rattle.qx_shared.specs.Row.{PipeRow}
use Rattle.qx_shared.specs.Shared.{after_told, at_first, first_told, pipe_at, users_given, waiting_on, with_pipe_after}
use Rattle.qx_shared.specs.declared.side.Side.{Side}
use Rattle.qx_shared.specs.declared.side.Side.TheVariants.{Reading, Writing}
use Rattle.qx_shared.proofs.ChangeLemmas.{Became, first_answered, no_answers, own-is, own-row, put-bytes, refilled, same-bytes, with_bytes_of}
use Rattle.qx_shared.proofs.OwnLemmas.{pipe_at-told, row_of-same, row_of-within}

-- ---- what a call is told

pub waits-told : (before given state : List ℕ) (verdict : Verdict) → record { told = told.Waits; bytes = given; state = state } ≡ left_by before verdict → (told_of before verdict ≡ None) × (state ≡ before)
waits-told before given state Waits is = (refl, ap (λ left. left.state) is)
waits-told before given state (Gives status bytes after) is = let differs = ap (λ left. left.told) is in absurd (cc)
waits-told before given state (Fails error) is = let differs = ap (λ left. left.told) is in absurd (cc)

pub gives-told : (before given state : List ℕ) (number : ℕ) (verdict : Verdict) → record { told = told.Gives number; bytes = given; state = state } ≡ left_by before verdict → told_of before verdict ≡ Some (Reply number given, state)
gives-told before given state number Waits is = let differs = ap (λ left. left.told) is in absurd (cc)
gives-told before given state number (Gives status bytes after) is = let status_is = ap (λ left. left.told) is in let bytes_are = ap (λ left. left.bytes) is in let state_is = ap (λ left. left.state) is in cc
gives-told before given state number (Fails error) is = let differs = ap (λ left. left.told) is in absurd (cc)

pub fails-told : (before given state : List ℕ) (error : Errno) (verdict : Verdict) → record { told = told.Fails error; bytes = given; state = state } ≡ left_by before verdict → told_of before verdict ≡ Some (Failed error, state)
fails-told before given state error Waits is = let differs = ap (λ left. left.told) is in absurd (cc)
fails-told before given state error (Gives status bytes after) is = let differs = ap (λ left. left.told) is in absurd (cc)
fails-told before given state error (Fails other) is = let error_is = ap (λ left. left.told) is in let state_is = ap (λ left. left.state) is in cc

-- ---- a row that a device's call works on

module _ (c : Queues) (all : List Rows) (are : AreAllPipes c all) (user inode : ℕ) (row : PipeRow) (is : row_of all user inode ≡ Some row) where
  abbrev pub old : Pipe WaitingCall
  old = pipe_at (shown_shared c all) user inode

  same-row : all ≡ with_bytes_of all user inode old.bytes
  same-row = same-bytes c all are user inode Reading row.readers (ap (option_map (list_on Reading)) is)

  -- where nothing changes, nobody is answered
  pub unchanged-own : shown_shared c all ≡ with_pipe_after (shown_shared c all) user inode (nobody_answered old)
  unchanged-own = (refilled c all are user inode row is old.bytes [] c all (sym (no_answers c)) same-row).told_is

  -- as a change of the user's pipes gives it
  module _ (own : Rows) (read : own ≡ get_or all user own) where
    pub device-own : IsSome old.device → IfSome (row_at own inode) (λ row. IsSome row.device)
    device-own device = rw (own-row c all are user inode row is own read) (rw (pipe_at-told c all user inode row is) at device)

    -- what is left, as the machine has the row
    module _ (left : Left) (verdict : Option Device → List ℕ → Verdict) where
      abbrev pub LeftOf : PipeRow → Type 0
      LeftOf row = left ≡ left_by row.bytes (verdict row.device row.bytes)

      pub left-own : IfSome (row_at own inode) LeftOf → left ≡ left_by old.bytes (verdict old.device old.bytes)
      left-own told =
          let told_is : LeftOf row = rw (own-row c all are user inode row is own read) at told in
          told_is ∙ ap (λ p. left_by p.bytes (verdict p.device p.bytes)) (sym (pipe_at-told c all user inode row is))

    -- the user's pipes are these then
    module _ (changed : Rows) (others : IfSome (row_at own inode) (λ row. changed ≡ slice_set own inode (Some (row_with_bytes row (bytes_at changed inode))))) where
      changed-row : row_of (slice_set all user changed) user inode ≡ Some (row_with_bytes row (bytes_at changed inode))
      changed-row =
          let within = row_of-within all user inode row is in
          let others_is : changed ≡ slice_set own inode (Some (row_with_bytes row (bytes_at changed inode))) = rw (own-row c all are user inode row is own read) at others in
          ap (λ (p : Rows). row_of (slice_set all user p) user inode) (others_is ∙ ap (λ (p : Rows). slice_set p inode (Some (row_with_bytes row (bytes_at changed inode)))) (own-is c all are user inode row is own read))
          ∙ row_of-same all user inode (Some (row_with_bytes row (bytes_at changed inode))) within.0 within.1

      pub bytes-own : (d : Queues) → (pipe_at (shown_shared d (slice_set all user changed)) user inode).bytes ≡ bytes_at changed inode
      bytes-own d = ap (λ p. p.bytes) (pipe_at-told d (slice_set all user changed) user inode (row_with_bytes row (bytes_at changed inode)) changed-row)

      pub rows-own : slice_set all user changed ≡ with_bytes_of all user inode (bytes_at changed inode)
      rows-own = put-bytes c all are user inode row is own read changed (λ bytes. bytes_at changed inode) others

      pub became-own : (answers : List (WaitingCall × Answer)) (d : Queues) → d ≡ with_more_answers c (map (users_given user) answers) → Became c d all (slice_set all user changed) user inode (record { pipe = record old { bytes = bytes_at changed inode }; answers = answers })
      became-own answers d queues = refilled c all are user inode row is (bytes_at changed inode) answers d (slice_set all user changed) queues rows-own

      -- where the device has the bytes that it had, nothing changed
      pub same-own : bytes_at changed inode ≡ old.bytes → slice_set all user changed ≡ all
      same-own same = rows-own ∙ ap (with_bytes_of all user inode) same ∙ sym same-row

      -- the first call of a side is answered
      pub first-own : (side : Side) (list : ℕ) → list_of_place all (place user inode side) ≡ Some list → (answer : Answer) (d : Queues) → d ≡ with_more_answers (with_waiting c list (drop 1 (waiting_in_list c list))) (map (λ own. answer_to own answer) (take 1 (waiting_in_list c list))) → Became c d all (slice_set all user changed) user inode (after_told side old (Some (answer, bytes_at changed inode)))
      first-own side list list_is answer d queues = first_answered c all are user inode side list list_is (bytes_at changed inode) answer d (slice_set all user changed) queues rows-own

-- ---- the first call of a side

at_first-some : (told : WaitingCall → Option (Answer × List ℕ)) (calls : List WaitingCall) (call : WaitingCall) → slice_get calls 0 ≡ Some call → at_first told calls ≡ told call
at_first-some told [] call is = absurd (cc)
at_first-some told (first ∷ rest) call is = ap told (same_Some first call is)

at_first-none : (told : WaitingCall → Option (Answer × List ℕ)) (calls : List WaitingCall) → slice_get calls 0 ≡ None → at_first told calls ≡ None
at_first-none told [] is = refl
at_first-none told (first ∷ rest) is = absurd (cc)

pub first-told : (side : Side) (p : Pipe WaitingCall) (call : WaitingCall) → slice_get (waiting_on side p) 0 ≡ Some call → first_told side p ≡ told_of p.bytes (verdict_on side call p.device p.bytes)
first-told Reading p call is = at_first-some (read_told wanted offered p.device p.bytes) p.readers call is
first-told Writing p call is = at_first-some (write_told wanted offered p.device p.bytes) p.writers call is

pub nobody-told : (side : Side) (p : Pipe WaitingCall) → slice_get (waiting_on side p) 0 ≡ None → first_told side p ≡ None
nobody-told Reading p is = at_first-none (read_told wanted offered p.device p.bytes) p.readers is
nobody-told Writing p is = at_first-none (write_told wanted offered p.device p.bytes) p.writers is
