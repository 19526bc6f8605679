-- A thread takes its answer, or gets another priority: its message stands where it stood.
use Rattle.std.proofs.Common.{◌≡◌, ◌⊎◌, inl, inr, ℕ, false, List, Option, Some, None, refl, sym, ◌∙◌}
use Rattle.std.specs.Prelude.{MatchOption, option_map, slice_set}
use Rattle.qx_types.specs.declared.names.Thread.{Thread}
use Rattle.qx_types.specs.declared.outcome.Answer.{Answer}
use Rattle.qx_paths.specs.Prefixes.{MountPoint}
use Rattle.qx_machine.specs.declared.rows.State.{State}
use Rattle.qx_machine.specs.declared.rows.State.TheVariants.{Answered, Queued, Ready, Taken, Waiting}
use Rattle.qx_machine.specs.declared.rows.ThreadRow.{ThreadRow}
use Rattle.qx_machine.specs.Clients.{answer_in, may_give}
use Rattle.qx_machine.specs.Events.{Events}
use Rattle.qx_machine.specs.Processes.{Process, ranked_thread, ready_thread, with_thread}
use Rattle.qx_isolation.specs.Rows.{row_at, with_row}
use Rattle.qx_rows.proofs.RowLemmas.{set-row}
use Rattle.qx_clients.specs.Calls.{after_or, with_prio}
use Rattle.qx_machine.specs.Waiting.{Pipes}
use Rattle.qx_shared.specs.Shared.{Shared}
use Rattle.qx_isolation.specs.declared.rows.Queued.{Queued as Item}
use Rattle.qx_chan.specs.Channel.{Channel, after_taking}
use Rattle.qx_chan.specs.inner.Kept.{StandTogether, asked_call, is_asked_at, is_queued_at, is_waiting_for, stands_at, waits_for}
use Rattle.qx_chan.specs.Users.{Users, thread_row, with_thread_row}
use Rattle.qx_chan.proofs.ProcessLemmas.{with_thread-put, with_thread-same}
use Rattle.qx_chan.proofs.RowReads.{option_cases, result_cases}
use Rattle.qx_chan.proofs.ThreadLemmas.{Kept-thread}
use Rattle.qx_chan.proofs.WaitLemmas.{no-wait}

answered_waits : (state : State) (given : Answer) → answer_in state ≡ Some given → (number : ℕ) → is_queued_at number state ≡ false
answered_waits Ready given is number = refl
answered_waits (Queued sent) given is number = let clash : None ≡ Some given = is in absurd (cc)
answered_waits (Taken sent) given is number = refl
answered_waits (Waiting sent) given is number = refl
answered_waits (Answered answer) given is number = refl

answered_unasked : (state : State) (given : Answer) → answer_in state ≡ Some given → (number call calls : ℕ) → is_asked_at number call calls state ≡ false
answered_unasked Ready given is number call calls = refl
answered_unasked (Queued sent) given is number call calls = refl
answered_unasked (Taken sent) given is number call calls = let clash : None ≡ Some given = is in absurd (cc)
answered_unasked (Waiting sent) given is number call calls = let clash : None ≡ Some given = is in absurd (cc)
answered_unasked (Answered answer) given is number call calls = refl

answered_unwaiting : (state : State) (given : Answer) → answer_in state ≡ Some given → (call calls : ℕ) → is_waiting_for call calls state ≡ false
answered_unwaiting Ready given is call calls = refl
answered_unwaiting (Queued sent) given is call calls = refl
answered_unwaiting (Taken sent) given is call calls = refl
answered_unwaiting (Waiting sent) given is call calls = let clash : None ≡ Some given = is in absurd (cc)
answered_unwaiting (Answered answer) given is call calls = refl

-- a row that was lent to take its answer
module _ (users : Users) (queues : Shared) (thread : Thread) (row after : ThreadRow) (there : Some row ≡ thread_row users thread) (kept : StandTogether users queues) where
  stays : after ≡ row → StandTogether (with_thread_row users thread (λ _. after)) queues
  stays same = Kept-thread users queues thread (λ _. after) kept (λ at. rw (← there, same) refl) (λ at call. rw (← there, same) refl) (λ call is. rw (← there, same) (rw (← there) at is))

  readies : (given : Answer) → Some given ≡ answer_in row.state → after ≡ ready_thread row → StandTogether (with_thread_row users thread (λ _. after)) queues
  readies given is same = Kept-thread users queues thread (λ _. after) kept
      (λ at. rw (← there, same) (sym (answered_waits row.state given (sym is) at)))
      (λ at call. rw (← there, same) (sym (answered_unasked row.state given (sym is) at call row.calls)))
      (no-wait (thread_row users thread) (option_map (λ _. after) (thread_row users thread)) (λ call. rw (← there) (answered_unwaiting row.state given (sym is) call row.calls)))

  pub Kept-answer : (result : Option Answer) → result ≡ answer_in row.state → MatchOption result (after ≡ row) (λ _. after ≡ ready_thread row) → StandTogether (with_thread_row users thread (λ _. after)) queues
  Kept-answer None is same = stays same
  Kept-answer (Some given) is same = readies given is same

-- the channel's value then
pub after_answer : (users : Users) (lines : List (List Item)) (pipes : List Pipes) (events : List Events) (mounts : List (List MountPoint)) (room : ℕ) (thread : Thread) (row after : ThreadRow) (result : Option Answer) → Some row ≡ thread_row users thread → result ≡ answer_in row.state → MatchOption result (after ≡ row) (λ _. after ≡ ready_thread row)
    → ◌≡◌ {A = Channel} (record { users = with_thread_row users thread (λ _. after); lines = lines; pipes = pipes; events = events; mounts = mounts; room = room }) (after_taking (record { users = users; lines = lines; pipes = pipes; events = events; mounts = mounts; room = room }) thread)
after_answer users lines pipes events mounts room thread row after None there is same =
    rw (same, with_thread-same users thread row (sym there), ← there, ← is) refl
after_answer users lines pipes events mounts room thread row after (Some given) there is same =
    rw (same, with_thread-put users thread ready_thread row (sym there), ← there, ← is) refl

-- another priority changes one row or none
ranked : (ceiling : ℕ) (rows : List (Option Process)) (process thread prio : ℕ) → (after_or rows (with_prio ceiling rows process thread prio) ≡ rows) ⊎ (after_or rows (with_prio ceiling rows process thread prio) ≡ with_row rows process (with_thread thread (ranked_thread prio)))
ranked ceiling rows process thread prio = elim (option_cases (row_at rows process)) [
  | inl none ↦ inl (rw none refl)
  | inr there ↦ elim (option_cases (row_at there.0.threads thread)) [
    | inl none ↦ inl (rw (there.1, none) refl)
    | inr row ↦ elim (result_cases (may_give ceiling prio)) [
      | inl allowed ↦ inr (rw (there.1, row.1, allowed.1) refl)
      | inr refused ↦ inl (rw (there.1, row.1, refused.1) refl)
    ]
  ]
]

still_stands : (prio at : ℕ) (o : Option ThreadRow) → stands_at at (option_map (ranked_thread prio) o) ≡ stands_at at o
still_stands prio at None = refl
still_stands prio at (Some row) = refl

still_asked : (prio at call : ℕ) (o : Option ThreadRow) → asked_call at call (option_map (ranked_thread prio) o) ≡ asked_call at call o
still_asked prio at call None = refl
still_asked prio at call (Some row) = refl

still_waits : (prio call : ℕ) (o : Option ThreadRow) → waits_for call (option_map (ranked_thread prio) o) ≡ waits_for call o
still_waits prio call None = refl
still_waits prio call (Some row) = refl

pub Kept-ranked : (ceiling : ℕ) (users : Users) (queues : Shared) (thread : Thread) (prio : ℕ) (rows : List (Option Process)) → Some rows ≡ row_at users thread.proc.user.0 → StandTogether users queues
    → StandTogether (slice_set users thread.proc.user.0 (Some (after_or rows (with_prio ceiling rows thread.proc.num thread.tid prio)))) queues
Kept-ranked ceiling users queues thread prio rows there kept = elim (ranked ceiling rows thread.proc.num thread.tid prio) [
  | inl same ↦ rw (same, set-row users thread.proc.user.0 rows (sym there)) kept
  | inr changed ↦ rw (changed, ← put) (Kept-thread users queues thread (ranked_thread prio) kept (λ at. still_stands prio at (thread_row users thread)) (λ at call. still_asked prio at call (thread_row users thread)) (λ call is. still_waits prio call (thread_row users thread) ∙ is))
]
  where
    put : with_thread_row users thread (ranked_thread prio) ≡ slice_set users thread.proc.user.0 (Some (with_row rows thread.proc.num (with_thread thread.tid (ranked_thread prio))))
    put = rw (← there) refl
