-- A received message is asked to unblock its thread: rows, lines and nodes stand together still.
use Rattle.std.proofs.Common.{◌≡◌, ◌⊎◌, inl, inr, eq-eqb, ℕ, List, true, false, Option, Some, None, refl, sym, ◌∙◌, ap}
use Rattle.std.specs.Prelude.{option_map}
use Rattle.qx_types.specs.Managers.{manager_number}
use Rattle.qx_types.specs.declared.names.Thread.{Thread}
use Rattle.qx_isolation.specs.declared.rows.Queued.{Queued}
use Rattle.qx_machine.specs.declared.rows.Sent.{Sent}
use Rattle.qx_machine.specs.declared.rows.State.{State}
use Rattle.qx_machine.specs.declared.rows.State.TheVariants.{Answered, Queued as queued, Ready, Taken, Waiting}
use Rattle.qx_machine.specs.declared.rows.ThreadRow.{ThreadRow}
use Rattle.qx_isolation.specs.Lines.{into, line_at}
use Rattle.qx_machine.specs.Machine.{rank}
use Rattle.qx_machine.specs.Processes.{asked_state, asked_thread, with_thread}
use Rattle.qx_queues.specs.Queues.{unblock_call, unblock_of}
use Rattle.qx_shared.specs.Shared.{Shared, with_shared_line}
use Rattle.qx_queues.proofs.EntryLemmas.{is_same_thread-differs, is_same_thread-self}
use Rattle.qx_queues.proofs.LineLemmas.{call-asked, stands-asked}
use Rattle.qx_chan.specs.Calls.{unasked_call, unasked_in}
use Rattle.qx_chan.specs.inner.Kept.{StandTogether, asked_call, is_waiting_for, stands_at, waits_for}
use Rattle.qx_chan.specs.Users.{Users, thread_row, with_thread_row}
use Rattle.qx_chan.specs.declared.call.Call.{Call}
use Rattle.qx_chan.proofs.CallLemmas.{unasked_is, waits}
use Rattle.qx_chan.proofs.RowReads.{option_cases}
use Rattle.qx_chan.proofs.ThreadLemmas.{Kept-changed, OneThread, Own, one_thread, waits-told}

asked_after : {number call : ℕ} (place : Option ThreadRow) (row : ThreadRow) (sent : Sent) → place ≡ Some row → (row.state ≡ Taken sent) ⊎ (row.state ≡ Waiting sent) → manager_number sent.target.manager ≡ number → row.calls ≡ call → asked_call number call (option_map asked_thread place) ≡ true
asked_after {number = number} {call = call} place row sent there is to its = elim is [
  | inl taken ↦ rw (there, taken, eq-eqb (manager_number sent.target.manager) number to) (eq-eqb row.calls call its)
  | inr waiting ↦ rw (there, waiting, eq-eqb (manager_number sent.target.manager) number to) (eq-eqb row.calls call its)
]

-- and waits for the call that it waited for
asked-waits : (place : Option ThreadRow) (call : ℕ) → waits_for call place ≡ true → waits_for call (option_map asked_thread place) ≡ true
asked-waits None call is = is
asked-waits (Some row) call is = by_state row.state is
  where
    by_state : (s : State) → is_waiting_for call row.calls s ≡ true → is_waiting_for call row.calls (asked_state s) ≡ true
    by_state Ready is = is
    by_state (queued sent) is = is
    by_state (Taken sent) is = is
    by_state (Waiting sent) is = is
    by_state (Answered answer) is = is

module _ (users : Users) (queues : Shared) (thread : Thread) (call : Call) (unasked : Some call ≡ unasked_call (thread_row users thread)) (kept : StandTogether users queues) where
  abbrev number : ℕ
  number = manager_number call.target.manager

  abbrev change : List Queued → List Queued
  change line = into rank line (unblock_of thread call.number call.target.prio.0)

  abbrev line : List Queued
  line = line_at queues.lines number

  one : OneThread (with_thread_row users thread asked_thread) users thread (with_thread thread.tid asked_thread) asked_thread
  one = one_thread users thread (with_thread thread.tid asked_thread) asked_thread (λ x. refl) (λ x. refl)

  -- it waits in no line, and has no unblock pulse yet
  stands_nowhere : (at : ℕ) → stands_at at (thread_row users thread) ≡ false
  stands_nowhere at =
      let it = waits unasked_in (thread_row users thread) call unasked in
      elim (unasked_is it.row.state it.sent it.is).0 [
        | inl taken ↦ rw (it.there, taken) refl
        | inr waiting ↦ rw (it.there, waiting) refl
      ]

  stands_asked : (at : ℕ) → stands_at at (thread_row (with_thread_row users thread asked_thread) thread) ≡ false
  stands_asked at =
      let it = waits unasked_in (thread_row users thread) call unasked in
      elim (unasked_is it.row.state it.sent it.is).0 [
        | inl taken ↦ rw (one.own, it.there, taken) refl
        | inr waiting ↦ rw (one.own, it.there, waiting) refl
      ]

  pub no_pulse : (at : ℕ) → unblock_call (line_at queues.lines at) thread ≡ None
  no_pulse at =
      let it = waits unasked_in (thread_row users thread) call unasked in
      let is = unasked_is it.row.state it.sent it.is in
      elim (option_cases (unblock_call (line_at queues.lines at) thread)) [
        | inl none ↦ none
        | inr other ↦ elim is.0 [
          | inl taken ↦ let clash : false ≡ true = rw (it.there, taken, is.1) at (kept.pulses thread at other.0 other.1) in absurd (cc)
          | inr waiting ↦ let clash : false ≡ true = rw (it.there, waiting, is.1) at (kept.pulses thread at other.0 other.1) in absurd (cc)
        ]
      ]

  asked_own : asked_call number call.number (thread_row (with_thread_row users thread asked_thread) thread) ≡ true
  asked_own =
      let it = waits unasked_in (thread_row users thread) call unasked in
      ap (asked_call number call.number) one.own ∙ asked_after (thread_row users thread) it.row it.sent it.there (unasked_is it.row.state it.sent it.is).0 (ap (λ target. manager_number target.manager) (sym it.target)) (sym it.number)

  own : Own users (with_thread_row users thread asked_thread) queues thread (with_thread thread.tid asked_thread) asked_thread one kept call.target.manager change
  own = record {
    line = record {
      stand = λ other differs. stands-asked rank line thread call.number call.target.prio.0 other;
      calls = λ other differs. call-asked rank line thread call.number call.target.prio.0 other (no_pulse number) ∙ rw (is_same_thread-differs thread other (λ same. differs (sym same))) refl;
    };
    stand = stands-asked rank line thread call.number call.target.prio.0 thread ∙ kept.lines thread number ∙ stands_nowhere number ∙ sym (stands_asked number);
    stand_other = λ at differs. kept.lines thread at ∙ stands_nowhere at ∙ sym (stands_asked at);
    calls = λ other its.
        let same : Some call.number ≡ Some other = sym (call-asked rank line thread call.number call.target.prio.0 thread (no_pulse number) ∙ rw (is_same_thread-self thread) refl) ∙ its in
        let equal : call.number ≡ other = cc in
        rw (← equal) asked_own;
    calls_other = λ at other differs its. let clash : None ≡ Some other = sym (no_pulse at) ∙ its in absurd (cc);
    waits = waits-told users (with_thread_row users thread asked_thread) queues thread (with_thread thread.tid asked_thread) asked_thread one kept (asked-waits (thread_row users thread));
  }

  pub Kept-asked : StandTogether (with_thread_row users thread asked_thread) (with_shared_line queues (manager_number call.target.manager) (λ line. into rank line (unblock_of thread call.number call.target.prio.0)))
  Kept-asked = Kept-changed users (with_thread_row users thread asked_thread) queues thread (with_thread thread.tid asked_thread) asked_thread one kept call.target.manager change own (λ x at. refl)
