-- Threads whose calls waited get their answers: rows, lines and nodes stand together then, and the machine does the same.
use Rattle.std.proofs.Common.{◌≡◌, subst, inl, inr, ℕ, ◌∷◌, [], true, false, List, Option, Some, None, drop, map, refl, sym, ◌∙◌, ap}
use Rattle.std.specs.List.{AllByRecursion}
use Rattle.std.specs.Prelude.{option_map, slice_get}
use Rattle.std.proofs.lemmas.Bool.{eqb-true}
use Rattle.qx_types.specs.Managers.{manager_number}
use Rattle.qx_types.specs.declared.names.Manager.{Manager}
use Rattle.qx_types.specs.declared.outcome.Answer.{Answer}
use Rattle.qx_isolation.specs.declared.rows.OwnItem.TheVariants as item
use Rattle.qx_isolation.specs.declared.rows.Queued.{Queued}
use Rattle.qx_machine.specs.declared.rows.State.{State}
use Rattle.qx_machine.specs.declared.rows.State.TheVariants as state
use Rattle.qx_machine.specs.declared.rows.ThreadRow.{ThreadRow}
use Rattle.qx_machine.specs.declared.rows.WaitingCall.{WaitingCall}
use Rattle.qx_isolation.specs.Lines.{line_at, with_line}
use Rattle.qx_machine.specs.Machine.{line_without, lines_after}
use Rattle.qx_machine.specs.Parts.{Part, thread_of}
use Rattle.qx_machine.specs.Performing.{answered_changes, called_by, called_in, with_answer, with_answers}
use Rattle.qx_machine.specs.Processes.{Process, answered_thread, with_thread}
use Rattle.qx_isolation.specs.Rows.{row_at, with_row}
use Rattle.qx_queues.specs.Queues.{UsersAnswer, caller, has_call, unblock_call}
use Rattle.qx_shared.specs.Shared.{HasNoCall, Shared, users_given, waiting_in, with_shared_line}
use Rattle.qx_queues.proofs.LineLemmas.{call-replied_other, replied-none, stands-replied}
use Rattle.qx_chan.specs.inner.Answers.{given_line, given_lines, given_users}
use Rattle.qx_chan.specs.inner.Kept.{Answering, IsAwaited, IsWaiting, StandTogether, asked_call, is_asked_at, is_queued_at, is_waiting_for, stands_at, waits_for}
use Rattle.qx_chan.specs.Users.{Users, process_of_user, thread_row, with_thread_row}
use Rattle.qx_chan.proofs.AnswerLemmas.{and_last, and_middle, answered_row}
use Rattle.qx_chan.proofs.RowReads.{option_cases, row_at-with_same, with_row-fixed, with_row-twice}
use Rattle.qx_chan.proofs.ThreadLemmas.{Kept-changed, OneThread, Own, one_thread, waits-apart}
use Rattle.qx_chan.proofs.WaitLemmas.{all-others}

-- a thread that waits for the answer to a call stands in no line, and its unblock pulses are of that call, in the line of the manager called

waiting-stands : (number call : ℕ) (row : Option ThreadRow) → waits_for call row ≡ true → stands_at number row ≡ false
waiting-stands number call None is = refl
waiting-stands number call (Some row) is = by_state row.state is
  where
    by_state : (s : State) → is_waiting_for call row.calls s ≡ true → is_queued_at number s ≡ false
    by_state state.Ready is = refl
    by_state (state.Queued sent) is = let clash : false ≡ true = is in absurd (cc)
    by_state (state.Taken sent) is = refl
    by_state (state.Waiting sent) is = refl
    by_state (state.Answered answer) is = refl

waiting-pulse : (number other call : ℕ) (row : Option ThreadRow) → waits_for call row ≡ true → asked_call number other row ≡ true → (manager_number (called_by row) ≡ number) × (call ≡ other)
waiting-pulse number other call None is asked = let clash : false ≡ true = is in absurd (cc)
waiting-pulse number other call (Some row) is asked = by_state row.state is asked
  where
    by_state : (s : State) → is_waiting_for call row.calls s ≡ true → is_asked_at number other row.calls s ≡ true → (manager_number (called_in s) ≡ number) × (call ≡ other)
    by_state state.Ready is asked = let clash : false ≡ true = is in absurd (cc)
    by_state (state.Queued sent) is asked = let clash : false ≡ true = is in absurd (cc)
    by_state (state.Taken sent) is asked = let clash : false ≡ true = is in absurd (cc)
    by_state (state.Answered answer) is asked = let clash : false ≡ true = is in absurd (cc)
    by_state (state.Waiting sent) is asked =
        (eqb-true (manager_number sent.target.manager) number (and_middle sent.is_asked _ _ asked), sym (eqb-true row.calls call is) ∙ eqb-true row.calls other (and_last sent.is_asked _ _ asked))

-- ---- one answer

module _ (users : Users) (queues : Shared) (to : UsersAnswer) (is : IsAwaited users to) (kept : StandTogether users queues)
    (none : (list : ℕ) → has_call (waiting_in queues list) to.thread ≡ false) where
  abbrev new : Users
  new = with_thread_row users to.thread (answered_thread to.answer)

  abbrev called : Manager
  called = called_by (thread_row users to.thread)

  abbrev number : ℕ
  number = manager_number called

  abbrev line : List Queued
  line = line_at queues.lines number

  abbrev drop_pulse : List Queued → List Queued
  drop_pulse = line_without to.thread.proc.user.0 (item.Unblock to.thread.proc.num to.thread.tid to.call)

  one : OneThread new users to.thread (with_thread to.thread.tid (answered_thread to.answer)) (answered_thread to.answer)
  one = one_thread users to.thread (with_thread to.thread.tid (answered_thread to.answer)) (answered_thread to.answer) (λ x. refl) (λ x. refl)

  module _ (gone : unblock_call line to.thread ≡ Some to.call → unblock_call (drop_pulse line) to.thread ≡ None) where
    no_pulse : unblock_call (drop_pulse line) to.thread ≡ None
    no_pulse = elim (option_cases (unblock_call line to.thread)) [
      | inl never ↦ ap (λ l. unblock_call l to.thread) (replied-none line to.thread to.call never) ∙ never
      | inr other ↦ gone (other.1 ∙ ap Some (sym (waiting-pulse number other.0 to.call (thread_row users to.thread) is (kept.pulses to.thread number other.0 other.1)).1))
    ]

    nowhere : (at : ℕ) → stands_at at (thread_row new to.thread) ≡ false
    nowhere at = ap (stands_at at) one.own ∙ answered_row to.answer (thread_row users to.thread) at

    told : Own users new queues to.thread (with_thread to.thread.tid (answered_thread to.answer)) (answered_thread to.answer) one kept called drop_pulse
    told = record {
      line = record {
        stand = λ other differs. stands-replied line to.thread to.call other;
        calls = λ other differs. call-replied_other line to.thread to.call other differs;
      };
      stand = stands-replied line to.thread to.call to.thread ∙ kept.lines to.thread number ∙ waiting-stands number to.call (thread_row users to.thread) is ∙ sym (nowhere number);
      stand_other = λ at differs. kept.lines to.thread at ∙ waiting-stands at to.call (thread_row users to.thread) is ∙ sym (nowhere at);
      calls = λ call its. let clash : None ≡ Some call = sym no_pulse ∙ its in absurd (cc);
      calls_other = λ at call differs its. absurd (differs (sym (waiting-pulse at call to.call (thread_row users to.thread) is (kept.pulses to.thread at call its)).0));
      waits = λ list. all-others caller to.thread (IsWaiting users) (IsWaiting new) (waits-apart users new to.thread (with_thread to.thread.tid (answered_thread to.answer)) (answered_thread to.answer) one) (waiting_in queues list) (none list) (kept.waits list);
    }

    pub Kept-given : StandTogether (with_thread_row users to.thread (answered_thread to.answer)) (with_shared_line queues (manager_number (called_by (thread_row users to.thread))) (line_without to.thread.proc.user.0 (item.Unblock to.thread.proc.num to.thread.tid to.call)))
    Kept-given = Kept-changed users new queues to.thread (with_thread to.thread.tid (answered_thread to.answer)) (answered_thread to.answer) one kept called drop_pulse told (λ x at. refl)

-- ---- all answers, the first and then the others

pub users-first : (users : Users) (answered : List UsersAnswer) (to : UsersAnswer) → Some to ≡ slice_get answered 0 → given_users (with_thread_row users to.thread (answered_thread to.answer)) (drop 1 answered) ≡ given_users users answered
users-first users [] to is = let clash : None ≡ Some to = sym is in absurd (cc)
users-first users (first ∷ rest) to is =
    let same : to ≡ first = cc in
    ap (λ (t : UsersAnswer). given_users (with_thread_row users t.thread (answered_thread t.answer)) rest) same

-- the thread to which the first goes waits for it
pub first-awaited : (users : Users) (answered : List UsersAnswer) (to : UsersAnswer) → Some to ≡ slice_get answered 0 → AllByRecursion (IsAwaited users) answered → IsAwaited users to
first-awaited users [] to is waiting = let clash : None ≡ Some to = sym is in absurd (cc)
first-awaited users (first ∷ rest) to is waiting =
    let same : to ≡ first = cc in
    subst (IsAwaited users) (sym same) waiting.0

pub lines-first : (users : Users) (lines : List (List Queued)) (answered : List UsersAnswer) (to : UsersAnswer) → Some to ≡ slice_get answered 0
    → given_lines (with_thread_row users to.thread (answered_thread to.answer)) (given_line users lines to) (drop 1 answered) ≡ given_lines users lines answered
lines-first users lines [] to is = let clash : None ≡ Some to = sym is in absurd (cc)
lines-first users lines (first ∷ rest) to is =
    let same : to ≡ first = cc in
    ap (λ (t : UsersAnswer). given_lines (with_thread_row users t.thread (answered_thread t.answer)) (given_line users lines t) rest) same

module _ (users : Users) (queues : Shared) where
  -- the queues without the first answer, and without the unblock pulse of its call
  abbrev after_reply : List UsersAnswer → UsersAnswer → Shared
  after_reply answered to = with_shared_line (record queues { answered = drop 1 answered }) (manager_number (called_by (thread_row users to.thread))) (line_without to.thread.proc.user.0 (item.Unblock to.thread.proc.num to.thread.tid to.call))

  -- no unblock pulse of the call is left
  abbrev Gone : UsersAnswer → Type 0
  Gone to = unblock_call (line_at queues.lines (manager_number (called_by (thread_row users to.thread)))) to.thread ≡ Some to.call
      → unblock_call (line_without to.thread.proc.user.0 (item.Unblock to.thread.proc.num to.thread.tid to.call) (line_at queues.lines (manager_number (called_by (thread_row users to.thread))))) to.thread ≡ None

  by_first : (answered : List UsersAnswer) → StandTogether users (record queues { answered = [] }) → AllByRecursion (IsAwaited users) answered
      → (to : UsersAnswer) → Some to ≡ slice_get answered 0 → HasNoCall (record queues { answered = drop 1 answered }) to.thread → Gone to
      → Answering (with_thread_row users to.thread (answered_thread to.answer)) (after_reply answered to)
  by_first [] kept waiting to is none gone = let clash : None ≡ Some to = sym is in absurd (cc)
  by_first (first ∷ rest) kept waiting to is none gone =
      let same : to ≡ first = cc in
      let own : IsAwaited users to = first-awaited users (first ∷ rest) to is waiting in
      record {
        kept = Kept-given users (record queues { answered = [] }) to own kept none.waiting gone;
        answered = all-others (λ given. given.thread) to.thread (IsAwaited users) (IsAwaited (with_thread_row users to.thread (answered_thread to.answer)))
            (λ given differs is. ap (waits_for given.call) ((one users (record queues { answered = [] }) to own kept none.waiting).others given.thread differs) ∙ is) rest none.answered waiting.1;
      }

  pub Answering-first : Answering users queues → (to : UsersAnswer) → Some to ≡ slice_get queues.answered 0 → HasNoCall (record queues { answered = drop 1 queues.answered }) to.thread
      → Gone to
      → Answering (with_thread_row users to.thread (answered_thread to.answer)) (with_shared_line (record queues { answered = drop 1 queues.answered }) (manager_number (called_by (thread_row users to.thread))) (line_without to.thread.proc.user.0 (item.Unblock to.thread.proc.num to.thread.tid to.call)))
  Answering-first answering = by_first queues.answered answering.kept answering.answered

-- ---- the machine gives the same answers to a user's calls

pub resources-machine : (answers : List (WaitingCall × Answer)) (part : Part) → (with_answers answers part).resources ≡ part.resources
resources-machine [] part = refl
resources-machine ((call, given) ∷ rest) part = resources-machine rest (with_answer (call, given) part)

pub users-machine : (users : Users) (user : ℕ) (answers : List (WaitingCall × Answer)) (part : Part) → row_at users user ≡ Some part.processes → given_users users (map (users_given user) answers) ≡ with_row users user (λ _. (with_answers answers part).processes)
users-machine users user [] part there = sym (with_row-fixed users user (λ _. part.processes) part.processes there refl)
users-machine users user ((call, given) ∷ rest) part there =
    users-machine (with_row users user change) user rest (with_answer (call, given) part) (row_at-with_same users user change ∙ ap (option_map change) there)
    ∙ with_row-twice users user change (λ _. (with_answers rest (with_answer (call, given) part)).processes)
  where
    change : List (Option Process) → List (Option Process)
    change rows = with_row rows call.process (with_thread call.thread (answered_thread given))

pub lines-machine : (users : Users) (user : ℕ) (lines : List (List Queued)) (answers : List (WaitingCall × Answer)) (part : Part) → row_at users user ≡ Some part.processes
    → given_lines users lines (map (users_given user) answers) ≡ lines_after user lines (answered_changes answers part)
lines-machine users user lines [] part there = refl
lines-machine users user lines ((call, given) ∷ rest) part there =
    ap (λ rows. given_lines answered (with_line lines (manager_number (called_by (thread_of call.thread (process_of_user call.process rows)))) (line_without user (item.Unblock call.process call.thread call.call))) (map (users_given user) rest)) there
    ∙ lines-machine answered user _ rest (with_answer (call, given) part) (row_at-with_same users user change ∙ ap (option_map change) there)
  where
    change : List (Option Process) → List (Option Process)
    change rows = with_row rows call.process (with_thread call.thread (answered_thread given))

    answered : Users
    answered = with_row users user change
