-- Rows, lines and nodes stand together still as a thread is answered: as its received message is, or as its queued message goes.
use Rattle.std.proofs.Common.{◌≡◌, ◌≢◌, inl, inr, ℕ, ◌&&◌, ◌==◌, Bool, true, false, List, Option, Some, None, refl, sym, ◌∙◌, ap}
use Rattle.std.specs.Option.{option_to_list}
use Rattle.std.specs.Prelude.{option_map}
use Rattle.std.proofs.lemmas.Bool.{eqb-true, false≢true}
use Rattle.qx_types.specs.Managers.{manager_number}
use Rattle.qx_base.specs.declared.errno.Errno.{Errno}
use Rattle.qx_types.specs.declared.names.Manager.{Manager}
use Rattle.qx_types.specs.declared.names.Thread.{Thread}
use Rattle.qx_types.specs.declared.outcome.Answer.{Answer}
use Rattle.qx_types.specs.declared.outcome.Answer.TheVariants.{Reply, Failed}
use Rattle.qx_machine.specs.declared.rows.Effect.{Effect}
use Rattle.qx_machine.specs.declared.rows.Over.{Over}
use Rattle.qx_isolation.specs.declared.rows.OwnItem.TheVariants as item
use Rattle.qx_isolation.specs.declared.rows.Queued.{Queued}
use Rattle.qx_isolation.specs.declared.rows.ServerName.{ServerName}
use Rattle.qx_machine.specs.declared.rows.ThreadRow.{ThreadRow}
use Rattle.qx_isolation.specs.Lines.{line_at}
use Rattle.qx_machine.specs.Machine.{line_without}
use Rattle.qx_machine.specs.Performing.{taken_in}
use Rattle.qx_machine.specs.Processes.{Process, answered_thread, with_thread}
use Rattle.qx_isolation.specs.Rows.{with_row}
use Rattle.qx_queues.specs.Queues.{stands, unblock_call}
use Rattle.qx_shared.specs.Shared.{Shared, with_shared_line}
use Rattle.qx_queues.proofs.EntryLemmas.{with_line-same}
use Rattle.qx_queues.proofs.LineLemmas.{call-replied_other, call-withdrawn, replied-none, stands-replied, stands-withdrawn_other}
use Rattle.qx_clients.specs.Calls.{LosesAt}
use Rattle.qx_chan.specs.Calls.{queued_call}
use Rattle.qx_chan.specs.inner.Calls.{taken_call}
use Rattle.qx_chan.specs.Channel.{failed}
use Rattle.qx_chan.specs.inner.Channel.{process_replied}
use Rattle.qx_chan.specs.inner.Kept.{StandTogether, asked_call, stands_at, waits_for, with_lost}
use Rattle.qx_chan.specs.Users.{Users, process_of, thread_row, with_process_of}
use Rattle.qx_chan.specs.declared.call.Call.{Call}
use Rattle.qx_chan.proofs.AttachedLemmas.{held-given_back, held-replied, threads-given_back, threads-replied}
use Rattle.qx_chan.proofs.CallLemmas.{queued-at_target, taken_is, waits}
use Rattle.qx_chan.proofs.ReceiveLemmas.{queued-unasked, queued-unwaiting, stands_once}
use Rattle.qx_chan.proofs.RowReads.{option_cases}
use Rattle.qx_chan.proofs.LostLemmas.{Kept-lost}
use Rattle.qx_chan.proofs.ThreadLemmas.{OneThread, Own, OwnLine, beside, one_thread, waits-told}
use Rattle.qx_chan.proofs.WaitLemmas.{no-wait}

-- a change of a process that answers one of its threads
pub record IsAnswer (thread : ℕ) (answer : Answer) (f : Process → Process) : Type 0 where
  pub threads : (x : Process) → (f x).threads ≡ with_row x.threads thread (answered_thread answer)
  pub held : (x : Process) → (f x).held ≡ x.held

pub replies : (thread : ℕ) (effect : Effect) (status : ℕ) (bytes : List ℕ) (over : Over) → IsAnswer thread (Reply status bytes) (process_replied thread effect status bytes over)
replies thread effect status bytes over = record {
  threads = λ x. threads-replied thread over effect (with_thread thread (answered_thread (Reply status bytes)) x);
  held = λ x. held-replied thread over effect (with_thread thread (answered_thread (Reply status bytes)) x);
}

pub fails : (thread : ℕ) (error : Errno) (over : Over) → IsAnswer thread (Failed error) (failed thread error over)
fails thread error over = record {
  threads = λ x. threads-given_back thread over (with_thread thread (answered_thread (Failed error)) x);
  held = λ x. held-given_back thread over (with_thread thread (answered_thread (Failed error)) x);
}

-- an answered thread stands nowhere and has no pulse
pub answered_row : (answer : Answer) (row : Option ThreadRow) (number : ℕ) → stands_at number (option_map (answered_thread answer) row) ≡ false
answered_row answer None number = refl
answered_row answer (Some row) number = refl

module _ (users : Users) (queues : Shared) (thread : Thread) (f : Process → Process) (answer : Answer) (answers : IsAnswer thread.tid answer f) (kept : StandTogether users queues)
    (manager : Manager) (change : List Queued → List Queued) where
  abbrev new : Users
  new = with_process_of users thread.proc f

  abbrev number : ℕ
  number = manager_number manager

  abbrev line : List Queued
  line = line_at queues.lines number

  one : OneThread new users thread f (answered_thread answer)
  one = one_thread users thread f (answered_thread answer) answers.threads answers.held

  -- what the line tells, once the thread is answered
  pub record Left : Type 0 where
    pub own_line : OwnLine (change line) line thread
    pub stand : stands (change line) thread ≡ false
    pub stand_other : (at : ℕ) → at ≢ number → stands_at at (thread_row users thread) ≡ false
    pub calls : unblock_call (change line) thread ≡ None
    pub calls_other : (at call : ℕ) → at ≢ number → unblock_call (line_at queues.lines at) thread ≡ Some call → ⊥
    pub unwaiting : (call : ℕ) → waits_for call (thread_row users thread) ≡ false

  module _ (left : Left) where
    own : Own users new queues thread f (answered_thread answer) one kept manager change
    own = record {
      line = left.own_line;
      stand = left.stand ∙ sym (rw one.own (answered_row answer (thread_row users thread) number));
      stand_other = λ at differs. kept.lines thread at ∙ left.stand_other at differs ∙ sym (rw one.own (answered_row answer (thread_row users thread) at));
      calls = λ call is. let clash : None ≡ Some call = sym left.calls ∙ is in absurd (cc);
      calls_other = λ at call differs is. absurd (left.calls_other at call differs is);
      waits = waits-told users new queues thread f (answered_thread answer) one kept (no-wait (thread_row users thread) (option_map (answered_thread answer) (thread_row users thread)) left.unwaiting);
    }

    pub Kept-left : (prio : ℕ) (lost : Option ServerName) → LosesAt lost (process_of users thread.proc) (process_of new thread.proc) → StandTogether new (with_lost prio thread.proc (option_to_list lost) (with_shared_line queues number change))
    Kept-left prio lost loses = Kept-lost new (with_shared_line queues number change) prio thread.proc (process_of users thread.proc) lost
        (beside users new queues thread f (answered_thread answer) one kept manager change own) (kept.servers thread.proc) loses

-- ---- a queued message goes

module _ (users : Users) (queues : Shared) (thread : Thread) (call : Call) (is : Some call ≡ queued_call (thread_row users thread)) (kept : StandTogether users queues) where
  abbrev its_line : ℕ
  its_line = manager_number call.target.manager

  abbrev drop_message : List Queued → List Queued
  drop_message = line_without thread.proc.user.0 (item.Message thread.proc.num thread.tid)

  at_target : stands_at its_line (thread_row users thread) ≡ true
  at_target = queued-at_target (thread_row users thread) call is

  pub Kept-withdrawn : (f : Process → Process) (answer : Answer) → IsAnswer thread.tid answer f → stands (drop_message (line_at queues.lines its_line)) thread ≡ false
      → (prio : ℕ) (lost : Option ServerName) → LosesAt lost (process_of users thread.proc) (process_of (with_process_of users thread.proc f) thread.proc)
      → StandTogether (with_process_of users thread.proc f) (with_lost prio thread.proc (option_to_list lost)
      (with_shared_line queues (manager_number call.target.manager) (line_without thread.proc.user.0 (item.Message thread.proc.num thread.tid))))
  Kept-withdrawn f answer answers gone = Kept-left users queues thread f answer answers kept call.target.manager drop_message
      (record {
        own_line = record {
          stand = λ other differs. stands-withdrawn_other (line_at queues.lines its_line) thread other differs;
          calls = λ other differs. call-withdrawn (line_at queues.lines its_line) thread other;
        };
        stand = gone;
        stand_other = λ at differs. stands_once (thread_row users thread) its_line at differs at_target;
        calls = call-withdrawn (line_at queues.lines its_line) thread thread ∙ no_pulse its_line;
        calls_other = λ at other differs its. queued-unasked (thread_row users thread) its_line at_target at other (kept.pulses thread at other its);
        unwaiting = queued-unwaiting (thread_row users thread) its_line at_target;
      })
    where
      no_pulse : (at : ℕ) → unblock_call (line_at queues.lines at) thread ≡ None
      no_pulse at = elim (option_cases (unblock_call (line_at queues.lines at) thread)) [
        | inl none ↦ none
        | inr other ↦ absurd (queued-unasked (thread_row users thread) its_line at_target at other.0 (kept.pulses thread at other.0 other.1))
      ]

-- ---- a received message is answered

pub and_last : (a b c : Bool) → (a && b && c) ≡ true → c ≡ true
and_last true true c is = is
and_last true false c is = cc
and_last false b c is = cc

pub and_middle : (a b c : Bool) → (a && b && c) ≡ true → b ≡ true
and_middle true true c is = refl
and_middle true false c is = cc
and_middle false b c is = cc

-- what is known of the thread's pulses: they are of this call, in its line
pulse_of_call : (number call : ℕ) (row : Option ThreadRow) (its : Call) → Some its ≡ taken_call row → asked_call number call row ≡ true → (manager_number its.target.manager ≡ number) × (its.number ≡ call)
pulse_of_call number call row its is asked =
    let it = waits taken_in row its is in
    let both : (it.sent.is_asked && (manager_number it.sent.target.manager == number) && (it.row.calls == call)) ≡ true = rw (it.there, taken_is it.row.state it.sent it.is) at asked in
    (ap (λ target. manager_number target.manager) it.target ∙ eqb-true (manager_number it.sent.target.manager) number (and_middle it.sent.is_asked _ _ both), it.number ∙ eqb-true it.row.calls call (and_last it.sent.is_asked _ _ both))

pub taken-stands : (number : ℕ) (row : Option ThreadRow) (call : Call) → Some call ≡ taken_call row → stands_at number row ≡ false
taken-stands number row call is =
    let it = waits taken_in row call is in
    rw (it.there, taken_is it.row.state it.sent it.is) refl

pub taken-unwaiting : (row : Option ThreadRow) (call : Call) → Some call ≡ taken_call row → (other : ℕ) → waits_for other row ≡ false
taken-unwaiting row call is other =
    let it = waits taken_in row call is in
    rw (it.there, taken_is it.row.state it.sent it.is) refl

module _ (users : Users) (queues : Shared) (thread : Thread) (call : Call) (is : Some call ≡ taken_call (thread_row users thread)) (kept : StandTogether users queues) where
  abbrev call_line : ℕ
  call_line = manager_number call.target.manager

  abbrev drop_pulse : List Queued → List Queued
  drop_pulse = line_without thread.proc.user.0 (item.Unblock thread.proc.num thread.tid call.number)

  pub Kept-answered : (f : Process → Process) (answer : Answer) → IsAnswer thread.tid answer f
      → (unblock_call (line_at queues.lines call_line) thread ≡ Some call.number → unblock_call (drop_pulse (line_at queues.lines call_line)) thread ≡ None)
      → (prio : ℕ) (lost : Option ServerName) → LosesAt lost (process_of users thread.proc) (process_of (with_process_of users thread.proc f) thread.proc)
      → StandTogether (with_process_of users thread.proc f) (with_lost prio thread.proc (option_to_list lost)
      (with_shared_line queues (manager_number call.target.manager) (line_without thread.proc.user.0 (item.Unblock thread.proc.num thread.tid call.number))))
  Kept-answered f answer answers gone = Kept-left users queues thread f answer answers kept call.target.manager drop_pulse
      (record {
        own_line = record {
          stand = λ other differs. stands-replied (line_at queues.lines call_line) thread call.number other;
          calls = λ other differs. call-replied_other (line_at queues.lines call_line) thread call.number other differs;
        };
        stand = stands-replied (line_at queues.lines call_line) thread call.number thread ∙ kept.lines thread call_line ∙ taken-stands call_line (thread_row users thread) call is;
        stand_other = λ at differs. taken-stands at (thread_row users thread) call is;
        calls = no_call;
        calls_other = λ at other differs its. differs (sym (pulse_of_call at other (thread_row users thread) call is (kept.pulses thread at other its)).0);
        unwaiting = taken-unwaiting (thread_row users thread) call is;
      })
    where
      no_call : unblock_call (drop_pulse (line_at queues.lines call_line)) thread ≡ None
      no_call = elim (option_cases (unblock_call (line_at queues.lines call_line) thread)) [
        | inl none ↦ ap (λ l. unblock_call l thread) (replied-none (line_at queues.lines call_line) thread call.number none) ∙ none
        | inr other ↦
            let same : call.number ≡ other.0 = (pulse_of_call call_line other.0 (thread_row users thread) call is (kept.pulses thread call_line other.0 other.1)).1 in
            gone (other.1 ∙ ap Some (sym same))
      ]

-- no unblock pulse of a call stands in a line that was not asked to unblock its thread
pub unasked-none : (row : Option ThreadRow) (call : Call) → Some call ≡ taken_call row → call.is_asked ≡ false → (number other : ℕ) → asked_call number other row ≡ false
unasked-none row call is unasked number other =
    let it = waits taken_in row call is in
    rw (it.there, taken_is it.row.state it.sent it.is, sym it.asked ∙ unasked) refl

pub unasked-line : (users : Users) (queues : Shared) (thread : Thread) (call : Call) → Some call ≡ taken_call (thread_row users thread) → StandTogether users queues → call.is_asked ≡ false → (number : ℕ) → unblock_call (line_at queues.lines number) thread ≡ None
unasked-line users queues thread call is kept unasked number = elim (option_cases (unblock_call (line_at queues.lines number) thread)) [
  | inl none ↦ none
  | inr other ↦ absurd (false≢true (sym (unasked-none (thread_row users thread) call is unasked number other.0) ∙ kept.pulses thread number other.0 other.1))
]

-- so that nothing goes with the answer
pub unasked-same : (queues : Shared) (thread : Thread) (number call : ℕ) → unblock_call (line_at queues.lines number) thread ≡ None
    → queues ≡ with_shared_line queues number (line_without thread.proc.user.0 (item.Unblock thread.proc.num thread.tid call))
unasked-same queues thread number call none =
    λ i. record queues { lines = with_line-same queues.lines number (line_without thread.proc.user.0 (item.Unblock thread.proc.num thread.tid call)) (replied-none (line_at queues.lines number) thread call none) i }
