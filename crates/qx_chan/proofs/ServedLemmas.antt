-- A message is served: its thread is answered beside the calls that waited, as in the machine.
use Rattle.std.proofs.Common.{◌≡◌, inl, inr, ℕ, ◌∷◌, ◌++◌, [], List, Option, Some, None, map, refl, sym, ◌∙◌, ap, true, false}
use Rattle.qx_queues.proofs.NodesLemmas.{same_or_not}
use Rattle.std.specs.List.{AllByRecursion}
use Rattle.std.specs.Option.{option_to_list}
use Rattle.std.specs.Prelude.{Ok, Err, option_map, slice_set}
use Rattle.qx_types.specs.Managers.{manager_number}
use Rattle.qx_base.specs.declared.errno.Errno.{Errno}
use Rattle.qx_types.specs.declared.names.Manager.{Manager}
use Rattle.qx_types.specs.declared.names.Proc.{Proc}
use Rattle.qx_types.specs.declared.names.Thread.{Thread}
use Rattle.qx_types.specs.declared.outcome.Answer.{Answer}
use Rattle.qx_machine.specs.declared.rows.Caller.{Caller}
use Rattle.qx_machine.specs.declared.rows.Over.{Over}
use Rattle.qx_isolation.specs.declared.rows.OwnItem.TheVariants as item
use Rattle.qx_isolation.specs.declared.rows.Queued.{Queued}
use Rattle.qx_isolation.specs.declared.rows.ServerName.{ServerName}
use Rattle.qx_machine.specs.declared.rows.WaitingCall.{WaitingCall}
use Rattle.qx_machine.specs.Functions.{Deed}
use Rattle.qx_isolation.specs.Lines.{line_at, with_line}
use Rattle.qx_machine.specs.Machine.{changed_manager, line_after, line_without, lines_after}
use Rattle.qx_machine.specs.Parts.{Change, Part, with_process}
use Rattle.qx_machine.specs.Resources.{Resources}
use Rattle.qx_machine.specs.Performing.{after_answer, after_serving, answered_changes, own_change}
use Rattle.qx_machine.specs.Processes.{Process, answered_thread}
use Rattle.qx_isolation.specs.Rows.{row_at, with_row}
use Rattle.qx_queues.specs.Queues.{unblock_call, UsersAnswer}
use Rattle.qx_shared.specs.Shared.{Shared, users_given, with_shared_disconnect, with_shared_line}
use Rattle.qx_clients.specs.Calls.{LosesAt}
use Rattle.qx_chan.specs.inner.Answers.{given_lines, given_users}
use Rattle.qx_chan.specs.inner.Calls.{taken_call}
use Rattle.qx_chan.specs.Channel.{failed}
use Rattle.qx_chan.specs.inner.Kept.{Answering, with_lost, IsAwaited, waits_for}
use Rattle.qx_chan.specs.Users.{Users, process_of, thread_row, with_process_of}
use Rattle.qx_chan.specs.declared.call.Call.{Call}
use Rattle.qx_chan.proofs.AnswerLemmas.{IsAnswer, Kept-answered, taken-unwaiting}
use Rattle.qx_chan.proofs.GivenLemmas.{lines-machine, users-machine}
use Rattle.qx_chan.proofs.RowReads.{row_at-with_same, with_row-twice}
use Rattle.qx_chan.proofs.LostLemmas.{lost-fields}
use Rattle.qx_chan.proofs.ThreadLemmas.{OneThread, one_thread}

-- ---- rows

-- a process of a user that is there changes
pub changed-there : (users : Users) (proc : Proc) (f : Process → Process) (processes : List (Option Process)) → row_at users proc.user.0 ≡ Some processes → row_at (with_process_of users proc f) proc.user.0 ≡ Some (with_row processes proc.num f)
changed-there users proc f processes there = row_at-with_same users proc.user.0 (λ rows. with_row rows proc.num f) ∙ ap (option_map (λ rows. with_row rows proc.num f)) there

module _ (users : Users) (proc : Proc) (thread : ℕ) (over : Over) (part : Part) (there : row_at users proc.user.0 ≡ Some part.processes) where
  -- the thread that sent a message that is done, and who waited
  pub users-done : (deed : Deed Resources) → given_users (with_process_of users proc (after_serving thread over deed.reply)) (map (users_given proc.user.0) deed.answers)
      ≡ with_row users proc.user.0 (λ _. (after_answer part proc.num thread over (Ok deed)).processes)
  users-done deed =
      users-machine (with_process_of users proc (after_serving thread over deed.reply)) proc.user.0 deed.answers (with_process proc.num (after_serving thread over deed.reply) (record part { resources = deed.state }))
      (changed-there users proc (after_serving thread over deed.reply) part.processes there)
      ∙ with_row-twice users proc.user.0 (λ rows. with_row rows proc.num (after_serving thread over deed.reply)) (λ _. (after_answer part proc.num thread over (Ok deed)).processes)

  -- the thread that sent one that is answered an error
  pub users-refused : (error : Errno) → with_process_of users proc (failed thread error over) ≡ with_row users proc.user.0 (λ _. (after_answer part proc.num thread over (Err error)).processes)
  users-refused error = ap (slice_set users proc.user.0) (ap (option_map (λ rows. with_row rows proc.num (failed thread error over))) there ∙ ap (option_map (λ _. with_row part.processes proc.num (failed thread error over))) (sym there))

-- ---- lines

pub lines_after-append : (user : ℕ) (lines : List (List Queued)) (first rest : List Change) → lines_after user lines (first ++ rest) ≡ lines_after user (lines_after user lines first) rest
lines_after-append user lines [] rest = refl
lines_after-append user lines (change ∷ first) rest = lines_after-append user (with_line lines (manager_number (changed_manager change)) (line_after user change)) first rest

-- where the message is replied to, by which its process may have lost a server connection
pub lines-done : (users : Users) (user : ℕ) (manager : Manager) (answers : List (WaitingCall × Answer)) (part : Part) → row_at users user ≡ Some part.processes
    → (lines : List (List Queued)) (caller : Caller) (lost : List Change)
    → given_lines users (lines_after user (with_line lines (manager_number manager) (line_without user (item.Unblock caller.process caller.thread caller.call))) lost) (map (users_given user) answers)
    ≡ lines_after user lines ((own_change manager caller ∷ []) ++ lost ++ answered_changes answers part)
lines-done users user manager answers part there lines caller lost =
    lines-machine users user (lines_after user (with_line lines (manager_number manager) (line_without user (item.Unblock caller.process caller.thread caller.call))) lost) answers part there
    ∙ sym (lines_after-append user lines ((own_change manager caller ∷ []) ++ lost) (answered_changes answers part))

-- ---- what stands together

-- answers on their way change nothing of what is lost
abbrev without_answers : Shared → Shared
without_answers c = record c { answered = [] }

lost-cleared : (prio : ℕ) (proc : Proc) (lost : List ServerName) (c : Shared) → without_answers (with_lost prio proc lost c) ≡ with_lost prio proc lost (without_answers c)
lost-cleared prio proc [] c = refl
lost-cleared prio proc (server ∷ lost) c = lost-cleared prio proc lost (with_shared_disconnect c proc server prio)

module _ (users : Users) (queues : Shared) (thread : Thread) (call : Call) (is : Some call ≡ taken_call (thread_row users thread)) (answering : Answering users queues) where
  abbrev drop_pulse : List Queued → List Queued
  drop_pulse = line_without thread.proc.user.0 (item.Unblock thread.proc.num thread.tid call.number)

  -- a received message is answered while other answers are on their way
  pub Answering-answered : (f : Process → Process) (answer : Answer) → IsAnswer thread.tid answer f
      → (unblock_call (line_at queues.lines (manager_number call.target.manager)) thread ≡ Some call.number → unblock_call (drop_pulse (line_at queues.lines (manager_number call.target.manager))) thread ≡ None)
      → (prio : ℕ) (lost : Option ServerName) → LosesAt lost (process_of users thread.proc) (process_of (with_process_of users thread.proc f) thread.proc)
      → Answering (with_process_of users thread.proc f) (with_lost prio thread.proc (option_to_list lost)
      (with_shared_line queues (manager_number call.target.manager) (line_without thread.proc.user.0 (item.Unblock thread.proc.num thread.tid call.number))))
  Answering-answered f answer answers gone prio lost loses = record {
    kept = rw (lost-cleared prio thread.proc (option_to_list lost) changed) (Kept-answered users (without_answers queues) thread call is answering.kept f answer answers gone prio lost loses);
    answered = rw (lost-fields prio thread.proc (λ c. c.answered) (λ c server. refl) (option_to_list lost) changed)
        (awaited queues.answered answering.answered);
  }
    where
      new : Users
      new = with_process_of users thread.proc f

      changed : Shared
      changed = with_shared_line queues (manager_number call.target.manager) drop_pulse

      one : OneThread new users thread f (answered_thread answer)
      one = one_thread users thread f (answered_thread answer) answers.threads answers.held

      awaited : (answered : List UsersAnswer) → AllByRecursion (IsAwaited users) answered → AllByRecursion (IsAwaited new) answered
      awaited [] all = tt
      awaited (given ∷ rest) all = (
        elim (same_or_not given.thread thread) [
          | inr differs ↦ ap (waits_for given.call) (one.others given.thread differs) ∙ all.0
          | inl same ↦
              let clash : false ≡ true = sym (taken-unwaiting (thread_row users thread) call is given.call) ∙ ap (λ t. waits_for given.call (thread_row users t)) (sym same) ∙ all.0 in
              absurd (cc)
        ],
        awaited rest all.1,
      )
