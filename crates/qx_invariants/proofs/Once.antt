-- Of each thread that waits one call waits in its user's pipes, and of any other none, whatever steps are taken.
use Rattle.std.proofs.Common.{◌≡◌, ◌≢◌, ◌⊎◌, inl, inr, ℕ, zero, suc, ◌+◌, ◌<◌, ◌≤◌, ◌==◌, Bool, true, false, List, [], ◌∷◌, refl, sym, ap, ◌∙◌, subst, arith}
use Rattle.std.specs.Prelude.{◌&&◌, ◌||◌, not, Option, Some, None, Result, Ok, Err, if◌then◌else◌, is_none, length, nat_le, nat_lt, option_map, replicate}
use Rattle.std.specs.List.{count_by}
use Rattle.std.proofs.lemmas.Bool.{cases_Bool, cases_eq, cond_both, eqb-true, ne_eqb}
use Rattle.std.proofs.lemmas.List.Folds.{sum_by-replicate}
use Rattle.std.proofs.lemmas.Option.{same_Some}
use Rattle.qx_types.specs.Configuration.{Configuration, limits_of, name_bytes}
use Rattle.qx_types.proofs.LimitLemmas.{limits_within}
use Rattle.qx_types.specs.UserLimits.{UserLimits}
use Rattle.qx_base.specs.declared.errno.Errno.{Errno}
use Rattle.qx_base.specs.declared.errno.Errno.TheVariants.{EAGAIN, EINTR, EINVAL}
use Rattle.qx_types.specs.declared.limits.TheConstants.Limits.{CALLS, INODES, THREADS}
use Rattle.qx_types.specs.declared.names.Manager.{Manager}
use Rattle.qx_types.specs.declared.names.Thread.{Thread}
use Rattle.qx_types.specs.declared.outcome.Answer.{Answer}
use Rattle.qx_types.specs.declared.outcome.Answer.TheVariants as answer
use Rattle.qx_types.specs.declared.outcome.Outcome.TheVariants.{Refused, WrongState}
use Rattle.qx_types.specs.declared.request.Request.{Request}
use Rattle.qx_types.specs.declared.step.Step.{Step}
use Rattle.qx_types.specs.declared.step.Step.TheVariants.{Spawn, Exit, Call, TakeReply, TakePulse, SetPrio, Interrupt, Mount}
use Rattle.qx_wire.specs.Reading.{meaning}
use Rattle.qx_paths.specs.Prefixes.{MountPoint}
use Rattle.qx_machine.specs.declared.rows.Addressed.{Addressed}
use Rattle.qx_machine.specs.declared.rows.Caller.{Caller}
use Rattle.qx_machine.specs.declared.rows.Client.{Client}
use Rattle.qx_machine.specs.declared.rows.Context.{Context}
use Rattle.qx_machine.specs.declared.rows.Effect.{Effect}
use Rattle.qx_machine.specs.declared.rows.Effect.TheVariants.{Keeps}
use Rattle.qx_machine.specs.declared.rows.Opened.{Opened}
use Rattle.qx_machine.specs.declared.rows.Over.{Over}
use Rattle.qx_machine.specs.declared.rows.Over.TheVariants.{New, Existing, Side}
use Rattle.qx_isolation.specs.declared.rows.OwnItem.{OwnItem}
use Rattle.qx_isolation.specs.declared.rows.OwnItem.TheVariants as item
use Rattle.qx_machine.specs.declared.rows.Pulse.{Pulse}
use Rattle.qx_machine.specs.declared.rows.Sent.{Sent}
use Rattle.qx_isolation.specs.declared.rows.ServerName.{ServerName}
use Rattle.qx_machine.specs.declared.rows.State.{State}
use Rattle.qx_machine.specs.declared.rows.State.TheVariants as state
use Rattle.qx_machine.specs.declared.rows.ThreadRow.{ThreadRow}
use Rattle.qx_machine.specs.declared.rows.WaitingCall.{WaitingCall}
use Rattle.qx_machine.specs.Calls.{address, bytes_of, content_of, request_in_ranges, is_ready, may_call, target_at}
use Rattle.qx_machine.specs.Clients.{ClientStep, abandoned, answer_in, call, client_given, interrupt_in, may_give, mount_by, pulse_taken, set_prio, spawn, spawn_number, take_reply, target_by, without_process}
use Rattle.qx_machine.specs.Events.{first_pulse}
use Rattle.qx_machine.specs.Functions.{Deed, Reply}
use Rattle.qx_machine.specs.Inodes.{blocks_of_client}
use Rattle.qx_isolation.specs.Judgements.{found, need}
use Rattle.qx_machine.specs.Managers.{close_client}
use Rattle.qx_machine.specs.Mounting.{with_mount}
use Rattle.qx_machine.specs.Parts.{Part, thread_at, thread_of, with_process}
use Rattle.qx_machine.specs.Performing.{Served, after_answer, after_serving, caller_of, context_of, dup_of, serve_disconnect, serve_message, serve_pulse, taken_in, with_answers}
use Rattle.qx_machine.specs.PipeManager.{cancel_call}
use Rattle.qx_machine.specs.Processes.{Process, after_effect, after_error, after_reply, answered_thread, asked_state, asked_thread, ended, has_ended, has_server, living, new_process, queued_thread, ranked_thread, ready_thread, served_state, served_thread, taken_state, taken_thread, with_over, with_queued, with_thread, without_server}
use Rattle.qx_machine.specs.Resources.{Resources}
use Rattle.qx_isolation.specs.Rows.{lowest_from, put_row, row_at, with_row}
use Rattle.qx_machine.specs.Settling.{has_waiting, is_held, is_kept, processes_left, row_left, stays}
use Rattle.qx_machine.specs.Waiting.{caller_in, Pipes, is_call, is_gone, is_of_process}
use Rattle.qx_machine.specs.Users.{boot_part, client, serve, settle_part, take}
use Rattle.qx_isolation.proofs.Places.{lowest_from_free}
use Rattle.qx_machine.proofs.Settled.{row_at-left}
use Rattle.qx_machine.proofs.Waiters.{opened_by-caller}
use Rattle.qx_clients.specs.Calls.{has_ended_in}
use Rattle.qx_invariants.specs.Holds.{WaitsOnce}
use Rattle.qx_invariants.specs.Waits.{count_answers_to, count_state_waiting, count_waiting, count_waiting_in, is_of, though_gone, unless_gone, waits}
use Rattle.qx_attr.specs.inner.Counts.{one}
use Rattle.qx_invariants.proofs.Balances.{Balanced, IsBalance, balanced-keeps, balanced_first, ChangesThread, after_answers, after_spawn, ended_answers, ended_nobody, ended_same, is_its, same_threads, spawn_ended, thread_changed, thread_other, thread_same, waits_few}
use Rattle.qx_invariants.proofs.Calls.{abandoned_part}
use Rattle.qx_invariants.proofs.Counts.{abandoned_count, count-le, count-split, nobody_holds, nobody_waits, or_parts, waiting-le, waiting-split}
use Rattle.qx_invariants.proofs.Deeds.{Kept, cancel-gives, close_all-closed}
use Rattle.qx_invariants.proofs.Told.{CameWith, telling}
use Rattle.qx_invariants.proofs.Rows.{with_row-at, with_row-other}
use Rattle.qx_machine.proofs.Gives.{Gives, found-row, gives_by, gives_done, gives_error, gives_on, gives-value, need-true}
use Rattle.qx_invariants.proofs.Steps.{answers-resources, client-keeps, deed_kept, kept-keeps, serve-keeps, settle-keeps, take-keeps, unchanged-keeps, IsKept}
use Rattle.qx_invariants.proofs.Together.{Holds, boot_holds, holds-keep}

-- the threads of a user's part that wait are the same, the processes that have ended too, and as many calls wait in the pipes
same_once : (part now : Part) → WaitsOnce part → now.resources.pipes ≡ part.resources.pipes → ((p t : ℕ) → waits (thread_at now p t) ≡ waits (thread_at part p t)) → ((p : ℕ) → has_ended_in (row_at now.processes p) ≡ has_ended_in (row_at part.processes p)) → WaitsOnce now
same_once part now h pipes same ended = record {
  once = λ p t. ap (count_waiting (unless_gone (is_of p t))) pipes ∙ (h.once p t ∙ sym (same p t));
  few = λ p t. subst (λ (all : Pipes). count_waiting (is_of p t) all ≤ 1) (sym pipes) (h.few p t);
  gone = λ p alive. ap (count_waiting (though_gone (is_of_process p))) pipes ∙ h.gone p (sym (ended p) ∙ alive);
}

-- ---- what changes one thread

pub over_changes : (thread : ℕ) (change : ThreadRow → ThreadRow) (over : Over) (manager : Manager) → ChangesThread thread change (λ process. with_over thread manager over (with_thread thread change process))
over_changes thread change (New coid) manager process = refl
over_changes thread change (Existing coid) manager process = refl
over_changes thread change Side manager process = cond_both {A = Process} (is_none (row_at process.sides thread)) _ _ (λ now. now.threads ≡ with_row process.threads thread change) (λ none. refl) (λ some. refl)

pub error_changes : (thread : ℕ) (change : ThreadRow → ThreadRow) (over : Over) → ChangesThread thread change (λ row. after_error thread over (with_thread thread change row))
error_changes thread change Side process = refl
error_changes thread change _ process = refl

effect_changes : (effect : Effect) (process : Process) → (after_effect effect process).threads ≡ process.threads
effect_changes Keeps process = refl
effect_changes _ process = refl

pub reply_changes : (thread : ℕ) (change : ThreadRow → ThreadRow) (over : Over) (effect : Effect) → ChangesThread thread change (λ process. after_reply thread over effect (with_thread thread change process))
reply_changes thread change (New coid) effect process = effect_changes effect (with_thread thread change process)
reply_changes thread change (Existing coid) effect process = effect_changes effect (with_thread thread change process)
reply_changes thread change Side effect process = refl

-- ---- what changes none

-- a server connection goes with its disconnect pulse
pub unserved_same : (processes : List (Option Process)) (number : ℕ) (server : ServerName) (p t : ℕ) → thread_of t (row_at (with_row processes number (without_server server)) p) ≡ thread_of t (row_at processes p)
unserved_same [] number server p t = refl
unserved_same (None ∷ rest) zero server zero t = refl
unserved_same (Some process ∷ rest) zero server zero t = refl
unserved_same (row ∷ rest) zero server (suc p) t = refl
unserved_same (row ∷ rest) (suc number) server zero t = refl
unserved_same (row ∷ rest) (suc number) server (suc p) t = unserved_same rest number server p t

-- ---- states

-- a thread whose message is taken or stands in a line waits in no pipe
taken_none : (s : State) (sent : Sent) → taken_in s ≡ Some sent → count_state_waiting s ≡ 0
taken_none (state.Waiting other) sent is = absurd (cc)
taken_none _ sent is = refl

pub taken_is : (s : State) (sent : Sent) → taken_in s ≡ Some sent → s ≡ state.Taken sent
taken_is (state.Taken other) sent is = cc
taken_is _ sent is = absurd (cc)

ready_none : (s : State) → is_ready s ≡ true → count_state_waiting s ≡ 0
ready_none (state.Waiting other) is = absurd (cc)
ready_none _ is = refl

answered_none : (s : State) (given : Answer) → answer_in s ≡ Some given → count_state_waiting s ≡ 0
answered_none (state.Waiting other) given is = absurd (cc)
answered_none _ given is = refl

asked_same : (s : State) → count_state_waiting (asked_state s) ≡ count_state_waiting s
asked_same state.Ready = refl
asked_same _ = refl

taken_same : (s : State) → count_state_waiting (taken_state s) ≡ count_state_waiting s
taken_same state.Ready = refl
taken_same _ = refl

-- ---- what a worker does

-- a call of a thread is one of its process
of_process : (p t : ℕ) (call : WaitingCall) → one (though_gone (is_of p t) call) ≤ one (though_gone (is_of_process p) call)
of_process p t call = by (call.process == p) (call.thread == t) (is_gone call)
  where
    by : (a b c : Bool) → one ((a && b) && c) ≤ one (a && c)
    by true true c = omega arith
    by true false c = omega arith
    by false b c = omega arith

-- calls were answered, as many as waited before or came: none came whose process has ended
module _ (part mid : Part) (answers : List (WaitingCall × Answer)) (came : List WaitingCall) (h : WaitsOnce part) (balance : IsBalance part.resources.pipes mid.resources.pipes answers came) (here : count_by is_gone came ≡ 0)
    (threads : (p t : ℕ) → waits (thread_at mid p t) ≡ waits (thread_at part p t) + count_by (unless_gone (is_of p t)) came) (ended : (p : ℕ) → has_ended_in (row_at mid.processes p) ≡ has_ended_in (row_at part.processes p)) where
  none_gone : (which : WaitingCall → Bool) → count_by (though_gone which) came ≡ 0
  none_gone which = let less = count-le (though_gone which) is_gone (λ call. by (which call) (is_gone call)) came in omega (arith, less, here)
    where
      by : (a b : Bool) → one (a && b) ≤ one b
      by true b = omega arith
      by false b = omega arith

  -- of a process that has ended no thread waits, and of any other each call is here
  all_here : (p t : ℕ) → (waits (thread_at mid p t) ≡ 0) ⊎ (count_waiting (though_gone (is_of p t)) part.resources.pipes ≡ 0)
  all_here p t = elim (cases_Bool (has_ended_in (row_at part.processes p))) [
    | inl is ↦ inl (ap waits (ended_nobody (row_at mid.processes p) t (ended p ∙ is)))
    | inr alive ↦ inr (let less = waiting-le (though_gone (is_of p t)) (though_gone (is_of_process p)) (of_process p t) part.resources.pipes in let none = h.gone p alive in omega (arith, less, none))
  ]

  mid_once : (p t : ℕ) → count_answers_to (unless_gone (is_of p t)) answers + count_waiting (unless_gone (is_of p t)) mid.resources.pipes ≡ waits (thread_at mid p t)
  mid_once p t = let waited = balance.here (is_of p t) in let once = h.once p t in let now = threads p t in omega (arith, waited, once, now)

  mid_gone : (which : WaitingCall → Bool) → count_answers_to (though_gone which) answers + count_waiting (though_gone which) mid.resources.pipes ≤ count_waiting (though_gone which) part.resources.pipes
  mid_gone which = let waited = balance.gone which in let none = none_gone which in omega (arith, waited, none)

  answers_split : (which : WaitingCall → Bool) → count_answers_to which answers ≡ count_answers_to (unless_gone which) answers + count_answers_to (though_gone which) answers
  answers_split which = count-split (λ (answer : WaitingCall × Answer). which answer.0) (λ (answer : WaitingCall × Answer). is_gone answer.0) answers

  final_once : (p t : ℕ) → count_waiting (unless_gone (is_of p t)) mid.resources.pipes ≡ waits (thread_at (with_answers answers mid) p t)
  final_once p t = by (after_answers p t answers mid) (all_here p t)
    where
      by : ((count_answers_to (is_of p t) answers ≡ 0) × (waits (thread_at (with_answers answers mid) p t) ≡ waits (thread_at mid p t))) ⊎ ((0 < count_answers_to (is_of p t) answers) × (waits (thread_at (with_answers answers mid) p t) ≡ 0))
          → (waits (thread_at mid p t) ≡ 0) ⊎ (count_waiting (though_gone (is_of p t)) part.resources.pipes ≡ 0) → count_waiting (unless_gone (is_of p t)) mid.resources.pipes ≡ waits (thread_at (with_answers answers mid) p t)
      by (inl none) all = let none_here : count_answers_to (unless_gone (is_of p t)) answers ≡ 0 = omega (arith, answers_split (is_of p t), none.0) in omega (arith, mid_once p t, none.1, none_here)
      by (inr some) (inl nobody) = omega (arith, mid_once p t, some.1, nobody)
      by (inr some) (inr nobody) = omega (arith, mid_once p t, mid_gone (is_of p t), answers_split (is_of p t), some.0, some.1, nobody, waits_few (thread_at mid p t))

  mid_few : (p t : ℕ) → count_waiting (is_of p t) mid.resources.pipes ≤ 1
  mid_few p t = by (all_here p t)
    where
      by : (waits (thread_at mid p t) ≡ 0) ⊎ (count_waiting (though_gone (is_of p t)) part.resources.pipes ≡ 0) → count_waiting (is_of p t) mid.resources.pipes ≤ 1
      by (inl nobody) = omega (arith, waiting-split (is_of p t) mid.resources.pipes, waiting-split (is_of p t) part.resources.pipes, mid_once p t, mid_gone (is_of p t), nobody, h.few p t)
      by (inr nobody) = omega (arith, waiting-split (is_of p t) mid.resources.pipes, mid_once p t, mid_gone (is_of p t), nobody, waits_few (thread_at mid p t))

  answered_once : WaitsOnce (with_answers answers mid)
  answered_once = record {
    once = λ p t. ap (λ (s : Resources). count_waiting (unless_gone (is_of p t)) s.pipes) (answers-resources answers mid) ∙ final_once p t;
    few = λ p t. subst (λ (s : Resources). count_waiting (is_of p t) s.pipes ≤ 1) (sym (answers-resources answers mid)) (mid_few p t);
    gone = λ p alive. ap (λ (s : Resources). count_waiting (though_gone (is_of_process p)) s.pipes) (answers-resources answers mid)
        ∙ (let none = h.gone p (sym (ended p) ∙ (sym (ended_answers answers mid p) ∙ alive)) in omega (arith, mid_gone (is_of_process p), none));
  }

module _ (part : Part) (h : WaitsOnce part) (number thread : ℕ) (row : ThreadRow) (there : thread_at part number thread ≡ Some row) (sent : Sent) (taken : taken_in row.state ≡ Some sent) (context : Context) (callers : (over : Opened) → context.opened ≡ Ok over → caller_in over ≡ caller_of number thread row sent) where
  its_row : (other : ThreadRow) → thread_at part number thread ≡ Some other → count_state_waiting other.state ≡ 0
  its_row other is = ap (λ (r : ThreadRow). count_state_waiting r.state) (same_Some _ _ (sym is ∙ there)) ∙ taken_none row.state sent taken

  came_here : (reply : Option Reply) (came : List WaitingCall) → CameWith context reply came → count_by is_gone came ≡ 0
  came_here (Some reply) came none = ap (count_by is_gone) none
  came_here None came own = let alone : count_by is_gone came ≡ 0 + one (is_gone own.call) = ap (count_by is_gone) own.alone in let here : one (is_gone own.call) ≡ 0 = ap one own.here in omega (arith, alone, here)

  came_waits : (over : Over) (reply : Option Reply) (came : List WaitingCall) → CameWith context reply came → (r : Resources) (p t : ℕ)
      → waits (thread_at (with_process number (after_serving thread over reply) (record part { resources = r })) p t) ≡ waits (thread_at part p t) + count_by (unless_gone (is_of p t)) came
  came_waits over (Some reply) came none r p t =
      let same = thread_same (record part { resources = r }) number thread (answered_thread (answer.Reply reply.status reply.bytes)) (after_serving thread over (Some reply)) (reply_changes thread (answered_thread (answer.Reply reply.status reply.bytes)) over reply.effect) (λ other is. sym (its_row other is)) p t in
      let count : count_by (unless_gone (is_of p t)) came ≡ 0 = ap (count_by (unless_gone (is_of p t))) none in
      omega (arith, same, count)
  came_waits over None came own r p t = by (is_its p t own.call)
    where
      its_process : own.call.process ≡ number
      its_process = own.process ∙ ap (λ (c : Caller). c.process) (callers own.opened own.was)

      its_thread : own.call.thread ≡ thread
      its_thread = own.thread ∙ ap (λ (c : Caller). c.thread) (callers own.opened own.was)

      changes : ChangesThread thread served_thread (after_serving thread over None)
      changes process = refl

      count : count_by (unless_gone (is_of p t)) came ≡ 0 + one (is_of p t own.call && true)
      count = ap (count_by (unless_gone (is_of p t))) own.alone ∙ ap (λ gone. 0 + one (is_of p t own.call && not gone)) own.here

      served : waits (option_map served_thread (thread_at part number thread)) ≡ 1
      served = ap (λ place. waits (option_map served_thread place)) there ∙ ap (λ s. count_state_waiting (served_state s)) (taken_is row.state sent taken)

      by : ((is_of p t own.call ≡ true) × (p ≡ own.call.process) × (t ≡ own.call.thread)) ⊎ ((is_of p t own.call ≡ false) × ((p ≢ own.call.process) ⊎ (t ≢ own.call.thread)))
          → waits (thread_at (with_process number (after_serving thread over None) (record part { resources = r })) p t) ≡ waits (thread_at part p t) + count_by (unless_gone (is_of p t)) came
      by (inl its) =
          let now : waits (thread_at (with_process number (after_serving thread over None) (record part { resources = r })) p t) ≡ 1 =
          ap (λ n. waits (thread_at (with_process number (after_serving thread over None) (record part { resources = r })) n t)) (its.1 ∙ its_process)
          ∙ (ap (λ n. waits (thread_at (with_process number (after_serving thread over None) (record part { resources = r })) number n)) (its.2 ∙ its_thread)
          ∙ (ap waits (thread_changed (record part { resources = r }) number thread served_thread (after_serving thread over None) changes) ∙ served)) in
          let before : waits (thread_at part p t) ≡ 0 =
          ap (λ n. waits (thread_at part n t)) (its.1 ∙ its_process) ∙ (ap (λ n. waits (thread_at part number n)) (its.2 ∙ its_thread) ∙ (ap waits there ∙ taken_none row.state sent taken)) in
          let own_one : one (is_of p t own.call && true) ≡ 1 = ap (λ its. one (its && true)) its.0 in
          omega (arith, now, before, own_one, count)
      by (inr other) =
          let apart : (p ≢ number) ⊎ (t ≢ thread) = elsewhere other.1 in
          let same : waits (thread_at (with_process number (after_serving thread over None) (record part { resources = r })) p t) ≡ waits (thread_at part p t) =
          ap waits (thread_other (record part { resources = r }) number thread served_thread (after_serving thread over None) changes p t apart) in
          let own_none : one (is_of p t own.call && true) ≡ 0 = ap (λ its. one (its && true)) other.0 in
          omega (arith, same, own_none, count)
        where
          elsewhere : ((p ≢ own.call.process) ⊎ (t ≢ own.call.thread)) → (p ≢ number) ⊎ (t ≢ thread)
          elsewhere (inl apart) = inl (λ e. apart (e ∙ sym its_process))
          elsewhere (inr apart) = inr (λ e. apart (e ∙ sym its_thread))

  serving_threads : (over : Over) (reply : Option Reply) (process : Process) → length (after_serving thread over reply process).threads ≡ length process.threads
  serving_threads over None process = same_threads thread served_thread (after_serving thread over None) (λ row. refl) process
  serving_threads over (Some reply) process =
      same_threads thread (answered_thread (answer.Reply reply.status reply.bytes)) (after_serving thread over (Some reply)) (reply_changes thread (answered_thread (answer.Reply reply.status reply.bytes)) over reply.effect) process

  served_once : (over : Over) (given : Result (Deed Resources) Errno) → Gives (Kept (Balanced part.resources) (balanced-keeps part.resources) part.resources context) given → WaitsOnce (after_answer part number thread over given)
  served_once over (Ok deed) kept =
      let k = gives-value (Kept (Balanced part.resources) (balanced-keeps part.resources) part.resources context) (Ok deed) deed refl kept in
      let after : Part = record part { resources = deed.state } in
      answered_once part (with_process number (after_serving thread over deed.reply) after) deed.answers k.came h (k.kept.balance refl) (came_here deed.reply k.came k.own) (came_waits over deed.reply k.came k.own deed.state)
      (ended_same after number (after_serving thread over deed.reply) (serving_threads over deed.reply))
  served_once over (Err error) kept =
      let failed : Process → Process = λ process. after_error thread over (with_thread thread (answered_thread (answer.Failed error)) process) in
      let changes : ChangesThread thread (answered_thread (answer.Failed error)) failed = error_changes thread (answered_thread (answer.Failed error)) over in
      same_once part (after_answer part number thread over (Err error)) h refl
      (thread_same part number thread (answered_thread (answer.Failed error)) failed changes (λ other is. sym (its_row other is))) (ended_same part number failed (same_threads thread (answered_thread (answer.Failed error)) failed changes))

-- ---- a user's part

-- how its resources stand, and that
pub record Stands (part : Part) : Type 0 where
  pub holds : Holds part.resources
  pub waits_once : WaitsOnce part

message_once : (part : Part) → Stands part → (prio number thread moment : ℕ) → Gives (λ (served : Served). WaitsOnce served.part) (serve_message prio part number thread moment)
message_once part h prio number thread moment =
    gives_on _ (found (row_at part.processes number) WrongState) _ (λ process is_process.
    gives_on _ (found (row_at process.threads thread) WrongState) _ (λ row is_row.
    gives_on _ (found (taken_in row.state) WrongState) _ (λ sent is_sent.
    let caller = caller_of number thread row sent in
    let given = meaning sent.bytes in
    gives_done _ _ (served_once part h.waits_once number thread row (ap (thread_of thread) (found-row _ _ process is_process) ∙ found-row _ _ row is_row) sent (found-row _ _ sent is_sent) (context_of process caller sent.target moment given)
    (opened_by-caller process caller sent.target moment (dup_of given)) sent.target.over _
    (deed_kept (Balanced part.resources) (balanced-keeps part.resources) part.resources (balanced_first part.resources h.holds) process caller sent.target moment sent.bytes)))))

pulse_once : (part : Part) → Stands part → (process thread number moment : ℕ) → Gives (λ (served : Served). WaitsOnce served.part) (serve_pulse part process thread number moment)
pulse_once part h process thread number moment =
    gives_by (λ (deed : Deed Resources). Balanced part.resources deed.state (telling deed.answers [])) _ (cancel_call part.resources process thread number moment) _
    (cancel-gives (Balanced part.resources) (balanced-keeps part.resources) part.resources (balanced_first part.resources h.holds) process thread number moment) (λ deed kept.
    gives_done _ _ (answered_once part (record part { resources = deed.state }) deed.answers [] h.waits_once (kept.balance refl) refl (λ p t. omega arith) (λ p. refl)))

disconnect_once : (part : Part) → Stands part → (client : Client) (moment : ℕ) → Gives (λ (served : Served). WaitsOnce served.part) (serve_disconnect part client moment)
disconnect_once part h client moment =
    gives_on _ (found (row_at part.processes client.process) WrongState) _ (λ row is.
    let deed = close_client part.resources client moment in
    let after : Part = record part { resources = deed.state } in
    let closed = close_all-closed (Balanced part.resources) (balanced-keeps part.resources) client.server.manager moment (blocks_of_client part.resources.inodes client) [] [] part.resources (balanced_first part.resources h.holds) in
    gives_done _ _ (answered_once part (with_process client.process (without_server client.server) after) deed.answers [] h.waits_once (closed.kept.balance refl) refl
    (λ p t. let same = unserved_same part.processes client.process client.server p t in let alike : waits (thread_at (with_process client.process (without_server client.server) after) p t) ≡ waits (thread_at part p t) = ap waits same in omega (arith, alike))
    (ended_same after client.process (without_server client.server) (λ process. refl))))

pub serve_once : (config : Configuration) (user : ℕ) (held : List OwnItem) (part : Part) (own : OwnItem) (moment : ℕ) → Stands part → WaitsOnce (serve config user held part own moment).part
unfolding serve
serve_once config user held part (item.Message process thread) moment h = kept-keeps WaitsOnce part h.waits_once _ (message_once part h (limits_of config user).disconnect process thread moment)
serve_once config user held part (item.Unblock process thread number) moment h = kept-keeps WaitsOnce part h.waits_once _ (pulse_once part h process thread number moment)
serve_once config user held part (item.Disconnect process server) moment h = kept-keeps WaitsOnce part h.waits_once _ (disconnect_once part h (record { process = process; server = server }) moment)

pub take_once : (part : Part) (own : OwnItem) → WaitsOnce part → WaitsOnce (take part own)
unfolding take
take_once part (item.Message process thread) h =
    same_once part (with_process process (with_thread thread taken_thread) part) h refl (thread_same part process thread taken_thread (with_thread thread taken_thread) (λ row. refl) (λ row is. taken_same row.state))
    (ended_same part process (with_thread thread taken_thread) (same_threads thread taken_thread (with_thread thread taken_thread) (λ row. refl)))
take_once part (item.Unblock process thread number) h = h
take_once part (item.Disconnect process server) h = h

-- ---- the end of a step

-- a process goes that has ended, of which no call waits
pub record IsFreed (held : List OwnItem) (pipes : Pipes) (number : ℕ) (process : Process) : Type 0 where
  pub ended : has_ended process ≡ true
  pub none : has_waiting pipes number ≡ false

pub freed-by : (held : List OwnItem) (pipes : Pipes) (number : ℕ) (process : Process) → stays held pipes number process ≡ false → IsFreed held pipes number process
freed-by held pipes number process goes =
    let both = or_parts (not (has_ended process)) (is_kept held pipes number process) goes in
    record { ended = not_false (has_ended process) both.0; none = (or_parts (has_server process || is_held held number) (has_waiting pipes number) both.1).1 }
  where
    not_false : (a : Bool) → not a ≡ false → a ≡ true
    not_false true is = refl
    not_false false is = absurd (cc)

module _ (held : List OwnItem) (pipes : Pipes) where
  -- what is left of the processes, seen in one of them
  pub left-at : (number : ℕ) (rows : List (Option Process)) → row_at (processes_left held pipes 0 rows) number ≡ row_left held pipes number (row_at rows number)
  left-at number rows = row_at-left held pipes 0 number rows ∙ ap (λ n. row_left held pipes n (row_at rows number)) (omega arith)

  left_thread : (number t : ℕ) (row : Option Process) → thread_of t (row_left held pipes number row) ≡ thread_of t row
  left_thread number t None = refl
  left_thread number t (Some process) =
      cond_both (stays held pipes number process) (Some process) None (λ left. thread_of t left ≡ row_at process.threads t) (λ is. refl) (λ goes. sym (ended_nobody (Some process) t (freed-by held pipes number process goes).ended))

  left_gone : (number : ℕ) (row : Option Process) → has_ended_in (row_left held pipes number row) ≡ false → (has_ended_in row ≡ false) ⊎ (has_waiting pipes number ≡ false)
  left_gone number None alive = inl alive
  left_gone number (Some process) alive = by (stays held pipes number process) refl alive
    where
      by : (b : Bool) → stays held pipes number process ≡ b → has_ended_in (if b then Some process else None) ≡ false → (has_ended process ≡ false) ⊎ (has_waiting pipes number ≡ false)
      by true is alive = inl alive
      by false goes alive = inr (freed-by held pipes number process goes).none

pub settle_once : (before : Part) (held : List OwnItem) (after : Part) → WaitsOnce after → WaitsOnce (settle_part before held after)
unfolding settle_part
settle_once before held after h = record {
  once = λ p t. h.once p t ∙ ap waits (sym (ap (thread_of t) (left-at held after.resources.pipes p after.processes) ∙ left_thread held after.resources.pipes p t (row_at after.processes p)));
  few = h.few;
  gone = λ p alive. elim (left_gone held after.resources.pipes p (row_at after.processes p) (ap has_ended_in (sym (left-at held after.resources.pipes p after.processes)) ∙ alive)) [
    | inl living ↦ h.gone p living
    | inr none ↦
        let nobody = nobody_holds (is_of_process p) after.resources.pipes none in
        let less = waiting-split (is_of_process p) after.resources.pipes in
        omega (arith, nobody, less)
  ];
}

-- ---- what a client does

-- a thread is there, and ready
pub record IsReadyThread (part : Part) (number thread : ℕ) : Type 0 where
  pub row : ThreadRow
  pub there : thread_at part number thread ≡ Some row
  pub ready : is_ready row.state ≡ true

gives_all : {A E : Type 0} (R : Type 0) (given : Result A E) → R → Gives (λ _. R) given
gives_all R (Ok value) h = gives_done _ _ h
gives_all R (Err error) h = gives_error _ _

pub may_call-ready : (row : ThreadRow) (asked : Request) → Gives (λ _. is_ready row.state ≡ true) (may_call row asked)
may_call-ready row asked =
    gives_on _ (need (is_ready row.state) WrongState) _ (λ ready is_one.
    gives_on _ (need (request_in_ranges asked) (Refused EINVAL)) _ (λ valid is_valid.
    gives_on _ (need (nat_lt row.calls CALLS) (Refused EAGAIN)) _ (λ countable is_countable. gives_done _ _ (need-true _ _ ready is_one))))

pub target-ready : (config : Configuration) (user : ℕ) (mounts : List MountPoint) (part : Part) (thread : Thread) (asked : Request) → Gives (λ (_ : Addressed). IsReadyThread part thread.proc.num thread.tid) (target_by config user mounts part.processes thread asked)
target-ready config user mounts part thread asked =
    gives_on _ (found (row_at part.processes thread.proc.num) WrongState) _ (λ process is_process.
    gives_on _ (found (row_at process.threads thread.tid) WrongState) _ (λ row is_row.
    gives_by (λ _. is_ready row.state ≡ true) _ (may_call row asked) _ (may_call-ready row asked) (λ may ready.
    gives_all _ (target_at config user mounts part.processes process row.prio (address asked)) (record { row = row; there = ap (thread_of thread.tid) (found-row _ _ process is_process) ∙ found-row _ _ row is_row; ready = ready }))))

-- a process that has not ended is there
pub living-there : (row : Option Process) (process : Process) → living row ≡ Some process → row ≡ Some process
living-there None process is = absurd (cc)
living-there (Some there) process is = cond_both (has_ended there) None (Some there) (λ row. row ≡ Some process → Some there ≡ Some process) (λ ended none. absurd (cc)) (λ lives some. some) is

pub spawn_free : (limits : UserLimits) (part : Part) (threads prio : ℕ) → Gives (λ number. row_at part.processes number ≡ None) (spawn_number limits part.processes threads prio)
spawn_free limits part threads prio =
    gives_on _ (need (nat_le 1 threads && nat_le threads THREADS) (Refused EINVAL)) _ (λ valid is_valid.
    gives_on _ (may_give limits.ceiling prio) _ (λ allowed is_allowed.
    gives_on _ (need (nat_le (lowest_from 1 part.processes) limits.processes) (Refused EAGAIN)) _ (λ free is_free. gives_done _ _ (lowest_from_free 1 part.processes))))

module _ (part : Part) (h : WaitsOnce part) where
  abbrev Gave : ClientStep → Type 0
  Gave given = WaitsOnce given.part

  -- a thread changes, and who waits does not
  thread_once : (number thread : ℕ) (change : ThreadRow → ThreadRow) (f : Process → Process) → ChangesThread thread change f → ((row : ThreadRow) → thread_at part number thread ≡ Some row → count_state_waiting (change row).state ≡ count_state_waiting row.state) → WaitsOnce (with_process number f part)
  thread_once number thread change f changes same = same_once part (with_process number f part) h refl (thread_same part number thread change f changes same) (ended_same part number f (same_threads thread change f changes))

  -- the same where one row is there
  row_once : (number thread : ℕ) (change : ThreadRow → ThreadRow) (f : Process → Process) → ChangesThread thread change f → (row : ThreadRow) → thread_at part number thread ≡ Some row → count_state_waiting (change row).state ≡ count_state_waiting row.state → WaitsOnce (with_process number f part)
  row_once number thread change f changes row there same = thread_once number thread change f changes (λ other is. subst (λ (r : ThreadRow). count_state_waiting (change r).state ≡ count_state_waiting r.state) (same_Some _ _ (sym there ∙ is)) same)

  spawn_once : (limits : UserLimits) (threads prio : ℕ) → Gives Gave (spawn limits part threads prio)
  spawn_once limits threads prio =
      gives_by (λ number. row_at part.processes number ≡ None) _ (spawn_number limits part.processes threads prio) _ (spawn_free limits part threads prio) (λ number free.
      gives_done _ _ (same_once part (record part { processes = put_row part.processes number (new_process threads prio) }) h refl (after_spawn part number threads prio free) (spawn_ended part number threads prio free)))

  call_once : (config : Configuration) (user : ℕ) (thread : Thread) (asked : Request) → Gives Gave (call config user part thread asked)
  call_once config user thread asked =
      gives_by (λ (_ : Addressed). IsReadyThread part thread.proc.num thread.tid) _ (target_by config user part.resources.mounts part.processes thread asked) _ (target-ready config user part.resources.mounts part thread asked) (λ addressed ready.
      let sent : Sent = record { target = addressed.target; is_asked = false; bytes = bytes_of (content_of asked addressed.rest addressed.to) } in
      gives_done _ _ (row_once thread.proc.num thread.tid (queued_thread sent) (with_queued thread.tid sent) (over_changes thread.tid (queued_thread sent) addressed.target.over addressed.target.manager) ready.row ready.there (sym (ready_none ready.row.state ready.ready))))

  reply_once : (thread : Thread) → Gives Gave (take_reply part thread)
  reply_once thread =
      gives_on _ (found (thread_at part thread.proc.num thread.tid) WrongState) _ (λ row is.
      gives_on _ (found (answer_in row.state) WrongState) _ (λ given answered.
      gives_done _ _ (row_once thread.proc.num thread.tid ready_thread (with_thread thread.tid ready_thread) (λ process. refl) row (found-row _ _ row is) (sym (answered_none row.state given (found-row _ _ given answered))))))

  prio_once : (ceiling : ℕ) (thread : Thread) (prio : ℕ) → Gives Gave (set_prio ceiling part thread prio)
  prio_once ceiling thread prio =
      gives_on _ (found (thread_at part thread.proc.num thread.tid) WrongState) _ (λ row is.
      gives_on _ (may_give ceiling prio) _ (λ allowed is_allowed.
      gives_done _ _ (thread_once thread.proc.num thread.tid (ranked_thread prio) (with_thread thread.tid (ranked_thread prio)) (λ process. refl) (λ other there. refl))))

  asked_once : (thread : Thread) → WaitsOnce (with_process thread.proc.num (with_thread thread.tid asked_thread) part)
  asked_once thread = thread_once thread.proc.num thread.tid asked_thread (with_thread thread.tid asked_thread) (λ process. refl) (λ other there. asked_same other.state)

  interrupt_in-once : (prio : ℕ) (thread : Thread) (number : ℕ) (row : ThreadRow) → thread_at part thread.proc.num thread.tid ≡ Some row → (doing : State) → row.state ≡ doing → Gave (interrupt_in prio part thread number doing)
  interrupt_in-once prio thread number row there (state.Queued sent) is =
      row_once thread.proc.num thread.tid (answered_thread (answer.Failed EINTR)) (λ process. after_error thread.tid sent.target.over (with_thread thread.tid (answered_thread (answer.Failed EINTR)) process)) (error_changes thread.tid (answered_thread (answer.Failed EINTR)) sent.target.over) row there (ap count_state_waiting (sym is))
  interrupt_in-once prio thread number row there (state.Taken sent) is = cond_both sent.is_asked _ _ Gave (λ asked. h) (λ first. asked_once thread)
  interrupt_in-once prio thread number row there (state.Waiting sent) is = cond_both sent.is_asked _ _ Gave (λ asked. h) (λ first. asked_once thread)
  interrupt_in-once prio thread number row there _ is = h

  pulse_taken-once : (process : ℕ) (first : Option Pulse) → Gave (pulse_taken part process first)
  pulse_taken-once process None = h
  pulse_taken-once process (Some first) = record { once = h.once; few = h.few; gone = h.gone }

  -- a process ends, and each call of it that waits is of one that has ended
  module _ (number : ℕ) (process : Process) (there : row_at part.processes number ≡ Some process) where
    abbrev exited : Part
    exited = with_process number ended (record part { resources = without_process number part.resources })

    exited_row : row_at exited.processes number ≡ Some (ended process)
    exited_row = with_row-at part.processes number ended ∙ ap (option_map ended) there

    exited_other : (p : ℕ) → p ≢ number → row_at exited.processes p ≡ row_at part.processes p
    exited_other p apart = with_row-other part.processes number ended p apart

    -- what is seen of other processes' calls alone is the same
    other_calls : (p : ℕ) → p ≢ number → (which : WaitingCall → Bool) → ((call : WaitingCall) → call.process ≢ p → which call ≡ false) → count_waiting which exited.resources.pipes ≡ count_waiting which part.resources.pipes
    other_calls p apart which others = abandoned_count number which which each part.resources.pipes
      where
        each : (call : WaitingCall) → which (abandoned number call) ≡ which call
        each call = cond_both (is_of_process number call) _ _ (λ now. which now ≡ which call)
            (λ its. let not_its : call.process ≢ p = λ same. apart (sym same ∙ eqb-true call.process number its) in others (record call { is_gone = true }) not_its ∙ sym (others call not_its)) (λ other. refl)

    own_calls : (t : ℕ) → count_waiting (unless_gone (is_of number t)) exited.resources.pipes ≡ 0
    own_calls t = abandoned_count number (unless_gone (is_of number t)) (λ call. false) each part.resources.pipes ∙ nobody_waits part.resources.pipes
      where
        nothing_and : (b : Bool) → (b && false) ≡ false
        nothing_and true = refl
        nothing_and false = refl

        each : (call : WaitingCall) → unless_gone (is_of number t) (abandoned number call) ≡ false
        each call = cond_both (is_of_process number call) _ _ (λ now. unless_gone (is_of number t) now ≡ false)
            (λ its. nothing_and (is_of number t call)) (λ other. ap (λ b. (b && (call.thread == t)) && not (is_gone call)) other)

    not_of : (p : ℕ) (call : WaitingCall) → call.process ≢ p → (call.process == p) ≡ false
    not_of p call apart = ne_eqb call.process p apart

    exit_once : WaitsOnce exited
    exit_once = record {
      once = λ p t. elim (cases_eq p number) [
        | inl same ↦ subst (λ n. count_waiting (unless_gone (is_of n t)) exited.resources.pipes ≡ waits (thread_at exited n t)) (sym same) (own_calls t ∙ sym (ap (λ row. waits (thread_of t row)) exited_row))
        | inr apart ↦
            other_calls p apart (unless_gone (is_of p t)) (λ call differs. ap (λ b. (b && (call.thread == t)) && not (is_gone call)) (not_of p call differs)) ∙ (h.once p t ∙ ap (λ row. waits (thread_of t row)) (sym (exited_other p apart)))
      ];
      few = λ p t. let same = abandoned_count number (is_of p t) (is_of p t) (λ call. abandoned_part number call (is_of p t) refl) part.resources.pipes in let few = h.few p t in omega (arith, same, few);
      gone = λ p alive. elim (cases_eq p number) [
        | inl same ↦ let clash : true ≡ false = ap has_ended_in (sym exited_row) ∙ (ap (λ n. has_ended_in (row_at exited.processes n)) (sym same) ∙ alive) in absurd (cc)
        | inr apart ↦ other_calls p apart (though_gone (is_of_process p)) (λ call differs. ap (λ b. b && is_gone call) (not_of p call differs)) ∙ h.gone p (ap has_ended_in (sym (exited_other p apart)) ∙ alive)
      ];
    }

  client_given-once : (config : Configuration) (user : ℕ) (held : List OwnItem) (e : Step) → Gives Gave (client_given config user held part e)
  client_given-once config user held (Spawn of_user threads prio) = spawn_once (limits_of config user) threads prio.0
  client_given-once config user held (Call thread asked) = call_once config user thread asked
  client_given-once config user held (TakeReply thread) = reply_once thread
  client_given-once config user held (Exit proc) =
      gives_on _ (found (living (row_at part.processes proc.num)) WrongState) _ (λ process is. gives_done _ _ (exit_once proc.num process (living-there (row_at part.processes proc.num) process (found-row _ _ process is))))
  client_given-once config user held (TakePulse proc) = gives_on _ (found (living (row_at part.processes proc.num)) WrongState) _ (λ process is. gives_done _ _ (pulse_taken-once proc.num (first_pulse proc.num part.resources.events)))
  client_given-once config user held (SetPrio thread prio) = prio_once (limits_of config user).ceiling thread prio.0
  client_given-once config user held (Interrupt thread) = gives_on _ (found (thread_at part thread.proc.num thread.tid) WrongState) _ (λ row is. gives_done _ _ (interrupt_in-once (limits_of config user).disconnect thread row.calls row (found-row _ _ row is) row.state refl))
  client_given-once config user held (Mount thread path manager) =
      gives_on _ (mount_by config user part thread path manager) _ (λ mount is. gives_done _ _ (same_once part (record part { resources = with_mount mount part.resources }) h refl (λ p t. refl) (λ p. refl)))
  client_given-once config user held _ = gives_error _ _

  client_once : (config : Configuration) (user : ℕ) (held : List OwnItem) (e : Step) → Gave (client config user held part e)
  unfolding client
  client_once config user held e = unchanged-keeps WaitsOnce part h _ (client_given-once config user held e)

-- ---- whatever steps are taken

pub take_stands : (part : Part) (own : OwnItem) → Stands part → Stands (take part own)
take_stands part own h = record { holds = take-keeps Holds holds-keep part own h.holds; waits_once = take_once part own h.waits_once }

pub settle_stands : (before : Part) (held : List OwnItem) (after : Part) → Stands after → Stands (settle_part before held after)
settle_stands before held after h = record { holds = settle-keeps Holds holds-keep before held after h.holds; waits_once = settle_once before held after h.waits_once }

pub stands_kept : (config : Configuration) → IsKept config (λ user. Stands)
stands_kept config = record {
  client_step = λ user held part e h. record { holds = client-keeps Holds holds-keep config user held part e h.holds; waits_once = client_once part h.waits_once config user held e };
  taking = λ user. take_stands;
  serving = λ user held part own moment h. record { holds = serve-keeps Holds holds-keep config user held part own moment h.holds; waits_once = serve_once config user held part own moment h };
  settling = λ user. settle_stands;
}

pub none_wait : (which : WaitingCall → Bool) (places : ℕ) → count_waiting which (replicate places None) ≡ 0
none_wait which places = let all = sum_by-replicate (count_waiting_in which) places None in omega (arith, all)

nobody_there : (processes : List (Option Process)) → processes ≡ None ∷ [] → (p t : ℕ) → waits (thread_of t (row_at processes p)) ≡ 0
nobody_there processes is zero t = ap (λ rows. waits (thread_of t (row_at rows 0))) is
nobody_there processes is (suc p) t = ap (λ rows. waits (thread_of t (row_at rows (suc p)))) is

pub stands_boot : (config : Configuration) (user : ℕ) → Stands (boot_part config user)
unfolding boot_part
stands_boot config user = record {
  holds = boot_holds (limits_of config user) (limits_within config user) user (name_bytes config user);
  waits_once = record {
    once = λ p t. none_wait (unless_gone (is_of p t)) (INODES + 1) ∙ sym (nobody_there (None ∷ []) refl p t);
    few = λ p t. let none = none_wait (is_of p t) (INODES + 1) in omega (arith, none);
    gone = λ p alive. none_wait (though_gone (is_of_process p)) (INODES + 1);
  };
}

-- ---- one call

-- a call waits once, or not at all
pub call_waits_once : (part : Part) → WaitsOnce part → (process thread number : ℕ) → count_waiting (is_call process thread number) part.resources.pipes ≤ 1
call_waits_once part h process thread number =
    let fewer = waiting-le (is_call process thread number) (is_of process thread) (λ call. test (is_of process thread call) (call.call == number)) part.resources.pipes in
    let few = h.few process thread in
    omega (arith, fewer, few)
  where
    test : (a b : Bool) → one (a && b) ≤ one a
    test true true = omega arith
    test true false = omega arith
    test false b = omega arith
