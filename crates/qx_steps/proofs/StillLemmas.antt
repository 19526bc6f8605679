-- Resources are still those of the channel's users once the channel has changed, where its pipes and events are as before, and where a pulse is taken.
use Rattle.std.proofs.Common.{length, ◌≡◌, inl, inr, ℕ, List, Option, Some, None, refl, ap}
use Rattle.std.specs.Prelude.{is_some, map, option_map, slice_get}
use Rattle.std.proofs.lemmas.Bool.{cases_Bool}
use Rattle.qx_types.specs.UserLimits.{UserLimits}
use Rattle.qx_types.specs.Configuration.{Configuration}
use Rattle.qx_base.specs.declared.errno.Errno.TheVariants.{EINTR}
use Rattle.qx_types.specs.declared.names.Manager.{Manager}
use Rattle.qx_types.specs.declared.names.Proc.{Proc}
use Rattle.qx_types.specs.declared.names.Thread.{Thread}
use Rattle.qx_types.specs.declared.outcome.Answer.{Answer}
use Rattle.qx_isolation.specs.declared.rows.Held.{Held}
use Rattle.qx_isolation.specs.declared.rows.OwnItem.{OwnItem}
use Rattle.qx_isolation.specs.declared.rows.OwnItem.TheVariants as item
use Rattle.qx_machine.specs.declared.rows.Pulse.{Pulse}
use Rattle.qx_isolation.specs.declared.rows.Queued.{Queued}
use Rattle.qx_machine.specs.declared.rows.Sent.{Sent}
use Rattle.qx_machine.specs.Clients.{spawn_number}
use Rattle.qx_machine.specs.Events.{first_pulse}
use Rattle.qx_machine.specs.Processes.{Process, asked_thread, ended, living, ready_thread, taken_thread, with_queued, with_thread}
use Rattle.qx_isolation.specs.Rows.{with_row}
use Rattle.qx_machine.specs.Settling.{processes_left}
use Rattle.qx_clients.specs.Calls.{after_or, spawned, with_prio}
use Rattle.qx_resources.specs.State.{told, Kept}
use Rattle.qx_machine.specs.Reads.{answer_of}
use Rattle.qx_chan.specs.Calls.{queued_call, unasked_call}
use Rattle.qx_chan.specs.Channel.{Channel, after_asking, after_exit, after_interrupt, after_pulse, after_ranking, after_receive, after_send, after_spawn, after_taking, after_withdrawing, asked, channel_events, channel_line, channel_pipes, ended_in, failed, lists, readied, with_first_taken, with_pulse_taken, withdrawn}
use Rattle.qx_chan.specs.declared.call.Call.{Call}
use Rattle.qx_chan.specs.Users.{process_of, thread_row}
use Rattle.qx_steps.specs.inner.Parts.{told_all, told_world, world_of, AreResourcesOf, SameUsers}
use Rattle.qx_steps.specs.inner.Performing.{with_left}
use Rattle.qx_steps.proofs.PartsLemmas.{same-with_processes}

-- a channel with the same pipes, events and mounts tells the same resources
pub world-told : (config : Configuration) (c d : Channel) (ks : List (Option Kept)) (hands : List (Option Held)) → lists d ≡ lists c → world_of config d ks hands ≡ told_world config d (told_all c ks) hands
world-told config c d ks hands same = ap (λ waits. told_world config d (map (option_map (λ kept. told kept waits)) ks) hands) same

-- a channel in which the same users have processes and places for mounts
pub of-users : (c d : Channel) (ks : List (Option Kept)) → AreResourcesOf c ks → SameUsers d.users ks → length d.mounts ≡ length c.mounts → AreResourcesOf d ks
of-users c d ks of users mounts = record { same = users; own = of.own; mounts = λ user kept is. rw mounts (of.mounts user kept is) }

-- they are so still, and pipes, events and mounts are as before
pub record Still (c d : Channel) (ks : List (Option Kept)) : Type 0 where
  pub of : AreResourcesOf d ks
  pub waits : lists d ≡ lists c

module _ (c : Channel) (ks : List (Option Kept)) (of : AreResourcesOf c ks) where
  -- one user's processes change
  one : (user : ℕ) (change : List (Option Process) → List (Option Process)) → SameUsers (with_row c.users user change) ks
  one user change = same-with_processes c.users ks user change of.same

  pub still-spawn : (limits : UserLimits) (user threads prio : ℕ) → AreResourcesOf (after_spawn limits c user threads prio) ks
  still-spawn limits user threads prio = of-users c (after_spawn limits c user threads prio) ks of (one user (λ processes. spawned processes threads prio (spawn_number limits processes threads prio))) refl

  pub still-ranking : (ceiling : ℕ) (thread : Thread) (prio : ℕ) → AreResourcesOf (after_ranking ceiling c thread prio) ks
  still-ranking ceiling thread prio = of-users c (after_ranking ceiling c thread prio) ks of (one thread.proc.user.0 (λ processes. after_or processes (with_prio ceiling processes thread.proc.num thread.tid prio))) refl

  pub still-send : (thread : Thread) (sent : Sent) → AreResourcesOf (after_send c thread sent) ks
  still-send thread sent = of-users c (after_send c thread sent) ks of (one thread.proc.user.0 (λ processes. with_row processes thread.proc.num (with_queued thread.tid sent))) refl

  taken : (first : Option Queued) → SameUsers (with_first_taken c.users first) ks
  taken None = of.same
  taken (Some first) = by_item first.item
    where
      by_item : (own : OwnItem) → SameUsers (with_first_taken c.users (Some (record { user = first.user; item = own; prio = first.prio }))) ks
      by_item (item.Message process thread) = one first.user.0 (λ processes. with_row processes process (with_thread thread taken_thread))
      by_item (item.Unblock process thread call) = of.same
      by_item (item.Disconnect process server) = of.same

  pub still-receive : (manager : Manager) → AreResourcesOf (after_receive c manager) ks
  still-receive manager = of-users c (after_receive c manager) ks of (taken (slice_get (channel_line c manager) 0)) refl

  -- a process ends
  ended_by : (prio : ℕ) (proc : Proc) (process : Option Process) → AreResourcesOf (ended_in prio c proc process) ks
  ended_by prio proc None = of
  ended_by prio proc (Some process) = of-users c (ended_in prio c proc (Some process)) ks of (one proc.user.0 (λ processes. with_row processes proc.num ended)) refl

  pub still-exit : (prio : ℕ) (proc : Proc) → AreResourcesOf (after_exit prio c proc) ks
  still-exit prio proc = ended_by prio proc (living (process_of c.users proc))

  -- processes that have ended are freed
  pub still-left : (held : List OwnItem) (user room : ℕ) → AreResourcesOf (record (with_left c held user) { room = room }) ks
  still-left held user room = of-users c (record (with_left c held user) { room = room }) ks of (one user (processes_left held (channel_pipes c user) 0)) refl

  -- where a thread has a call, or an answer, its process changes

  asked_by : (thread : Thread) (call : Option Call) → Still c (asked c thread call) ks
  asked_by thread None = record { of = of; waits = refl }
  asked_by thread (Some call) = record { of = of-users c (asked c thread (Some call)) ks of (one thread.proc.user.0 (λ processes. with_row processes thread.proc.num (with_thread thread.tid asked_thread))) refl; waits = refl }

  pub still-asking : (thread : Thread) → Still c (after_asking c thread) ks
  still-asking thread = asked_by thread (unasked_call (thread_row c.users thread))

  withdrawn_by : (prio : ℕ) (thread : Thread) (call : Option Call) → Still c (withdrawn prio c thread call) ks
  withdrawn_by prio thread None = record { of = of; waits = refl }
  withdrawn_by prio thread (Some call) = record { of = of-users c (withdrawn prio c thread (Some call)) ks of (one thread.proc.user.0 (λ processes. with_row processes thread.proc.num (failed thread.tid EINTR call.target.over))) refl; waits = refl }

  pub still-withdrawing : (prio : ℕ) (thread : Thread) → Still c (after_withdrawing prio c thread) ks
  still-withdrawing prio thread = withdrawn_by prio thread (queued_call (thread_row c.users thread))

  pub still-interrupting : (prio : ℕ) (thread : Thread) → Still c (after_interrupt prio c thread) ks
  still-interrupting prio thread = elim (cases_Bool (is_some (queued_call (thread_row c.users thread)))) [
    | inl queued ↦ rw queued (still-withdrawing prio thread)
    | inr unqueued ↦ rw unqueued (still-asking thread)
  ]

  readied_by : (thread : Thread) (answer : Option Answer) → Still c (readied c thread answer) ks
  readied_by thread None = record { of = of; waits = refl }
  readied_by thread (Some answer) = record { of = of-users c (readied c thread (Some answer)) ks of (one thread.proc.user.0 (λ processes. with_row processes thread.proc.num (with_thread thread.tid ready_thread))) refl; waits = refl }

  pub still-taking : (thread : Thread) → Still c (after_taking c thread) ks
  still-taking thread = readied_by thread (answer_of (thread_row c.users thread))

  -- where a process has a pulse, the user's events change

  pulsed_by : (proc : Proc) (process : Option Process) (first : Option Pulse) → AreResourcesOf (with_pulse_taken c proc process first) ks
  pulsed_by proc None first = of
  pulsed_by proc (Some process) None = of
  pulsed_by proc (Some process) (Some first) = of-users c (with_pulse_taken c proc (Some process) (Some first)) ks of of.same refl

  pub still-pulse : (proc : Proc) → AreResourcesOf (after_pulse c proc) ks
  still-pulse proc = pulsed_by proc (living (process_of c.users proc)) (first_pulse proc.num (channel_events c proc.user.0))
