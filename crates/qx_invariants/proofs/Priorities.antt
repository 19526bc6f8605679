-- Priorities of threads, of what they sent and of what stands in lines: none is above the user's ceiling, but for disconnect pulses.
use Rattle.std.proofs.Common.{true, false, ◌+◌, ◌≡◌, inl, inr, ℕ, zero, suc, ◌≤◌, ◌==◌, Bool, List, [], ◌∷◌, ◌++◌, drop, map, refl, sym, ◌∙◌, subst, arith}
use Rattle.std.specs.Prelude.{⊤, ◌&&◌, All, Option, Some, None, Result, Ok, Err, if◌then◌else◌, is_none, is_some, max, nat_le, nat_lt, replicate, take as take_first}
use Rattle.std.specs.List.{AllByRecursion}
use Rattle.std.proofs.Math.Nat.{le-max_left, le-max_right, le_trans}
use Rattle.std.proofs.lemmas.Bool.{cond_both, leb-true}
use Rattle.std.proofs.lemmas.List.Elements.{All-from_recursion}
use Rattle.std.proofs.lemmas.Option.{same_Some}
use Rattle.qx_types.specs.Configuration.{Configuration, limits_of}
use Rattle.qx_types.specs.Managers.{manager_count, manager_number}
use Rattle.qx_types.specs.Step.{actor_of, user_of}
use Rattle.qx_types.specs.UserLimits.{UserLimits}
use Rattle.qx_base.specs.declared.errno.Errno.{Errno}
use Rattle.qx_base.specs.declared.errno.Errno.TheVariants.{EAGAIN, EINTR, EINVAL, EPERM, EXDEV}
use Rattle.qx_types.specs.declared.limits.TheConstants.Limits.{THREADS}
use Rattle.qx_types.specs.declared.names.Actor.{Actor}
use Rattle.qx_types.specs.declared.names.Manager.{Manager}
use Rattle.qx_types.specs.declared.names.Prio.{Prio}
use Rattle.qx_types.specs.declared.names.Thread.{Thread}
use Rattle.qx_types.specs.declared.outcome.Answer.{Answer}
use Rattle.qx_types.specs.declared.outcome.Answer.TheVariants as answer
use Rattle.qx_types.specs.declared.outcome.Outcome.{Outcome}
use Rattle.qx_types.specs.declared.outcome.Outcome.TheVariants.{Refused, WrongState}
use Rattle.qx_types.specs.declared.request.Request.{Request}
use Rattle.qx_types.specs.declared.step.Step.{Step}
use Rattle.qx_types.specs.declared.step.Step.TheVariants.{Spawn, Exit, Call, TakeReply, TakePulse, SetPrio, Interrupt, Mount}
use Rattle.qx_wire.specs.Reading.{meaning}
use Rattle.qx_paths.specs.Prefixes.{MountPoint}
use Rattle.qx_paths.specs.declared.resolved.Resolved.{Resolved}
use Rattle.qx_machine.specs.declared.rows.Addressed.{Addressed}
use Rattle.qx_machine.specs.declared.rows.Caller.{Caller}
use Rattle.qx_machine.specs.declared.rows.Client.{Client}
use Rattle.qx_machine.specs.declared.rows.Effect.{Effect}
use Rattle.qx_machine.specs.declared.rows.Effect.TheVariants as effect
use Rattle.qx_isolation.specs.declared.rows.Held.{Held}
use Rattle.qx_machine.specs.declared.rows.Over.{Over}
use Rattle.qx_machine.specs.declared.rows.Over.TheVariants.{New, Existing, Side}
use Rattle.qx_isolation.specs.declared.rows.OwnItem.{OwnItem}
use Rattle.qx_isolation.specs.declared.rows.OwnItem.TheVariants as item
use Rattle.qx_machine.specs.declared.rows.Pulse.{Pulse}
use Rattle.qx_isolation.specs.declared.rows.Queued.{Queued}
use Rattle.qx_machine.specs.declared.rows.Sent.{Sent}
use Rattle.qx_isolation.specs.declared.rows.ServerName.{ServerName}
use Rattle.qx_machine.specs.declared.rows.State.{State}
use Rattle.qx_machine.specs.declared.rows.State.TheVariants as state
use Rattle.qx_machine.specs.declared.rows.ThreadRow.{ThreadRow}
use Rattle.qx_machine.specs.declared.rows.WaitingCall.{WaitingCall}
use Rattle.qx_machine.specs.Calls.{Address, Opens, Connects, ConnectsBoth, Uses, Duplicates, address, bytes_of, can_serve, connection_at, content_of, free_connection, may_call, place_of, target_at, to_place}
use Rattle.qx_machine.specs.Clients.{ClientStep, answer_in, call, client_given, dropped, dropped_by, dropped_in, interrupt_in, may_give, mount_by, or_unchanged, pulse_taken, spawn, spawn_number, target_by}
use Rattle.qx_machine.specs.Events.{first_pulse}
use Rattle.qx_machine.specs.Functions.{Deed, Reply}
use Rattle.qx_isolation.specs.Judgements.{found, need, or_refused}
use Rattle.qx_isolation.specs.Lines.{into, line_at, with_line}
use Rattle.qx_machine.specs.Machine.{World, boot, changed_manager, client_step, is_same_item, line_after, line_of, line_without, lines_after, own_held, performed_part, queued_item, rank, received_part, server_step, step, step_of, with_empty_hand, with_taken}
use Rattle.qx_machine.specs.Managers.{close_client}
use Rattle.qx_machine.specs.Parts.{Change, Part, Put, Remove, disconnect, disconnects, thread_at, thread_of, with_process}
use Rattle.qx_machine.specs.Performing.{Served, after_answer, after_message, after_serving, answered_changes, caller_of, context_of, deed_of, or_kept, own_change, serve_disconnect, serve_message, serve_pulse, served_changes, taken_in, with_answer, with_answers}
use Rattle.qx_machine.specs.PipeManager.{cancel_call}
use Rattle.qx_machine.specs.Processes.{Process, after_error, after_reply, answered_thread, asked_state, asked_thread, ended, living, lost_servers, new_process, new_thread, queued_thread, ranked_thread, ready_thread, served_state, served_thread, taken_state, taken_thread, with_over, with_queued, with_thread, without_server}
use Rattle.qx_machine.specs.Resources.{Resources}
use Rattle.qx_isolation.specs.Rows.{lowest_from, put_row, row_at, with_row}
use Rattle.qx_machine.specs.Runs.{run, world_after}
use Rattle.qx_isolation.specs.System as system
use Rattle.qx_machine.specs.Users.{boot_part, client, serve, settle_part, take}
use Rattle.qx_isolation.proofs.Places.{lowest_from_free}
use Rattle.qx_isolation.proofs.Workers.{server_leaves}
use Rattle.qx_machine.proofs.Gives.{Gives, found-row, gives_by, gives_done, gives_error, gives_more, gives_on, gives-value}
use Rattle.qx_attr.proofs.TableLemmas.{row-put}
use Rattle.qx_invariants.specs.Holds.{greatest_prio}
use Rattle.qx_invariants.proofs.Clients.{left_was}
use Rattle.qx_invariants.proofs.Rows.{with_row-was}
use Rattle.qx_invariants.proofs.Steps.{HoldsIn, IsKept, boot-holds, step-holds}

-- ---- a thread

-- what a thread in this state has sent is of that priority at most
abbrev SentWithin : ℕ → State → Type 0
SentWithin most (state.Queued sent) = sent.target.prio.0 ≤ most
SentWithin most (state.Taken sent) = sent.target.prio.0 ≤ most
SentWithin most (state.Waiting sent) = sent.target.prio.0 ≤ most
SentWithin most _ = ⊤

record RowWithin (most : ℕ) (row : ThreadRow) : Type 0 where
  prio : row.prio.0 ≤ most
  sent : SentWithin most row.state

-- a change of a thread keeps that
abbrev Keeps : ℕ → (ThreadRow → ThreadRow) → Type 0
Keeps most change = (row : ThreadRow) → RowWithin most row → RowWithin most (change row)

ready_keeps : (most : ℕ) → Keeps most ready_thread
ready_keeps most row h = record { prio = h.prio; sent = tt }

answered_keeps : (most : ℕ) (given : Answer) → Keeps most (answered_thread given)
answered_keeps most given row h = record { prio = h.prio; sent = tt }

taken_keeps : (most : ℕ) → Keeps most taken_thread
taken_keeps most row h = record { prio = h.prio; sent = by row.state h.sent }
  where
    by : (s : State) → SentWithin most s → SentWithin most (taken_state s)
    by (state.Queued sent) within = within
    by _ within = within

asked_keeps : (most : ℕ) → Keeps most asked_thread
asked_keeps most row h = record { prio = h.prio; sent = by row.state h.sent }
  where
    by : (s : State) → SentWithin most s → SentWithin most (asked_state s)
    by (state.Taken sent) within = within
    by (state.Waiting sent) within = within
    by _ within = within

served_keeps : (most : ℕ) → Keeps most served_thread
served_keeps most row h = record { prio = h.prio; sent = by row.state h.sent }
  where
    by : (s : State) → SentWithin most s → SentWithin most (served_state s)
    by (state.Taken sent) within = within
    by _ within = within

queued_keeps : (most : ℕ) (sent : Sent) → sent.target.prio.0 ≤ most → Keeps most (queued_thread sent)
queued_keeps most sent within row h = record { prio = h.prio; sent = within }

ranked_keeps : (most prio : ℕ) → prio ≤ most → Keeps most (ranked_thread prio)
ranked_keeps most prio within row h = record { prio = within; sent = h.sent }

-- ---- the threads of a process

abbrev ThreadsWithin : ℕ → List (Option ThreadRow) → Type 0
ThreadsWithin most threads = (t : ℕ) (row : ThreadRow) → row_at threads t ≡ Some row → RowWithin most row

thread_within : (most : ℕ) (threads : List (Option ThreadRow)) (t : ℕ) (change : ThreadRow → ThreadRow) → Keeps most change → ThreadsWithin most threads → ThreadsWithin most (with_row threads t change)
thread_within most threads t change keeps h at row there =
    let was = with_row-was threads t change at row there in
    elim was.2 [
      | inl same ↦ subst (RowWithin most) same.1 (h at was.0 was.1)
      | inr its ↦ subst (RowWithin most) its.1 (keeps was.0 (h at was.0 was.1))
    ]

new_within : (most threads prio : ℕ) → prio ≤ most → ThreadsWithin most (new_process threads prio).threads
new_within most threads prio within zero row there = absurd (cc)
new_within most threads prio within (suc t) row there = all threads t there
  where
    all : (threads t : ℕ) → row_at (replicate threads (Some (new_thread prio))) t ≡ Some row → RowWithin most row
    all zero t at = absurd (cc)
    all (suc threads) zero at = subst (RowWithin most) (same_Some _ _ at) (record { prio = within; sent = tt })
    all (suc threads) (suc t) at = all threads t at

-- what a message goes over has no threads
over_threads : (thread : ℕ) (manager : Manager) (over : Over) (process : Process) → (with_over thread manager over process).threads ≡ process.threads
over_threads thread manager (New coid) process = refl
over_threads thread manager (Existing coid) process = refl
over_threads thread manager Side process = cond_both {A = Process} (is_none (row_at process.sides thread)) _ _ (λ now. now.threads ≡ process.threads) (λ none. refl) (λ some. refl)

reply_threads : (thread : ℕ) (over : Over) (done : Effect) (process : Process) → (after_reply thread over done process).threads ≡ process.threads
reply_threads thread (New coid) effect.Keeps process = refl
reply_threads thread (New coid) (effect.Opens other block) process = refl
reply_threads thread (New coid) (effect.Closes other) process = refl
reply_threads thread (Existing coid) effect.Keeps process = refl
reply_threads thread (Existing coid) (effect.Opens other block) process = refl
reply_threads thread (Existing coid) (effect.Closes other) process = refl
reply_threads thread Side done process = refl

error_threads : (thread : ℕ) (over : Over) (process : Process) → (after_error thread over process).threads ≡ process.threads
error_threads thread (New coid) process = refl
error_threads thread (Existing coid) process = refl
error_threads thread Side process = refl

-- a change of a process keeps that
abbrev KeepsAll : ℕ → (Process → Process) → Type 0
KeepsAll most change = (process : Process) → ThreadsWithin most process.threads → ThreadsWithin most (change process).threads

changed_keeps : (most thread : ℕ) (change : ThreadRow → ThreadRow) → Keeps most change → KeepsAll most (with_thread thread change)
changed_keeps most thread change keeps process h = thread_within most process.threads thread change keeps h

sent_keeps : (most thread : ℕ) (sent : Sent) → sent.target.prio.0 ≤ most → KeepsAll most (with_queued thread sent)
sent_keeps most thread sent within process h =
    let queued = with_thread thread (queued_thread sent) process in
    subst (ThreadsWithin most) (sym (over_threads thread sent.target.manager sent.target.over queued)) (thread_within most process.threads thread (queued_thread sent) (queued_keeps most sent within) h)

message_keeps : (most thread : ℕ) (over : Over) (given : Result (Deed Resources) Errno) → KeepsAll most (after_message thread over given)
message_keeps most thread over (Ok deed) process h = by deed.reply
  where
    by : (reply : Option Reply) → ThreadsWithin most (after_serving thread over reply process).threads
    by None = thread_within most process.threads thread served_thread (served_keeps most) h
    by (Some reply) =
        let change : ThreadRow → ThreadRow = answered_thread (answer.Reply reply.status reply.bytes) in
        subst (ThreadsWithin most) (sym (reply_threads thread over reply.effect (with_thread thread change process))) (thread_within most process.threads thread change (answered_keeps most _) h)
message_keeps most thread over (Err error) process h =
    let change : ThreadRow → ThreadRow = answered_thread (answer.Failed error) in
    subst (ThreadsWithin most) (sym (error_threads thread over (with_thread thread change process))) (thread_within most process.threads thread change (answered_keeps most _) h)

-- ---- all processes

abbrev AllWithin : ℕ → List (Option Process) → Type 0
AllWithin most processes = (number : ℕ) (process : Process) → row_at processes number ≡ Some process → ThreadsWithin most process.threads

one_within : (most : ℕ) (processes : List (Option Process)) (number : ℕ) (change : Process → Process) → KeepsAll most change → AllWithin most processes → AllWithin most (with_row processes number change)
one_within most processes number change keeps h at process there =
    let was = with_row-was processes number change at process there in
    elim was.2 [
      | inl same ↦ subst (λ (p : Process). ThreadsWithin most p.threads) same.1 (h at was.0 was.1)
      | inr its ↦ subst (λ (p : Process). ThreadsWithin most p.threads) its.1 (keeps was.0 (h at was.0 was.1))
    ]

answers_within : (most : ℕ) (answers : List (WaitingCall × Answer)) (part : Part) → AllWithin most part.processes → AllWithin most (with_answers answers part).processes
answers_within most [] part h = h
answers_within most ((waiting, given) ∷ rest) part h =
    answers_within most rest (with_answer (waiting, given) part) (one_within most part.processes waiting.process (with_thread waiting.thread (answered_thread given)) (changed_keeps most waiting.thread (answered_thread given) (answered_keeps most given)) h)

answer_within : (most : ℕ) (part : Part) (number thread : ℕ) (over : Over) (given : Result (Deed Resources) Errno) → AllWithin most part.processes → AllWithin most (after_answer part number thread over given).processes
answer_within most part number thread over (Ok deed) h =
    answers_within most deed.answers (with_process number (after_message thread over (Ok deed)) (record part { resources = deed.state }))
    (one_within most part.processes number (after_message thread over (Ok deed)) (message_keeps most thread over (Ok deed)) h)
answer_within most part number thread over (Err error) h = one_within most part.processes number (after_message thread over (Err error)) (message_keeps most thread over (Err error)) h

spawned_within : (most : ℕ) (processes : List (Option Process)) (number threads prio : ℕ) → row_at processes number ≡ None → prio ≤ most → AllWithin most processes → AllWithin most (put_row processes number (new_process threads prio))
spawned_within most processes number threads prio free within h at process there = elim (row-put processes number (new_process threads prio) free at) [
  | inl same ↦ h at process (sym same ∙ there)
  | inr new ↦ subst (λ (p : Process). ThreadsWithin most p.threads) (same_Some _ _ (sym new.0 ∙ there)) (new_within most threads prio within)
]

ended_within : (most : ℕ) → KeepsAll most ended
ended_within most process h t row there = absurd (cc)

row_within : (most : ℕ) (part : Part) → AllWithin most part.processes → (number thread : ℕ) (row : ThreadRow) → thread_at part number thread ≡ Some row → RowWithin most row
row_within most part h number thread row there = by (row_at part.processes number) refl there
  where
    by : (place : Option Process) → row_at part.processes number ≡ place → thread_of thread place ≡ Some row → RowWithin most row
    by None is none = absurd (cc)
    by (Some process) is has = h number process is thread row has

-- ---- what is put into lines

-- with a priority that the item may have
abbrev PutFits : UserLimits → Change → Type 0
PutFits limits (Put manager own prio) = prio ≤ greatest_prio limits own
PutFits limits (Remove manager own) = ⊤

abbrev AllFit : UserLimits → List Change → Type 0
AllFit limits changes = AllByRecursion (PutFits limits) changes

both_fit : (limits : UserLimits) (first rest : List Change) → AllFit limits first → AllFit limits rest → AllFit limits (first ++ rest)
both_fit limits [] rest h k = k
both_fit limits (change ∷ first) rest h k = (h.0, both_fit limits first rest h.1 k)

lost_fit : (limits : UserLimits) (number : ℕ) (lost : List ServerName) → AllFit limits (map (disconnect limits.disconnect number) lost)
lost_fit limits number [] = tt
lost_fit limits number (server ∷ lost) = (omega arith, lost_fit limits number lost)

disconnects_fit : (limits : UserLimits) (number : ℕ) (change : Process → Process) (process : Option Process) → AllFit limits (disconnects limits.disconnect number change process)
disconnects_fit limits number change None = tt
disconnects_fit limits number change (Some process) = lost_fit limits number (take_first 1 (lost_servers process (change process)))

answers_fit : (limits : UserLimits) (answers : List (WaitingCall × Answer)) (part : Part) → AllFit limits (answered_changes answers part)
answers_fit limits [] part = tt
answers_fit limits (first ∷ rest) part = (tt, answers_fit limits rest (with_answer first part))

served_fit : (limits : UserLimits) (part : Part) (manager : Manager) (caller : Caller) (lost : List Change) (given : Result (Deed Resources) Errno) → AllFit limits lost → AllFit limits (served_changes part manager caller lost given)
served_fit limits part manager caller lost (Ok deed) h =
    let own = if is_some deed.reply then own_change manager caller ∷ [] else [] in
    both_fit limits (own ++ lost) (answered_changes deed.answers part)
    (both_fit limits own lost (cond_both (is_some deed.reply) (own_change manager caller ∷ []) [] (AllFit limits) (λ replied. (tt, tt)) (λ waits. tt)) h) (answers_fit limits deed.answers part)
served_fit limits part manager caller lost (Err error) h = (tt, h)

dropped_fit : (limits : UserLimits) (process thread : ℕ) (rows : List (Option ThreadRow)) → AllFit limits (dropped process thread rows)
dropped_fit limits process thread [] = tt
dropped_fit limits process thread (row ∷ rows) = both_fit limits (dropped_by process thread row) (dropped process (thread + 1) rows) (of_row row) (dropped_fit limits process (thread + 1) rows)
  where
    of_state : (calls : ℕ) (s : State) → AllFit limits (dropped_in process thread calls s)
    of_state calls (state.Queued sent) = (tt, tt)
    of_state calls (state.Taken sent) = (tt, tt)
    of_state calls (state.Waiting sent) = (tt, tt)
    of_state calls _ = tt

    of_row : (place : Option ThreadRow) → AllFit limits (dropped_by process thread place)
    of_row None = tt
    of_row (Some there) = of_state there.calls there.state

-- ---- what a client does

-- processes and changes of lines are so
record Leaves (limits : UserLimits) (processes : List (Option Process)) (changes : List Change) : Type 0 where
  parts : AllWithin limits.ceiling processes
  puts : AllFit limits changes

given-within : (ceiling prio : ℕ) → Gives (λ _. prio ≤ ceiling) (may_give ceiling prio)
unfolding may_give
given-within ceiling prio = gives_on _ (need (nat_le 1 prio) (Refused EINVAL)) _ (λ some is_some. by (nat_le prio ceiling) refl)
  where
    by : (b : Bool) → nat_le prio ceiling ≡ b → Gives (λ _. prio ≤ ceiling) (need b (Refused EPERM))
    by true is = gives_done _ _ (leb-true prio ceiling is)
    by false is = gives_error _ _

module _ (config : Configuration) (user : ℕ) (mounts : List MountPoint) (processes : List (Option Process)) (process : Process) (prio : Prio) where
  abbrev own : UserLimits
  own = limits_of config user

  place-prio : (place : Resolved) (to : List (List ℕ)) (over : Over) → Gives (λ (addressed : Addressed). addressed.target.prio ≡ prio) (to_place own.servers processes process place to over prio)
  place-prio place to over = gives_on _ (need (can_serve own.servers processes process place.manager) (Refused EAGAIN)) _ (λ can is_can. gives_done _ _ refl)

  -- a message has its thread's priority
  addressed-prio : (asked : Address) → Gives (λ (addressed : Addressed). addressed.target.prio ≡ prio) (target_at config user mounts processes process prio asked)
  addressed-prio (Opens path) =
      gives_on _ (or_refused (place_of config user mounts path)) _ (λ place is_place.
      gives_on _ (free_connection own.connections process) _ (λ number is_free. place-prio place [] (New (record { 0 = number }))))
  addressed-prio (Connects path) = gives_on _ (or_refused (place_of config user mounts path)) _ (λ place is_place. place-prio place [] Side)
  addressed-prio (ConnectsBoth path to) =
      gives_on _ (or_refused (place_of config user mounts path)) _ (λ place is_place.
      gives_on _ (or_refused (place_of config user mounts to)) _ (λ other is_other.
      gives_on _ (need (place.root == other.root) (Refused EXDEV)) _ (λ same is_same. place-prio place other.rest Side)))
  addressed-prio (Uses coid) = gives_on _ (connection_at coid process) _ (λ connection is_there. gives_done _ _ refl)
  addressed-prio (Duplicates coid) =
      gives_on _ (connection_at coid process) _ (λ connection is_there.
      gives_on _ (free_connection own.connections process) _ (λ other is_free. gives_done _ _ refl))

module _ (config : Configuration) (user : ℕ) (part : Part) (h : AllWithin (limits_of config user).ceiling part.processes) where
  abbrev limits : UserLimits
  limits = limits_of config user

  abbrev Gave : ClientStep → Type 0
  Gave given = Leaves limits given.part.processes given.changes

  thread_gave : (number thread : ℕ) (change : ThreadRow → ThreadRow) → Keeps limits.ceiling change → AllWithin limits.ceiling (with_process number (with_thread thread change) part).processes
  thread_gave number thread change keeps = one_within limits.ceiling part.processes number (with_thread thread change) (changed_keeps limits.ceiling thread change keeps) h

  spawn_number-within : (threads prio : ℕ) → Gives (λ number. (row_at part.processes number ≡ None) × (prio ≤ limits.ceiling)) (spawn_number limits part.processes threads prio)
  spawn_number-within threads prio =
      gives_on _ (need (nat_le 1 threads && nat_le threads THREADS) (Refused EINVAL)) _ (λ valid is_valid.
      gives_by (λ _. prio ≤ limits.ceiling) _ (may_give limits.ceiling prio) _ (given-within limits.ceiling prio) (λ allowed within.
      gives_on _ (need (nat_le (lowest_from 1 part.processes) limits.processes) (Refused EAGAIN)) _ (λ free is_free. gives_done _ _ (lowest_from_free 1 part.processes, within))))

  spawn_gave : (threads prio : ℕ) → Gives Gave (spawn limits part threads prio)
  spawn_gave threads prio =
      gives_by (λ number. (row_at part.processes number ≡ None) × (prio ≤ limits.ceiling)) _ (spawn_number limits part.processes threads prio) _ (spawn_number-within threads prio) (λ number its.
      gives_done _ _ (record { parts = spawned_within limits.ceiling part.processes number threads prio its.0 its.1 h; puts = tt }))

  target-within : (thread : Thread) (request : Request) → Gives (λ (addressed : Addressed). addressed.target.prio.0 ≤ limits.ceiling) (target_by config user part.resources.mounts part.processes thread request)
  target-within thread request =
      gives_on _ (found (row_at part.processes thread.proc.num) WrongState) _ (λ process is_process.
      gives_on _ (found (row_at process.threads thread.tid) WrongState) _ (λ row is_row.
      gives_on _ (may_call row request) _ (λ may is_may.
      let own = h thread.proc.num process (found-row _ _ process is_process) thread.tid row (found-row _ _ row is_row) in
      gives_more (λ (addressed : Addressed). addressed.target.prio ≡ row.prio) _ _ (λ addressed same. subst (λ (prio : Prio). prio.0 ≤ limits.ceiling) (sym same) own.prio)
      (addressed-prio config user part.resources.mounts part.processes process row.prio (address request)))))

  call_gave : (thread : Thread) (request : Request) → Gives Gave (call config user part thread request)
  call_gave thread request =
      gives_by (λ (addressed : Addressed). addressed.target.prio.0 ≤ limits.ceiling) _ (target_by config user part.resources.mounts part.processes thread request) _ (target-within thread request) (λ addressed within.
      let sent : Sent = record { target = addressed.target; is_asked = false; bytes = bytes_of (content_of request addressed.rest addressed.to) } in
      gives_done _ _ (record { parts = one_within limits.ceiling part.processes thread.proc.num (with_queued thread.tid sent) (sent_keeps limits.ceiling thread.tid sent within) h; puts = (within, tt) }))

  interrupt_gave : (thread : Thread) (call : ℕ) (row : ThreadRow) → RowWithin limits.ceiling row → (doing : State) → row.state ≡ doing → Gave (interrupt_in limits.disconnect part thread call doing)
  interrupt_gave thread call row within (state.Queued sent) is = record {
    parts = answer_within limits.ceiling part thread.proc.num thread.tid sent.target.over (Err EINTR) h;
    puts = (tt, disconnects_fit limits thread.proc.num (after_message thread.tid sent.target.over (Err EINTR)) (row_at part.processes thread.proc.num));
  }
  interrupt_gave thread call row within (state.Taken sent) is = cond_both sent.is_asked _ _ Gave (λ asked. record { parts = h; puts = tt })
      (λ first. record { parts = thread_gave thread.proc.num thread.tid asked_thread (asked_keeps limits.ceiling); puts = (subst (SentWithin limits.ceiling) is within.sent, tt) })
  interrupt_gave thread call row within (state.Waiting sent) is = cond_both sent.is_asked _ _ Gave (λ asked. record { parts = h; puts = tt })
      (λ first. record { parts = thread_gave thread.proc.num thread.tid asked_thread (asked_keeps limits.ceiling); puts = (subst (SentWithin limits.ceiling) is within.sent, tt) })
  interrupt_gave thread call row within _ is = record { parts = h; puts = tt }

  pulse_gave : (process : ℕ) (first : Option Pulse) → Gave (pulse_taken part process first)
  pulse_gave process None = record { parts = h; puts = tt }
  pulse_gave process (Some first) = record { parts = h; puts = tt }

  given_gave : (held : List OwnItem) (e : Step) → Gives Gave (client_given config user held part e)
  given_gave held (Spawn of_user threads prio) = spawn_gave threads prio.0
  given_gave held (Exit proc) =
      gives_on _ (found (living (row_at part.processes proc.num)) WrongState) _ (λ process is.
      gives_done _ _ (record {
        parts = one_within limits.ceiling part.processes proc.num ended (ended_within limits.ceiling) h;
        puts = both_fit limits (dropped proc.num 0 process.threads) _ (dropped_fit limits proc.num 0 process.threads) (lost_fit limits proc.num (lost_servers process (ended process)));
      }))
  given_gave held (Call thread request) = call_gave thread request
  given_gave held (TakeReply thread) =
      gives_on _ (found (thread_at part thread.proc.num thread.tid) WrongState) _ (λ row is.
      gives_on _ (found (answer_in row.state) WrongState) _ (λ given answered. gives_done _ _ (record { parts = thread_gave thread.proc.num thread.tid ready_thread (ready_keeps limits.ceiling); puts = tt })))
  given_gave held (TakePulse proc) = gives_on _ (found (living (row_at part.processes proc.num)) WrongState) _ (λ process is. gives_done _ _ (pulse_gave proc.num (first_pulse proc.num part.resources.events)))
  given_gave held (SetPrio thread prio) =
      gives_on _ (found (thread_at part thread.proc.num thread.tid) WrongState) _ (λ row is.
      gives_by (λ _. prio.0 ≤ limits.ceiling) _ (may_give limits.ceiling prio.0) _ (given-within limits.ceiling prio.0) (λ allowed within.
      gives_done _ _ (record { parts = thread_gave thread.proc.num thread.tid (ranked_thread prio.0) (ranked_keeps limits.ceiling prio.0 within); puts = tt })))
  given_gave held (Interrupt thread) =
      gives_on _ (found (thread_at part thread.proc.num thread.tid) WrongState) _ (λ row is.
      gives_done _ _ (interrupt_gave thread row.calls row (row_within limits.ceiling part h thread.proc.num thread.tid row (found-row _ _ row is)) row.state refl))
  given_gave held (Mount thread path manager) = gives_on _ (mount_by config user part thread path manager) _ (λ mount is. gives_done _ _ (record { parts = h; puts = tt }))
  given_gave held _ = gives_error _ _

  unchanged_gave : (given : Result ClientStep Outcome) → Gives Gave given → Gave (or_unchanged part given)
  unchanged_gave (Ok given) gave = gives-value Gave (Ok given) given refl gave
  unchanged_gave (Err outcome) gave = record { parts = h; puts = tt }

  client_gave : (held : List OwnItem) (e : Step) → Gave (client config user held part e)
  unfolding client
  client_gave held e = unchanged_gave _ (given_gave held e)

  -- ---- what a worker does

  abbrev Done : Served → Type 0
  Done served = Leaves limits served.part.processes served.changes

  kept_done : (given : Result Served Outcome) → Gives Done given → Done (or_kept part given)
  kept_done (Ok served) done = gives-value Done (Ok served) served refl done
  kept_done (Err outcome) done = record { parts = h; puts = tt }

  message_done : (number thread moment : ℕ) → Gives Done (serve_message limits.disconnect part number thread moment)
  message_done number thread moment =
      gives_on _ (found (row_at part.processes number) WrongState) _ (λ process is_process.
      gives_on _ (found (row_at process.threads thread) WrongState) _ (λ row is_row.
      gives_on _ (found (taken_in row.state) WrongState) _ (λ sent is_sent.
      let given = deed_of part.resources (context_of process (caller_of number thread row sent) sent.target moment (meaning sent.bytes)) (meaning sent.bytes) in
      gives_done _ _ (record {
        parts = answer_within limits.ceiling part number thread sent.target.over given h;
        puts = served_fit limits (with_process number (after_message thread sent.target.over given) part) sent.target.manager (caller_of number thread row sent) _ given (disconnects_fit limits number (after_message thread sent.target.over given) (row_at part.processes number));
      }))))

  pulse_done : (process thread call moment : ℕ) → Gives Done (serve_pulse part process thread call moment)
  pulse_done process thread call moment =
      gives_on _ (cancel_call part.resources process thread call moment) _ (λ deed is.
      gives_done _ _ (record { parts = answers_within limits.ceiling deed.answers (record part { resources = deed.state }) h; puts = answers_fit limits deed.answers part }))

  disconnect_done : (gone : Client) (moment : ℕ) → Gives Done (serve_disconnect part gone moment)
  disconnect_done gone moment =
      let deed = close_client part.resources gone moment in
      let mid = with_process gone.process (without_server gone.server) part in
      gives_on _ (found (row_at part.processes gone.process) WrongState) _ (λ process is.
      gives_done _ _ (record {
        parts = answers_within limits.ceiling deed.answers (record mid { resources = deed.state }) (one_within limits.ceiling part.processes gone.process (without_server gone.server) (λ process own. own) h);
        puts = answers_fit limits deed.answers mid;
      }))

  serve_done : (held : List OwnItem) (done : OwnItem) (moment : ℕ) → Done (serve config user held part done moment)
  unfolding serve
  serve_done held (item.Message process thread) moment = kept_done _ (message_done process thread moment)
  serve_done held (item.Unblock process thread call) moment = kept_done _ (pulse_done process thread call moment)
  serve_done held (item.Disconnect process server) moment = kept_done _ (disconnect_done (record { process = process; server = server }) moment)

-- ---- a user's part

take_within : (most : ℕ) (part : Part) (own : OwnItem) → AllWithin most part.processes → AllWithin most (take part own).processes
unfolding take
take_within most part (item.Message process thread) h = one_within most part.processes process (with_thread thread taken_thread) (changed_keeps most thread taken_thread (taken_keeps most)) h
take_within most part (item.Unblock process thread call) h = h
take_within most part (item.Disconnect process server) h = h

settle_within : (most : ℕ) (before : Part) (held : List OwnItem) (after : Part) → AllWithin most after.processes → AllWithin most (settle_part before held after).processes
unfolding settle_part
settle_within most before held after h number process there = h number process (left_was held after.resources.pipes after.processes number process there)

boot_within : (config : Configuration) (user most : ℕ) → AllWithin most (boot_part config user).processes
unfolding boot_part
boot_within config user most zero process there = absurd (cc)
boot_within config user most (suc number) process there = absurd (cc)

abbrev IsWithin : Configuration → ℕ → Part → Type 0
IsWithin config user part = AllWithin (limits_of config user).ceiling part.processes

within_kept : (config : Configuration) → IsKept config (IsWithin config)
within_kept config = record {
  client_step = λ user held part e h. (client_gave config user part h held e).parts;
  taking = λ user part own h. take_within (limits_of config user).ceiling part own h;
  serving = λ user held part own moment h. (serve_done config user part h held own moment).parts;
  settling = λ user before held after h. settle_within (limits_of config user).ceiling before held after h;
}

-- ---- lines

module _ (config : Configuration) where
  abbrev Fits : Queued → Type 0
  Fits queued = queued.prio.0 ≤ greatest_prio (limits_of config queued.user.0) queued.item

  abbrev LineFits : List Queued → Type 0
  LineFits line = AllByRecursion Fits line

  abbrev LinesFit : List (List Queued) → Type 0
  LinesFit lines = AllByRecursion LineFits lines

  into_fits : (line : List Queued) (new : Queued) → Fits new → LineFits line → LineFits (into rank line new)
  into_fits [] new fits all = (fits, tt)
  into_fits (first ∷ line) new fits all = cond_both (nat_lt (rank first) (rank new)) (new ∷ first ∷ line) (first ∷ into rank line new) LineFits (λ before. (fits, all)) (λ after. (all.0, into_fits line new fits all.1))

  without_fits : (user : ℕ) (own : OwnItem) (line : List Queued) → LineFits line → LineFits (line_without user own line)
  without_fits user removed [] all = tt
  without_fits user removed (first ∷ line) all =
      cond_both ((first.user.0 == user) && is_same_item first.item removed) line (first ∷ line_without user removed line) LineFits (λ same. all.1) (λ differs. (all.0, without_fits user removed line all.1))

  rest_fits : (line : List Queued) → LineFits line → LineFits (drop 1 line)
  rest_fits [] all = tt
  rest_fits (first ∷ line) all = all.1

  change_fits : (user : ℕ) (change : Change) → PutFits (limits_of config user) change → (line : List Queued) → LineFits line → LineFits (line_after user change line)
  change_fits user (Put manager own prio) fits line all = into_fits line (queued_item user own prio) fits all
  change_fits user (Remove manager own) fits line all = without_fits user own line all

  with_line_fits : (lines : List (List Queued)) (number : ℕ) (change : List Queued → List Queued) → ((line : List Queued) → LineFits line → LineFits (change line)) → LinesFit lines → LinesFit (with_line lines number change)
  with_line_fits [] number change keeps all = tt
  with_line_fits (line ∷ lines) zero change keeps all = (keeps line all.0, all.1)
  with_line_fits (line ∷ lines) (suc number) change keeps all = (all.0, with_line_fits lines number change keeps all.1)

  lines_fit : (user : ℕ) (changes : List Change) (lines : List (List Queued)) → AllFit (limits_of config user) changes → LinesFit lines → LinesFit (lines_after user lines changes)
  lines_fit user [] lines puts all = all
  lines_fit user (change ∷ changes) lines puts all =
      let number = manager_number (changed_manager change) in
      lines_fit user changes (with_line lines number (line_after user change)) puts.1 (with_line_fits lines number (line_after user change) (change_fits user change puts.0) all)

  line_fits : (lines : List (List Queued)) (number : ℕ) → LinesFit lines → LineFits (line_at lines number)
  line_fits [] number all = tt
  line_fits (line ∷ lines) zero all = all.0
  line_fits (line ∷ lines) (suc number) all = line_fits lines number all.1

  -- ---- whatever steps are taken

  abbrev PartsWithin : World → Type 0
  PartsWithin w = HoldsIn config (IsWithin config) (within_kept config) w

  client_fits : (w : World) (user : ℕ) (e : Step) (row : Option Part) → row_at w.parts user ≡ row → PartsWithin w → LinesFit w.lines → LinesFit (client_step w user e row).world.lines
  client_fits w user e None is h all = all
  client_fits w user e (Some part) is h all =
      let held = own_held user w.hands in
      let own = subst (λ c. AllFit (limits_of config user) (client c user held part e).changes) (sym h.configured) (client_gave config user part (h.each user part is) held e).puts in
      lines_fit user (client w.config user held part e).changes w.lines own all

  received_fits : (w : World) (taken : Held) (row : Option Part) → LinesFit w.lines → LinesFit (received_part w taken row).lines
  received_fits w taken None all = all
  received_fits w taken (Some part) all = all

  performed_fits : (w : World) (held : Held) (moment : ℕ) (row : Option Part) → row_at w.parts held.user.0 ≡ row → PartsWithin w → LinesFit w.lines → LinesFit (performed_part w held moment row).lines
  performed_fits w held moment None is h all = all
  performed_fits w held moment (Some part) is h all =
      let user = held.user.0 in
      let hands = own_held user w.hands in
      let own = subst (λ c. AllFit (limits_of config user) (serve c user hands part held.item moment).changes) (sym h.configured) (serve_done config user part (h.each user part is) hands held.item moment).puts in
      lines_fit user (serve w.config user hands part held.item moment).changes w.lines own all

  server_fits : (w : World) (e : Step) → PartsWithin w → LinesFit w.lines → LinesFit (server_step w e).world.lines
  server_fits w e h all = server_leaves w e (λ v. LinesFit v.lines) all
      (λ worker manager taken is. received_fits (with_taken w worker manager taken) taken (row_at w.parts taken.user.0) (with_line_fits w.lines (manager_number manager) (drop 1) rest_fits all))
      (λ worker moment held is. performed_fits (with_empty_hand w worker) held moment (row_at w.parts held.user.0) refl (record { configured = h.configured; each = h.each }) all)

  step_of_fits : (w : World) (e : Step) (actor : Option Actor) → PartsWithin w → LinesFit w.lines → LinesFit (step_of w e actor).world.lines
  step_of_fits w e None h all = server_fits w e h all
  step_of_fits w e (Some actor) h all = client_fits w (user_of actor) e (row_at w.parts (user_of actor)) refl h all

  step_fits : (w : World) (e : Step) → PartsWithin w → LinesFit w.lines → LinesFit (step w e).world.lines
  unfolding step
  step_fits w e h all = step_of_fits w e (actor_of e) h all

  after_fits : (w : World) (steps : List Step) → PartsWithin w → LinesFit w.lines → LinesFit (world_after w steps).lines
  after_fits w [] h all = all
  after_fits w (e ∷ steps) h all = after_fits (step w e).world steps (step-holds config (IsWithin config) (within_kept config) w e h) (step_fits w e h all)

  empty_fit : (count : ℕ) → LinesFit (replicate count [])
  empty_fit zero = tt
  empty_fit (suc count) = (tt, empty_fit count)

  boot_fits : LinesFit (boot config).lines
  unfolding system.boot
  boot_fits = empty_fit manager_count

  run_fits : (steps : List Step) → LinesFit (run config steps).world.lines
  run_fits steps = after_fits (boot config) steps (boot-holds config (IsWithin config) (within_kept config) (λ user. boot_within config user (limits_of config user).ceiling)) boot_fits

  -- so none is above the greater of the two
  abbrev IsBelow : Queued → Type 0
  IsBelow queued = queued.prio.0 ≤ max (limits_of config queued.user.0).ceiling (limits_of config queued.user.0).disconnect

  greatest_below : (limits : UserLimits) (own : OwnItem) → greatest_prio limits own ≤ max limits.ceiling limits.disconnect
  greatest_below limits (item.Message process thread) = le-max_left limits.ceiling limits.disconnect
  greatest_below limits (item.Unblock process thread call) = le-max_left limits.ceiling limits.disconnect
  greatest_below limits (item.Disconnect process server) = le-max_right limits.ceiling limits.disconnect

  fits_below : (line : List Queued) → LineFits line → AllByRecursion IsBelow line
  fits_below [] all = tt
  fits_below (first ∷ line) all = (le_trans all.0 (greatest_below (limits_of config first.user.0) first.item), fits_below line all.1)

  own_fits : (steps : List Step) (manager : Manager) → LineFits (line_of (run config steps).world manager)
  own_fits steps manager = line_fits (run config steps).world.lines (manager_number manager) (run_fits steps)

pub run_ranked : (config : Configuration) (steps : List Step) (manager : Manager) → All (λ queued. queued.prio.0 ≤ greatest_prio (limits_of config queued.user.0) queued.item) (line_of (run config steps).world manager)
run_ranked config steps manager = All-from_recursion _ _ (own_fits config steps manager)

pub run_below : (config : Configuration) (steps : List Step) (manager : Manager) → All (λ queued. queued.prio.0 ≤ max (limits_of config queued.user.0).ceiling (limits_of config queued.user.0).disconnect) (line_of (run config steps).world manager)
run_below config steps manager = All-from_recursion _ _ (fits_below config _ (own_fits config steps manager))
