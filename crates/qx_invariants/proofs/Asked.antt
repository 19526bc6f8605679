-- With which error a thread is answered: with one that its message may be answered with, in each step and so in each run.
use Rattle.std.proofs.Common.{◌≡◌, inl, inr, ℕ, ◌+◌, true, false, List, [], ◌∷◌, map, refl, sym, ap, ◌∙◌, subst, zero, suc}
use Rattle.std.specs.Prelude.{Option, Some, None, Result, Ok, Err, option_map, replicate}
use Rattle.std.specs.List.{AllByRecursion}
use Rattle.std.proofs.lemmas.Bool.{cases_eq, cond_both}
use Rattle.std.proofs.lemmas.Option.{same_Some}
use Rattle.qx_base.specs.declared.errno.Errno.{Errno}
use Rattle.qx_base.specs.declared.errno.Errno.TheVariants.{EBADF, EINTR, EINVAL}
use Rattle.qx_devices.specs.declared.Device.{Device}
use Rattle.qx_types.specs.Configuration.{Configuration, limits_of}
use Rattle.qx_types.specs.UserLimits.{UserLimits}
use Rattle.qx_types.specs.declared.names.Coid.{Coid}
use Rattle.qx_types.specs.declared.names.Manager.{Manager}
use Rattle.qx_types.specs.declared.names.Manager.TheVariants as managers
use Rattle.qx_types.specs.declared.names.Thread.{Thread}
use Rattle.qx_types.specs.Managers.{manager_number}
use Rattle.qx_types.specs.declared.outcome.Answer.{Answer}
use Rattle.qx_types.specs.declared.outcome.Answer.TheVariants as answer
use Rattle.qx_types.specs.declared.outcome.Outcome.TheVariants.{WrongState}
use Rattle.qx_types.specs.declared.request.Request.{Request}
use Rattle.qx_types.specs.declared.step.Step.{Step}
use Rattle.qx_types.specs.declared.step.Step.TheVariants.{Call, Exit, Interrupt, Mount, SetPrio, Spawn, TakePulse, TakeReply}
use Rattle.qx_wire.specs.declared.message.Meaning.{Meaning}
use Rattle.qx_wire.specs.declared.message.Meaning.TheVariants.{Known, Malformed, Unknown}
use Rattle.qx_wire.specs.declared.message.Message.{Message}
use Rattle.qx_wire.specs.declared.message.Message.TheVariants as msg
use Rattle.qx_wire.specs.Reading.{meaning}
use Rattle.qx_machine.specs.declared.rows.Caller.{Caller}
use Rattle.qx_machine.specs.declared.rows.Client.{Client}
use Rattle.qx_machine.specs.declared.rows.Context.{Context}
use Rattle.qx_machine.specs.declared.rows.Ocb.{Ocb}
use Rattle.qx_machine.specs.declared.rows.Opened.{Opened}
use Rattle.qx_machine.specs.declared.rows.Over.{Over}
use Rattle.qx_machine.specs.declared.rows.Pulse.{Pulse}
use Rattle.qx_machine.specs.declared.rows.Sent.{Sent}
use Rattle.qx_machine.specs.declared.rows.State.{State}
use Rattle.qx_machine.specs.declared.rows.State.TheVariants as state
use Rattle.qx_machine.specs.declared.rows.Target.{Target}
use Rattle.qx_machine.specs.declared.rows.ThreadRow.{ThreadRow}
use Rattle.qx_machine.specs.declared.rows.WaitingCall.{WaitingCall}
use Rattle.qx_isolation.specs.declared.rows.OwnItem.{OwnItem}
use Rattle.qx_isolation.specs.declared.rows.OwnItem.TheVariants as item
use Rattle.qx_isolation.specs.Judgements.{found, need}
use Rattle.qx_isolation.specs.Rows.{put_row, row_at, with_row}
use Rattle.qx_machine.specs.Calls.{bytes_of, content_of}
use Rattle.qx_machine.specs.Clients.{ClientStep, abandoned, call, client_given, interrupt_in, may_give, mount_by, pulse_taken, set_prio, spawn, spawn_number, take_reply, target_by, with_abandoned, without_process, answer_in}
use Rattle.qx_machine.specs.Events.{first_pulse}
use Rattle.qx_machine.specs.Functions.{Deed, Reply}
use Rattle.qx_machine.specs.Managers.{close_client}
use Rattle.qx_machine.specs.Parts.{Part, thread_at, thread_of, with_process}
use Rattle.qx_machine.specs.Performing.{Served, after_answer, after_serving, caller_of, context_of, deed_of, dup_of, opened_by, serve_disconnect, serve_message, serve_pulse, taken_in, with_answer, with_answers, works_over}
use Rattle.qx_machine.specs.PipeManager.{cancel_call}
use Rattle.qx_machine.specs.Pipes.{Pipe}
use Rattle.qx_machine.specs.Processes.{Process, after_error, answered_thread, asked_state, asked_thread, ended, living, new_process, new_thread, queued_thread, ranked_thread, ready_thread, served_state, served_thread, taken_state, taken_thread, with_queued, with_thread}
use Rattle.qx_machine.specs.Resources.{Resources}
use Rattle.qx_machine.specs.Servers.{is_numbered}
use Rattle.qx_machine.specs.Settling.{processes_left, row_left, stays}
use Rattle.qx_machine.specs.Users.{client, serve, settle_part, take}
use Rattle.qx_machine.specs.Waiting.{caller_in, is_gone, is_of_process}
use Rattle.qx_machine.proofs.Gives.{Gives, found-row, gives_by, gives_done, gives_error, gives_on}
use Rattle.qx_machine.proofs.Settled.{row_at-left}
use Rattle.qx_machine.proofs.Waiters.{opened_by-caller}
use Rattle.qx_attr.proofs.TableLemmas.{row-put}
use Rattle.qx_invariants.specs.Errors.{IsAmong, IsOneOf, MayAnswer, performed, served}
use Rattle.qx_invariants.proofs.Answering.{AreTold, IsLeft, IsTold, MayRead, MayWrite, read_errors, write_errors}
use Rattle.qx_invariants.proofs.Balances.{ChangesThread, thread_changed, thread_other}
use Rattle.qx_invariants.proofs.Clients.{IsOver, opened_by-over}
use Rattle.qx_invariants.proofs.Erring.{InDeed, InPipes, MayCome, cancel_keeps, client_keeps, manager_comes}
use Rattle.qx_invariants.proofs.Judged.{Anything, Comes, comes_done, comes_error, comes_found, comes_need, comes_on}
use Rattle.qx_invariants.proofs.Once.{error_changes, over_changes, reply_changes, spawn_free, taken_is, unserved_same}
use Rattle.qx_invariants.proofs.Rows.{abandoned-at, mapped-was, with_row-at, with_row-other}
use Rattle.qx_invariants.proofs.Steps.{answers-resources, kept-keeps, unchanged-keeps}

-- ---- one thread

-- what a thread in this state may be told, once a step is done; of a message that stands in a line that is seen anew then
abbrev pub Left : (Errno → Type 0) → State → Type 0
Left may (state.Taken sent) = (error : Errno) → MayAnswer sent error → may error
Left may (state.Answered (answer.Failed error)) = may error
Left may _ = Unit {0}

-- and before a step
abbrev pub Fits : (Errno → Type 0) → State → Type 0
Fits may (state.Queued sent) = (error : Errno) → MayAnswer sent error → may error
Fits may doing = Left may doing

fits_left : (may : Errno → Type 0) (doing : State) → Fits may doing → Left may doing
fits_left may (state.Queued sent) h = tt
fits_left may state.Ready h = h
fits_left may (state.Taken sent) h = h
fits_left may (state.Waiting sent) h = h
fits_left may (state.Answered given) h = h

taken_left : (may : Errno → Type 0) (doing : State) → Fits may doing → Left may (taken_state doing)
taken_left may (state.Queued sent) h = h
taken_left may state.Ready h = h
taken_left may (state.Taken sent) h = h
taken_left may (state.Waiting sent) h = h
taken_left may (state.Answered given) h = h

asked_left : (may : Errno → Type 0) (doing : State) → Left may doing → Left may (asked_state doing)
asked_left may (state.Queued sent) h = h
asked_left may state.Ready h = h
asked_left may (state.Taken sent) h = h
asked_left may (state.Waiting sent) h = h
asked_left may (state.Answered given) h = h

-- ---- all threads of a user

-- what holds of the state of each
abbrev pub Rows : (ℕ → ℕ → State → Type 0) → Part → Type 0
Rows P part = (process thread : ℕ) (row : ThreadRow) → thread_at part process thread ≡ Some row → P process thread row.state

module _ (P : ℕ → ℕ → State → Type 0) (part : Part) (number thread : ℕ) (change : ThreadRow → ThreadRow) (f : Process → Process) (changes : ChangesThread thread change f) where
  -- one of them changes
  rows_changed : Rows P part → ((row : ThreadRow) → thread_at part number thread ≡ Some row → P number thread (change row).state) → Rows P (with_process number f part)
  rows_changed h new p t row is = elim (cases_eq p number) [
    | inl same ↦ elim (cases_eq t thread) [
      | inl also ↦ subst (λ n. (row : ThreadRow) → thread_at (with_process number f part) n t ≡ Some row → P n t row.state) (sym same) (subst (λ n. (row : ThreadRow) → thread_at (with_process number f part) number n ≡ Some row → P number n row.state) (sym also) its) row is
      | inr apart ↦ h p t row (sym (thread_other part number thread change f changes p t (inr apart)) ∙ is)
    ]
    | inr apart ↦ h p t row (sym (thread_other part number thread change f changes p t (inl apart)) ∙ is)
  ]
    where
      its : (row : ThreadRow) → thread_at (with_process number f part) number thread ≡ Some row → P number thread row.state
      its row is = let was = mapped-was (thread_at part number thread) change row (sym (thread_changed part number thread change f changes) ∙ is) in subst (λ (r : ThreadRow). P number thread r.state) was.2 (new was.0 was.1)

-- ---- a user's part

module _ (may : ℕ → ℕ → Errno → Type 0) where
  -- a call that waits is its thread's
  abbrev pub TellsCall : WaitingCall → Errno → Type 0
  TellsCall waiting error = may waiting.process waiting.thread error

  abbrev pub RowsLeft : Part → Type 0
  RowsLeft part = Rows (λ process thread. Left (may process thread)) part

  -- each thread has been told what it may, and is to be told no other, once a step is done
  pub record WellLeft (part : Part) : Type 0 where
    pub rows : RowsLeft part
    pub pipes : InPipes TellsCall part.resources.pipes

  -- and before a step
  pub record WellTold (part : Part) : Type 0 where
    pub rows : Rows (λ process thread. Fits (may process thread)) part
    pub pipes : InPipes TellsCall part.resources.pipes

  rows_left : (part : Part) → WellTold part → RowsLeft part
  rows_left part h process thread row there = fits_left (may process thread) row.state (h.rows process thread row there)

  pub told_left : (part : Part) → WellTold part → WellLeft part
  told_left part h = record { rows = rows_left part h; pipes = h.pipes }

  -- ---- answers

  given_left : (waiting : WaitingCall) (given : Answer) → IsTold TellsCall (waiting, given) → Left (may waiting.process waiting.thread) (state.Answered given)
  given_left waiting (answer.Reply status bytes) h = h
  given_left waiting (answer.Failed error) h = h

  answers_left : (answers : List (WaitingCall × Answer)) (part : Part) → RowsLeft part → AreTold TellsCall answers → RowsLeft (with_answers answers part)
  answers_left [] part h told = h
  answers_left ((waiting, given) ∷ answers) part h told =
      answers_left answers (with_answer (waiting, given) part)
      (rows_changed (λ process thread. Left (may process thread)) part waiting.process waiting.thread (answered_thread given) (with_thread waiting.thread (answered_thread given)) (λ process. refl) h (λ row there. given_left waiting given told.0)) told.1

  -- what is done leaves this
  deed_left : (answers : List (WaitingCall × Answer)) (part : Part) → RowsLeft part → InPipes TellsCall part.resources.pipes → AreTold TellsCall answers → WellLeft (with_answers answers part)
  deed_left answers part rows pipes told = record { rows = answers_left answers part rows told; pipes = subst (λ (r : Resources). InPipes TellsCall r.pipes) (sym (answers-resources answers part)) pipes }

  -- ---- what a worker does

  pub take_left : (part : Part) (own : OwnItem) → WellTold part → WellLeft (take part own)
  unfolding take
  take_left part (item.Message number thread) h = record {
    rows = rows_changed (λ p t. Left (may p t)) part number thread taken_thread (with_thread thread taken_thread) (λ process. refl) (rows_left part h) (λ row there. taken_left (may number thread) row.state (h.rows number thread row there));
    pipes = h.pipes;
  }
  take_left part (item.Unblock number thread call) h = told_left part h
  take_left part (item.Disconnect number server) h = told_left part h

  pub settle_left : (before : Part) (held : List OwnItem) (after : Part) → WellLeft after → WellLeft (settle_part before held after)
  unfolding settle_part
  settle_left before held after h = record { rows = λ p t row there. h.rows p t row (by p t row there); pipes = h.pipes }
    where
      left : (p t : ℕ) (was : Option Process) (row : ThreadRow) → thread_of t (row_left held after.resources.pipes p was) ≡ Some row → thread_of t was ≡ Some row
      left p t None row there = there
      left p t (Some process) row there = cond_both (stays held after.resources.pipes p process) (Some process) None (λ now. thread_of t now ≡ Some row → row_at process.threads t ≡ Some row) (λ stays is. is) (λ gone is. absurd (cc)) there

      by : (p t : ℕ) (row : ThreadRow) → thread_of t (row_at (processes_left held after.resources.pipes 0 after.processes) p) ≡ Some row → thread_at after p t ≡ Some row
      by p t row there = left (0 + p) t (row_at after.processes p) row (sym (ap (thread_of t) (row_at-left held after.resources.pipes 0 p after.processes)) ∙ there)

  -- ---- what a client does

  abbrev pub Gave : ClientStep → Type 0
  Gave given = WellLeft given.part

  module _ (part : Part) (h : WellTold part) where
    -- one thread changes
    thread_left : (number thread : ℕ) (change : ThreadRow → ThreadRow) (f : Process → Process) → ChangesThread thread change f → ((row : ThreadRow) → thread_at part number thread ≡ Some row → Left (may number thread) (change row).state) → WellLeft (with_process number f part)
    thread_left number thread change f changes new = record { rows = rows_changed (λ p t. Left (may p t)) part number thread change f changes (rows_left part h) new; pipes = h.pipes }

    row_fits : (number thread : ℕ) (row : ThreadRow) (doing : State) → thread_at part number thread ≡ Some row → row.state ≡ doing → (other : ThreadRow) → thread_at part number thread ≡ Some other → Fits (may number thread) doing
    row_fits number thread row doing there is other same = subst (Fits (may number thread)) is (h.rows number thread row there)

    -- a process comes, and its threads are ready
    ready_left : (count prio t : ℕ) (row : ThreadRow) → thread_of t (Some (new_process count prio)) ≡ Some row → (g : Errno → Type 0) → Left g row.state
    ready_left count prio zero row there g = absurd (cc)
    ready_left count prio (suc t) row there g = all count t there
      where
        all : (count t : ℕ) → row_at (replicate count (Some (new_thread prio))) t ≡ Some row → Left g row.state
        all zero t there = absurd (cc)
        all (suc count) zero there = subst (λ (r : ThreadRow). Left g r.state) (same_Some _ _ there) tt
        all (suc count) (suc t) there = all count t there

    spawn_left : (limits : UserLimits) (count prio : ℕ) → Gives Gave (spawn limits part count prio)
    spawn_left limits count prio =
        gives_by (λ number. row_at part.processes number ≡ None) _ (spawn_number limits part.processes count prio) _ (spawn_free limits part count prio) (λ number free.
        gives_done _ _ (record { rows = λ p t row there. by number free p t row there; pipes = h.pipes }))
      where
        by : (number : ℕ) → row_at part.processes number ≡ None → (p t : ℕ) (row : ThreadRow) → thread_of t (row_at (put_row part.processes number (new_process count prio)) p) ≡ Some row → Left (may p t) row.state
        by number free p t row there = elim (row-put part.processes number (new_process count prio) free p) [
          | inl same ↦ rows_left part h p t row (sym (ap (thread_of t) same) ∙ there)
          | inr new ↦ ready_left count prio t row (sym (ap (thread_of t) new.0) ∙ there) (may p t)
        ]

    call_left : (config : Configuration) (user : ℕ) (thread : Thread) (asked : Request) → Gives Gave (call config user part thread asked)
    call_left config user thread asked =
        gives_on _ (target_by config user part.resources.mounts part.processes thread asked) _ (λ addressed is.
        let sent : Sent = record { target = addressed.target; is_asked = false; bytes = bytes_of (content_of asked addressed.rest addressed.to) } in
        gives_done _ _ (thread_left thread.proc.num thread.tid (queued_thread sent) (with_queued thread.tid sent) (over_changes thread.tid (queued_thread sent) addressed.target.over addressed.target.manager) (λ row there. tt)))

    reply_left : (thread : Thread) → Gives Gave (take_reply part thread)
    reply_left thread =
        gives_on _ (found (thread_at part thread.proc.num thread.tid) WrongState) _ (λ row is.
        gives_on _ (found (answer_in row.state) WrongState) _ (λ given answered.
        gives_done _ _ (thread_left thread.proc.num thread.tid ready_thread (with_thread thread.tid ready_thread) (λ process. refl) (λ other there. tt))))

    prio_left : (ceiling : ℕ) (thread : Thread) (prio : ℕ) → Gives Gave (set_prio ceiling part thread prio)
    prio_left ceiling thread prio =
        gives_on _ (found (thread_at part thread.proc.num thread.tid) WrongState) _ (λ row is.
        gives_on _ (may_give ceiling prio) _ (λ allowed is_allowed.
        gives_done _ _ (thread_left thread.proc.num thread.tid (ranked_thread prio) (with_thread thread.tid (ranked_thread prio)) (λ process. refl) (λ other there. rows_left part h thread.proc.num thread.tid other there))))

    asked_left_in : (thread : Thread) → WellLeft (with_process thread.proc.num (with_thread thread.tid asked_thread) part)
    asked_left_in thread = thread_left thread.proc.num thread.tid asked_thread (with_thread thread.tid asked_thread) (λ process. refl) (λ other there. asked_left (may thread.proc.num thread.tid) other.state (rows_left part h thread.proc.num thread.tid other there))

    interrupt_left : (prio : ℕ) (thread : Thread) (number : ℕ) (row : ThreadRow) → thread_at part thread.proc.num thread.tid ≡ Some row → (doing : State) → row.state ≡ doing → Gave (interrupt_in prio part thread number doing)
    interrupt_left prio thread number row there (state.Queued sent) is =
        thread_left thread.proc.num thread.tid (answered_thread (answer.Failed EINTR)) (λ process. after_error thread.tid sent.target.over (with_thread thread.tid (answered_thread (answer.Failed EINTR)) process)) (error_changes thread.tid (answered_thread (answer.Failed EINTR)) sent.target.over)
        (λ other same. row_fits thread.proc.num thread.tid row (state.Queued sent) there is other same EINTR (inl refl))
    interrupt_left prio thread number row there (state.Taken sent) is = cond_both sent.is_asked _ _ Gave (λ asked. told_left part h) (λ first. asked_left_in thread)
    interrupt_left prio thread number row there (state.Waiting sent) is = cond_both sent.is_asked _ _ Gave (λ asked. told_left part h) (λ first. asked_left_in thread)
    interrupt_left prio thread number row there state.Ready is = told_left part h
    interrupt_left prio thread number row there (state.Answered given) is = told_left part h

    pulse_left : (process : ℕ) (first : Option Pulse) → Gave (pulse_taken part process first)
    pulse_left process None = told_left part h
    pulse_left process (Some first) = record { rows = rows_left part h; pipes = h.pipes }

    -- a process ends: it has no threads, and nobody is told anything whose call waits on
    exit_left : (number : ℕ) → WellLeft (with_process number ended (record part { resources = without_process number part.resources }))
    exit_left number = record { rows = rows; pipes = record { each = each } }
      where
        none : (was : Option Process) (t : ℕ) (row : ThreadRow) → thread_of t (option_map ended was) ≡ Some row → ⊥
        none None t row there = absurd (cc)
        none (Some process) t row there = absurd (cc)

        rows : RowsLeft (with_process number ended (record part { resources = without_process number part.resources }))
        rows p t row there = elim (cases_eq p number) [
          | inl same ↦ absurd (none (row_at part.processes number) t row (sym (ap (thread_of t) (ap (row_at (with_row part.processes number ended)) same ∙ with_row-at part.processes number ended)) ∙ there))
          | inr apart ↦ rows_left part h p t row (sym (ap (thread_of t) (with_row-other part.processes number ended p apart)) ∙ there)
        ]

        calls : (M : WaitingCall → Type 0) (all : List WaitingCall) → AllByRecursion (λ waiting. is_gone waiting ≡ false → M waiting) all → AllByRecursion (λ waiting. is_gone waiting ≡ false → M waiting) (map (abandoned number) all)
        calls M [] k = tt
        calls M (waiting ∷ all) k =
            (cond_both (is_of_process number waiting) (record waiting { is_gone = true }) waiting (λ (now : WaitingCall). is_gone now ≡ false → M now) (λ its gone. absurd (cc)) (λ other. k.0), calls M all k.1)

        each : (inode : ℕ) (pipe : Pipe WaitingCall) → row_at (without_process number part.resources).pipes inode ≡ Some pipe → IsLeft TellsCall pipe.device is_gone pipe
        each inode pipe here =
            let was = mapped-was (row_at part.resources.pipes inode) (with_abandoned number) pipe (sym (abandoned-at number part.resources.pipes inode) ∙ here) in
            let before = h.pipes.each inode was.0 was.1 in
            subst (λ (p : Pipe WaitingCall). IsLeft TellsCall p.device is_gone p) was.2
            (record { device_is = refl; readers = calls (MayRead TellsCall was.0.device) was.0.readers before.readers; writers = calls (MayWrite TellsCall was.0.device) was.0.writers before.writers })

    client_given-left : (config : Configuration) (user : ℕ) (held : List OwnItem) (e : Step) → Gives Gave (client_given config user held part e)
    client_given-left config user held (Spawn of_user threads prio) = spawn_left (limits_of config user) threads prio.0
    client_given-left config user held (Call thread asked) = call_left config user thread asked
    client_given-left config user held (TakeReply thread) = reply_left thread
    client_given-left config user held (Exit proc) = gives_on _ (found (living (row_at part.processes proc.num)) WrongState) _ (λ process is. gives_done _ _ (exit_left proc.num))
    client_given-left config user held (TakePulse proc) = gives_on _ (found (living (row_at part.processes proc.num)) WrongState) _ (λ process is. gives_done _ _ (pulse_left proc.num (first_pulse proc.num part.resources.events)))
    client_given-left config user held (SetPrio thread prio) = prio_left (limits_of config user).ceiling thread prio.0
    client_given-left config user held (Interrupt thread) = gives_on _ (found (thread_at part thread.proc.num thread.tid) WrongState) _ (λ row is. gives_done _ _ (interrupt_left (limits_of config user).disconnect thread row.calls row (found-row _ _ row is) row.state refl))
    client_given-left config user held (Mount thread path manager) = gives_on _ (mount_by config user part thread path manager) _ (λ mount is. gives_done _ _ (record { rows = rows_left part h; pipes = h.pipes }))
    client_given-left config user held _ = gives_error _ _

    pub client_left : (config : Configuration) (user : ℕ) (held : List OwnItem) (e : Step) → Gave (client config user held part e)
    unfolding client
    client_left config user held e = unchanged-keeps WellLeft part (told_left part h) _ (client_given-left config user held e)

-- ---- a message is served

-- where calls wait by a device's rules, or by a pipe's, it is at such a manager
abbrev pub IsAt : Manager → Option Device → Type 0
IsAt managers.Ram device = ⊥
IsAt managers.Pipe device = device ≡ None
IsAt (managers.Device of_an_author) device = Unit {0}

read_at : (manager : Manager) (device : Option Device) (count : ℕ) (error : Errno) → IsAt manager device → IsOneOf (read_errors device) error → IsOneOf (served manager (msg.Read count)) error
read_at managers.Ram device count error at among = absurd (at)
read_at managers.Pipe device count error at among = subst (λ d. IsOneOf (read_errors d) error) at among
read_at (managers.Device of_an_author) device count error at among = tt

write_at : (manager : Manager) (device : Option Device) (bytes : List ℕ) (error : Errno) → IsAt manager device → IsOneOf (write_errors device) error → IsOneOf (served manager (msg.Write bytes)) error
write_at managers.Ram device bytes error at among = absurd (at)
write_at managers.Pipe device bytes error at among = subst (λ d. IsOneOf (write_errors d) error) at among
write_at (managers.Device of_an_author) device bytes error at among = tt

-- so it is of each pipe that a connection has open
abbrev pub AreAt : Part → Type 0
AreAt part = (number : ℕ) (process : Process) → row_at part.processes number ≡ Some process → (target : Target) (over : Opened) → IsOver process target over
    → (block : Ocb) (pipe : Pipe WaitingCall) → row_at part.resources.inodes.blocks over.number ≡ Some block → row_at part.resources.pipes block.inode ≡ Some pipe → IsAt target.manager pipe.device

opened_comes : (process : Process) (caller : Caller) (target : Target) (moment : ℕ) (old : Option Coid) → Comes Anything (λ error. IsAmong error (EINVAL ∷ EBADF ∷ [])) (opened_by process caller target moment old)
opened_comes process caller target moment old =
    comes_on _ _ (works_over target.over old) _ (by target.over old) (λ coid is.
    comes_on _ _ (found (row_at process.connections coid.0) EBADF) _ (comes_found _ _ EBADF (inr (inl refl))) (λ connection there.
    comes_on _ _ (need (is_numbered (manager_number target.manager) connection.manager) EBADF) _ (comes_need _ _ EBADF (inr (inl refl))) (λ here is_here.
    comes_on _ _ (found connection.block EBADF) _ (comes_found _ _ EBADF (inr (inl refl))) (λ number has. comes_done _ _ _ tt))))
  where
    by : (over : Over) (old : Option Coid) → Comes Anything (λ error. IsAmong error (EINVAL ∷ EBADF ∷ [])) (works_over over old)
    by over (Some coid) = comes_done _ _ _ tt
    by over None = comes_found _ _ EINVAL (inl refl)

module _ (may : ℕ → ℕ → Errno → Type 0) (part : Part) (h : WellTold may part) where
  module _ (at : AreAt part) (number thread : ℕ) (process : Process) (is_process : row_at part.processes number ≡ Some process) (row : ThreadRow) (is_row : row_at process.threads thread ≡ Some row) (sent : Sent) (is_sent : taken_in row.state ≡ Some sent) (moment : ℕ) where
    abbrev its_caller : Caller
    its_caller = caller_of number thread row sent

    abbrev its_context : Meaning → Context
    its_context given = context_of process its_caller sent.target moment given

    there : thread_at part number thread ≡ Some row
    there = ap (thread_of thread) is_process ∙ is_row

    -- what the thread may be told: each error that its message may be answered with
    its_errors : (error : Errno) → MayAnswer sent error → may number thread error
    its_errors = subst (Fits (may number thread)) (taken_is row.state sent is_sent) (h.rows number thread row there)

    its_own : (over : Opened) → caller_in over ≡ its_caller → (error : Errno) → MayAnswer sent error → may over.process over.thread error
    its_own over same error answer = subst (λ (caller : Caller). may caller.process caller.thread error) (sym same) (its_errors error answer)

    -- a READ or a WRITE that waits
    may_come : (message : Message) → meaning sent.bytes ≡ Known message → MayCome (TellsCall may) part.resources h.pipes (its_context (Known message)) (opened_comes process its_caller sent.target moment (dup_of (Known message))) message
    may_come message known = record {
      reads = λ over is count same block pipe there here error among.
          its_own over (opened_by-caller process its_caller sent.target moment (dup_of (Known message)) over is) error
          (inr (subst (λ given. IsOneOf (performed sent.target.manager given) error) (sym (known ∙ ap (λ m. Known m) same))
          (read_at sent.target.manager pipe.device count error (at number process is_process sent.target over (opened_by-over process its_caller sent.target moment (dup_of (Known message)) over is) block pipe there here) among)));
      writes = λ over is bytes same block pipe there here error among.
          its_own over (opened_by-caller process its_caller sent.target moment (dup_of (Known message)) over is) error
          (inr (subst (λ given. IsOneOf (performed sent.target.manager given) error) (sym (known ∙ ap (λ m. Known m) same))
          (write_at sent.target.manager pipe.device bytes error (at number process is_process sent.target over (opened_by-over process its_caller sent.target moment (dup_of (Known message)) over is) block pipe there here) among)));
    }

    deed_comes : (given : Meaning) → meaning sent.bytes ≡ given → Comes (InDeed (TellsCall may)) (IsOneOf (performed sent.target.manager given)) (deed_of part.resources (its_context given) given)
    deed_comes (Known message) known = manager_comes (TellsCall may) part.resources h.pipes (its_context (Known message)) (opened_comes process its_caller sent.target moment (dup_of (Known message))) sent.target.manager message (may_come message known)
    deed_comes Unknown known = comes_error _ _ _ (inl refl)
    deed_comes Malformed known = comes_error _ _ _ (inl refl)

    -- the thread is answered, or it waits
    reply_rows : (over : Over) (reply : Option Reply) (r : Resources) → RowsLeft may (with_process number (after_serving thread over reply) (record part { resources = r }))
    reply_rows over None r =
        rows_changed (λ p t. Left (may p t)) (record part { resources = r }) number thread served_thread (after_serving thread over None) (λ process. refl) (rows_left may part h)
        (λ other is. subst (λ (s : State). Left (may number thread) (served_state s)) (sym (ap (λ (o : ThreadRow). o.state) (same_Some _ _ (sym is ∙ there)) ∙ taken_is row.state sent is_sent)) tt)
    reply_rows over (Some reply) r =
        rows_changed (λ p t. Left (may p t)) (record part { resources = r }) number thread (answered_thread (answer.Reply reply.status reply.bytes)) (after_serving thread over (Some reply))
        (reply_changes thread (answered_thread (answer.Reply reply.status reply.bytes)) over reply.effect) (rows_left may part h) (λ other is. tt)

    answer_left : (over : Over) (given : Result (Deed Resources) Errno) → Comes (InDeed (TellsCall may)) (IsOneOf (performed sent.target.manager (meaning sent.bytes))) given → WellLeft may (after_answer part number thread over given)
    answer_left over (Ok deed) comes = deed_left may deed.answers _ (reply_rows over deed.reply deed.state) comes.gives.pipes comes.gives.answers
    answer_left over (Err error) comes = thread_left may part h number thread (answered_thread (answer.Failed error)) (λ process. after_error thread over (with_thread thread (answered_thread (answer.Failed error)) process)) (error_changes thread (answered_thread (answer.Failed error)) over)
        (λ other is. its_errors error (inr comes.fails))

    pub served_left : WellLeft may (after_answer part number thread sent.target.over (deed_of part.resources (its_context (meaning sent.bytes)) (meaning sent.bytes)))
    served_left = answer_left sent.target.over _ (deed_comes (meaning sent.bytes) refl)

  message_left : AreAt part → (prio number thread moment : ℕ) → Gives (λ (served : Served). WellLeft may served.part) (serve_message prio part number thread moment)
  message_left at prio number thread moment =
      gives_on _ (found (row_at part.processes number) WrongState) _ (λ process is_process.
      gives_on _ (found (row_at process.threads thread) WrongState) _ (λ row is_row.
      gives_on _ (found (taken_in row.state) WrongState) _ (λ sent is_sent.
      gives_done _ _ (served_left at number thread process (found-row _ _ process is_process) row (found-row _ _ row is_row) sent (found-row _ _ sent is_sent) moment))))

  -- a pulse asks to unblock
  pulse_served : (process thread number moment : ℕ) → Gives (λ (served : Served). WellLeft may served.part) (serve_pulse part process thread number moment)
  pulse_served process thread number moment =
      gives_by (InDeed (TellsCall may)) _ (cancel_call part.resources process thread number moment) _ (record { gives = (cancel_keeps (TellsCall may) part.resources process thread number moment h.pipes).gives })
      (λ deed told. gives_done _ _ (deed_left may deed.answers _ (rows_left may part h) told.pipes told.answers))

  -- a client is gone
  disconnect_served : (client : Client) (moment : ℕ) → Gives (λ (served : Served). WellLeft may served.part) (serve_disconnect part client moment)
  disconnect_served client moment =
      gives_on _ (found (row_at part.processes client.process) WrongState) _ (λ process is.
      let told = client_keeps (TellsCall may) part.resources client moment h.pipes in
      gives_done _ _ (deed_left may (close_client part.resources client moment).answers _
      (λ p t row there. rows_left may part h p t row (sym (unserved_same part.processes client.process client.server p t) ∙ there)) told.pipes told.answers))

  pub serve_left : AreAt part → (config : Configuration) (user : ℕ) (held : List OwnItem) (own : OwnItem) (moment : ℕ) → WellLeft may (serve config user held part own moment).part
  unfolding serve
  serve_left at config user held (item.Message process thread) moment = kept-keeps (WellLeft may) part (told_left may part h) _ (message_left at (limits_of config user).disconnect process thread moment)
  serve_left at config user held (item.Unblock process thread number) moment = kept-keeps (WellLeft may) part (told_left may part h) _ (pulse_served process thread number moment)
  serve_left at config user held (item.Disconnect process server) moment = kept-keeps (WellLeft may) part (told_left may part h) _ (disconnect_served (record { process = process; server = server }) moment)
