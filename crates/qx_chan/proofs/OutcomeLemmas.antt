-- A received message that was done is replied to, is left without a reply, or is refused: rows, lines and nodes stand together each time, but
-- that answers are on their way, and once those are given all is as in the machine.
use Rattle.std.proofs.Common.{◌≡◌, subst, ℕ, ◌∷◌, ◌++◌, [], true, false, List, Option, Some, None, Result, Ok, Err, map, refl, sym, ◌∙◌, ap, ap₂}
use Rattle.std.proofs.lemmas.Bool.{eq-eqb}
use Rattle.std.specs.Option.{option_to_list}
use Rattle.std.specs.Prelude.{if◌then◌else◌, is_some, option_map, take}
use Rattle.std.proofs.lemmas.List.{append-nil}
use Rattle.qx_types.specs.Managers.{manager_number}
use Rattle.qx_base.specs.declared.errno.Errno.{Errno}
use Rattle.qx_types.specs.declared.names.Manager.{Manager}
use Rattle.qx_types.specs.declared.names.Thread.{Thread}
use Rattle.qx_types.specs.declared.outcome.Answer.{Answer}
use Rattle.qx_types.specs.declared.outcome.Answer.TheVariants as answer
use Rattle.qx_wire.specs.Reading.{meaning}
use Rattle.qx_paths.specs.Prefixes.{MountPoint}
use Rattle.qx_machine.specs.declared.rows.Effect.{Effect}
use Rattle.qx_isolation.specs.declared.rows.OwnItem.TheVariants as item
use Rattle.qx_isolation.specs.declared.rows.Queued as queued
use Rattle.qx_isolation.specs.declared.rows.ServerName.{ServerName}
use Rattle.qx_machine.specs.declared.rows.State.{State}
use Rattle.qx_machine.specs.declared.rows.State.TheVariants.{Answered, Queued, Ready, Taken, Waiting}
use Rattle.qx_machine.specs.declared.rows.ThreadRow.{ThreadRow}
use Rattle.qx_machine.specs.Events.{Events}
use Rattle.qx_machine.specs.Functions.{Deed, Reply}
use Rattle.qx_isolation.specs.Lines.{line_at, with_line}
use Rattle.qx_machine.specs.Machine.{line_without, lines_after}
use Rattle.qx_machine.specs.Parts.{Change, Part, disconnect, disconnects, thread_of, with_process}
use Rattle.qx_machine.specs.Resources.{Resources}
use Rattle.qx_machine.specs.Performing.{Served, after_answer, after_message, after_serving, answered_changes, or_kept, own_change, serve_message, served_changes, taken_in}
use Rattle.qx_machine.specs.Processes.{Process, served_state, served_thread, with_thread}
use Rattle.qx_machine.specs.Settling.{is_living}
use Rattle.qx_machine.proofs.Living.{lives-answered}
use Rattle.qx_isolation.specs.Rows.{row_at, with_row}
use Rattle.qx_machine.proofs.Waiters.{InDeed, deed-keeps, deed-keeps_replied}
use Rattle.qx_queues.specs.Queues.{unblock_call}
use Rattle.qx_shared.specs.Shared.{Shared, users_given, with_shared_line}
use Rattle.qx_resmgr.specs.Deeds.{IsReplied}
use Rattle.qx_resmgr.specs.declared.functions.Done.{Done}
use Rattle.qx_resmgr.specs.declared.functions.Done.TheVariants as done
use Rattle.qx_resources.specs.State as state
use Rattle.qx_resources.specs.State.{told}
use Rattle.qx_resources.specs.declared.tables.Tables.{Tables as AllTables}
use Rattle.qx_process.specs.Reads.{Loses}
use Rattle.qx_clients.specs.Calls.{LosesAt}
use Rattle.qx_chan.specs.inner.Answers.{answered_process, answered_queues, given_lines, given_users, without_pulse}
use Rattle.qx_chan.specs.Channel.{failed}
use Rattle.qx_chan.specs.inner.Channel.{process_replied}
use Rattle.qx_chan.specs.inner.Kept.{Answering, StandTogether, with_lost, asked_call, is_asked_at, is_queued_at, is_waiting_for, stands_at, waits_for}
use Rattle.qx_chan.specs.Serving.{Serves, settled}
use Rattle.qx_chan.specs.inner.Serving.{Comes, Leaves, caller_of_call, deed_in}
use Rattle.qx_chan.specs.Users.{Users, process_of_user, process_of, thread_row, with_process_of, with_thread_row}
use Rattle.qx_chan.specs.declared.call.Call.{Call}
use Rattle.qx_chan.proofs.AnswerLemmas.{IsAnswer, fails, replies}
use Rattle.qx_chan.proofs.GivenLemmas.{lines-machine, resources-machine}
use Rattle.qx_chan.proofs.LostLemmas.{lost-fields, lost-lines, lost-pulses, none-lost}
use Rattle.qx_chan.proofs.MessageLemmas.{Received, serves-message, taken-received}
use Rattle.qx_chan.proofs.ServeLemmas.{Answering-left, Serves-given, Waits, given_all, left-same, nothing_done, shown, waits-before}
use Rattle.qx_chan.proofs.ProcessLemmas.{process_of-same}
use Rattle.qx_chan.proofs.ServedLemmas.{Answering-answered, changed-there, lines-done, users-done, users-refused}
use Rattle.qx_chan.proofs.ThreadLemmas.{Kept-thread, one_thread}

-- ---- a message that is served stands in no line, is asked as it was, and its thread waits

served-stands : (at : ℕ) (row : Option ThreadRow) → stands_at at (option_map served_thread row) ≡ stands_at at row
served-stands at None = refl
served-stands at (Some row) = by_state row.state
  where
    by_state : (s : State) → is_queued_at at (served_state s) ≡ is_queued_at at s
    by_state Ready = refl
    by_state (Queued sent) = refl
    by_state (Taken sent) = refl
    by_state (Waiting sent) = refl
    by_state (Answered answer) = refl

served-asked : (at call : ℕ) (row : Option ThreadRow) → asked_call at call (option_map served_thread row) ≡ asked_call at call row
served-asked at call None = refl
served-asked at call (Some row) = by_state row.state
  where
    by_state : (s : State) → is_asked_at at call row.calls (served_state s) ≡ is_asked_at at call row.calls s
    by_state Ready = refl
    by_state (Queued sent) = refl
    by_state (Taken sent) = refl
    by_state (Waiting sent) = refl
    by_state (Answered answer) = refl

served-waits : (call : ℕ) (row : Option ThreadRow) → waits_for call row ≡ true → waits_for call (option_map served_thread row) ≡ true
served-waits call None is = is
served-waits call (Some row) is = by_state row.state is
  where
    by_state : (s : State) → is_waiting_for call row.calls s ≡ true → is_waiting_for call row.calls (served_state s) ≡ true
    by_state Ready is = is
    by_state (Queued sent) is = is
    by_state (Taken sent) is = let clash : false ≡ true = is in absurd (cc)
    by_state (Waiting sent) is = is
    by_state (Answered answer) is = is

module _ (users : Users) (w : AllTables) (thread : Thread) (call : Call) (its : Received users thread call) (kept : StandTogether users w.shared) where
  abbrev user : ℕ
  user = thread.proc.user.0

  abbrev manager : Manager
  manager = call.target.manager

  abbrev drop_pulse : List queued.Queued → List queued.Queued
  drop_pulse = line_without user (item.Unblock thread.proc.num thread.tid call.number)

  -- no unblock pulse of the call is left
  abbrev pub Gone : Shared → Type 0
  Gone d = unblock_call (line_at d.lines (manager_number manager)) thread ≡ Some call.number → unblock_call (drop_pulse (line_at d.lines (manager_number manager))) thread ≡ None

  -- ---- the message is served

  abbrev served_users : Users
  served_users = with_thread_row users thread served_thread

  pub Kept-served : StandTogether (with_thread_row users thread served_thread) w.shared
  Kept-served = Kept-thread users w.shared thread served_thread kept (λ at. served-stands at (thread_row users thread)) (λ at call. served-asked at call (thread_row users thread)) (λ call. served-waits call (thread_row users thread))

  -- the thread waits for the answer to its call
  own-waits : waits_for call.number (thread_row served_users thread) ≡ true
  own-waits = ap (waits_for call.number) row_is ∙ ap (λ (c : Call). is_waiting_for c.number its.row.calls (Waiting (record its.sent { bytes = [] }))) (sym its.call_is)
      ∙ eq-eqb its.row.calls its.row.calls refl
    where
      row_is : thread_row served_users thread ≡ Some (record its.row { state = Waiting (record its.sent { bytes = [] }) })
      row_is = (one_thread users thread (with_thread thread.tid served_thread) served_thread (λ x. refl) (λ x. refl)).own
          ∙ ap (option_map served_thread) (ap (λ processes. thread_of thread.tid (process_of_user thread.proc.num processes)) its.user ∙ ap (thread_of thread.tid) its.there ∙ its.at)
          ∙ ap (λ (s : State). Some (record its.row { state = served_state s })) its.is

  -- ---- what it comes to

  abbrev After : Users → Shared → List (List MountPoint) → List Events → state.Kept → state.Kept → (Part → Served) → Type 0
  After rows after mounts events k l served = Answering rows after × Serves (shown users w.shared w.mounts w.events.events) (given_all rows after mounts events) k l (λ part. settled part (served part))

  module _ (prio : ℕ) (k l : state.Kept) (v : AllTables) (of : k.user ≡ user) (moment : ℕ) where
    abbrev part : Part
    part = record { processes = its.processes; resources = told k w }

    abbrev meant : Result (Deed Resources) Errno
    meant = deed_in k w its.process thread call moment its.sent.bytes

    abbrev served : Part → Served
    served part = or_kept part (serve_message prio part thread.proc.num thread.tid moment)

    -- what the machine makes of the part, by what the message comes to
    abbrev lost_by : Result (Deed Resources) Errno → List Change
    lost_by r = disconnects prio thread.proc.num (after_message thread.tid call.target.over r) (row_at part.processes thread.proc.num)

    abbrev served_by : Result (Deed Resources) Errno → Served
    served_by r = record { part = after_answer part thread.proc.num thread.tid call.target.over r; changes = served_changes (with_process thread.proc.num (after_message thread.tid call.target.over r) part) manager (caller_of_call thread call) (lost_by r) r }

    -- the disconnect pulse of what is lost
    lost_pulses : (f : Process → Process) (lost : Option ServerName) → Loses lost its.process (f its.process) → disconnects prio thread.proc.num f (row_at part.processes thread.proc.num) ≡ map (disconnect prio thread.proc.num) (option_to_list lost)
    lost_pulses f lost loses = lost-pulses prio thread.proc.num f (row_at part.processes thread.proc.num) lost (rw its.there loses)

    -- what is left without a reply loses nothing
    nothing_lost : (deed : Deed Resources) → None ≡ deed.reply → [] ≡ lost_by (Ok deed)
    nothing_lost deed reply_is = by_row (row_at part.processes thread.proc.num) ∙ ap (λ r. disconnects prio thread.proc.num (after_serving thread.tid call.target.over r) (row_at part.processes thread.proc.num)) reply_is
      where
        by_row : (row : Option Process) → [] ≡ disconnects prio thread.proc.num (after_serving thread.tid call.target.over None) row
        by_row None = refl
        by_row (Some process) = sym (ap (λ servers. map (disconnect prio thread.proc.num) (take 1 servers)) (none-lost process))

    served_is : served part ≡ served_by meant
    served_is = subst (λ (c : Call). served part ≡ record {
      part = after_answer part thread.proc.num thread.tid c.target.over (deed_in k w its.process thread c moment its.sent.bytes);
      changes = served_changes (with_process thread.proc.num (after_message thread.tid c.target.over (deed_in k w its.process thread c moment its.sent.bytes)) part) c.target.manager (caller_of_call thread c)
          (disconnects prio thread.proc.num (after_message thread.tid c.target.over (deed_in k w its.process thread c moment its.sent.bytes)) (row_at part.processes thread.proc.num))
          (deed_in k w its.process thread c moment its.sent.bytes);
    }) its.call_is
        (ap (or_kept part) (serves-message prio part thread.proc.num thread.tid moment its.process its.row its.sent its.there its.at (ap taken_in its.is)))

    module _ (deed : Deed Resources) (left : Leaves (is_living its.processes) k w l v deed) (r : Result (Deed Resources) Errno) (same : served_by meant ≡ served_by r) (resources_are : (served_by r).part.resources ≡ deed.state) where
      -- once the answers are given, all is as in the machine
      serves : (rows : Users) (after : Shared) → after.answered ≡ v.shared.answered → after.pipes ≡ v.shared.pipes
          → given_users rows (map (users_given user) deed.answers) ≡ with_row users user (λ _. (served_by r).part.processes)
          → given_lines rows after.lines (map (users_given user) deed.answers) ≡ lines_after user w.shared.lines (served_by r).changes
          → Serves (shown users w.shared w.mounts w.events.events) (given_all rows after v.mounts v.events.events) k l (λ part. settled part (served part))
      serves = Serves-given users w k served kept l v deed user of its.processes its.user left (served_by r) (served_is ∙ same) resources_are (lives-answered part thread.proc.num thread.tid call.target.over r)

      -- the thread is answered too
      answered : (f : Process → Process) (given : Answer) → IsAnswer thread.tid given f → InDeed (Waits users k.user) deed → Gone v.shared
          → (lost : Option ServerName) → Loses lost its.process (f its.process)
          → given_users (with_process_of users thread.proc f) (map (users_given user) deed.answers) ≡ with_row users user (λ _. (served_by r).part.processes)
          → given_lines (with_process_of users thread.proc f) (lines_after user (with_line w.shared.lines (manager_number manager) drop_pulse) (map (disconnect prio thread.proc.num) (option_to_list lost))) (map (users_given user) deed.answers) ≡ lines_after user w.shared.lines (served_by r).changes
          → After (with_process_of users thread.proc f) (without_pulse prio v.shared its.process (f its.process) thread call) v.mounts v.events.events k l served
      answered f given answers keeps gone lost loses rows_are lines_are = rw loses.lost_is (
        Answering-answered users v.shared thread call (taken-received users thread call its) (Answering-left users k.user w.shared v.shared deed kept left.shared keeps) f given answers gone prio lost loses_there,
        serves rows after (lost-fields prio thread.proc (λ c. c.answered) (λ c server. refl) (option_to_list lost) dropped) (lost-fields prio thread.proc (λ c. c.pipes) (λ c server. refl) (option_to_list lost) dropped) rows_are
            (ap (λ lines. given_lines rows lines (map (users_given user) deed.answers))
            (lost-lines prio thread.proc (option_to_list lost) dropped ∙ ap (λ q. lines_after user (with_line q.lines (manager_number manager) drop_pulse) (map (disconnect prio thread.proc.num) (option_to_list lost))) left.shared)
            ∙ lines_are),
      )
        where
          rows : Users
          rows = with_process_of users thread.proc f

          dropped : Shared
          dropped = with_shared_line v.shared (manager_number manager) drop_pulse

          after : Shared
          after = with_lost prio thread.proc (option_to_list lost) dropped

          loses_there : LosesAt lost (process_of users thread.proc) (process_of rows thread.proc)
          loses_there = rw (process_of-same users thread.proc f, its.user, its.there) loses

    module _ (deed : Deed Resources) (left : Leaves (is_living its.processes) k w l v deed) (same : served_by meant ≡ served_by (Ok deed)) where
      -- the rows once it is replied to, or left without a reply
      abbrev mid : Option Reply → Part
      mid reply = with_process thread.proc.num (after_serving thread.tid call.target.over reply) part

      -- the rows and the lines, by the reply
      rows_by : (reply : Option Reply) → reply ≡ deed.reply → given_users (with_process_of users thread.proc (after_serving thread.tid call.target.over reply)) (map (users_given user) deed.answers) ≡ with_row users user (λ _. (served_by (Ok deed)).part.processes)
      rows_by reply reply_is = ap (λ r. given_users (with_process_of users thread.proc (after_serving thread.tid call.target.over r)) (map (users_given user) deed.answers)) reply_is ∙ users-done users thread.proc thread.tid call.target.over part its.user deed

      lines_by : (reply : Option Reply) (lost : List Change) → reply ≡ deed.reply → lost ≡ lost_by (Ok deed)
          → lines_after user w.shared.lines ((if is_some reply then own_change manager (caller_of_call thread call) ∷ [] else []) ++ lost ++ answered_changes deed.answers (mid reply)) ≡ lines_after user w.shared.lines (served_by (Ok deed)).changes
      lines_by reply lost reply_is lost_is = ap₂ (λ r pulses. lines_after user w.shared.lines ((if is_some r then own_change manager (caller_of_call thread call) ∷ [] else []) ++ pulses ++ answered_changes deed.answers (mid r))) reply_is lost_is

      mid-there : (reply : Option Reply) → row_at (with_process_of users thread.proc (after_serving thread.tid call.target.over reply)) user ≡ Some (mid reply).processes
      mid-there reply = changed-there users thread.proc (after_serving thread.tid call.target.over reply) its.processes its.user

      reply_after : InDeed (Waits users k.user) deed → (status : ℕ) (bytes : List ℕ) (effect : Effect) → Some (record { status = status; bytes = bytes; effect = effect }) ≡ deed.reply → Gone v.shared
          → (lost : Option ServerName) → Loses lost its.process (process_replied thread.tid effect status bytes call.target.over its.process)
          → After (with_process_of users thread.proc (process_replied thread.tid effect status bytes call.target.over)) (without_pulse prio v.shared its.process (process_replied thread.tid effect status bytes call.target.over its.process) thread call) v.mounts v.events.events k l served
      reply_after keeps status bytes effect reply_is gone lost loses =
          let reply : Reply = record { status = status; bytes = bytes; effect = effect } in
          let pulses = map (disconnect prio thread.proc.num) (option_to_list lost) in
          let pulses_are : pulses ≡ lost_by (Ok deed) =
          sym (lost_pulses (process_replied thread.tid effect status bytes call.target.over) lost loses) ∙ ap (λ r. disconnects prio thread.proc.num (after_serving thread.tid call.target.over r) (row_at part.processes thread.proc.num)) reply_is in
          answered deed left (Ok deed) same (resources-machine deed.answers _) (process_replied thread.tid effect status bytes call.target.over) (answer.Reply status bytes) (replies thread.tid effect status bytes call.target.over) keeps
          gone lost loses (rows_by (Some reply) reply_is) (lines-done (with_process_of users thread.proc (after_serving thread.tid call.target.over (Some reply))) user manager deed.answers (mid (Some reply)) (mid-there (Some reply)) w.shared.lines (caller_of_call thread call) pulses ∙ lines_by (Some reply) pulses reply_is pulses_are)

      -- where it is left without a reply, its own call waits or is answered
      waiting_after : meant ≡ Ok deed → None ≡ deed.reply → After served_users v.shared v.mounts v.events.events k l served
      waiting_after is reply_is = (
        Answering-left served_users k.user w.shared v.shared deed Kept-served left.shared
            (deed-keeps (told k w) its.process (caller_of_call thread call) call.target moment (meaning its.sent.bytes) deed is (Waits served_users k.user) (waits-before served_users k.user w.shared Kept-served.waits)
            (λ block wanted bytes. ap (λ u. waits_for call.number (thread_row served_users (record { proc = record { user = record { 0 = u }; num = thread.proc.num }; tid = thread.tid }))) of ∙ own-waits)),
        serves deed left (Ok deed) same (resources-machine deed.answers _) served_users v.shared refl refl (rows_by None reply_is)
            (ap (λ q. given_lines served_users q.lines (map (users_given user) deed.answers)) left.shared ∙ lines-machine served_users user w.shared.lines deed.answers (mid None) (mid-there None) ∙ lines_by None [] reply_is (nothing_lost deed reply_is)),
      )

  -- it is refused, and nothing of the resources or what is shared is different
  error_after : (prio : ℕ) (k : state.Kept) (of : k.user ≡ user) (moment : ℕ) (error : Errno) → meant prio k k w of moment ≡ Err error → Gone w.shared
      → (lost : Option ServerName) → Loses lost its.process (failed thread.tid error call.target.over its.process)
      → After (with_process_of users thread.proc (failed thread.tid error call.target.over)) (without_pulse prio w.shared its.process (failed thread.tid error call.target.over its.process) thread call) w.mounts w.events.events k k (served prio k k w of moment)
  error_after prio k of moment error is gone lost loses =
      let pulses = map (disconnect prio thread.proc.num) (option_to_list lost) in
      answered prio k k w of moment (nothing_done (told k w)) (left-same (is_living its.processes) k w) (Err error) (ap (served_by prio k k w of moment) is) refl (failed thread.tid error call.target.over) (answer.Failed error) (fails thread.tid error call.target.over)
      (record { pipes = waits-before users k.user w.shared kept.waits; answers = tt })
      gone lost loses (users-refused users thread.proc thread.tid call.target.over (part prio k k w of moment) its.user error)
      (lines-done (with_process_of users thread.proc (failed thread.tid error call.target.over)) user manager [] (with_process thread.proc.num (failed thread.tid error call.target.over) (part prio k k w of moment))
      (changed-there users thread.proc (failed thread.tid error call.target.over) its.processes its.user) w.shared.lines (caller_of_call thread call) pulses
      ∙ ap (lines_after user w.shared.lines) (append-nil (own_change manager (caller_of_call thread call) ∷ pulses))
      ∙ ap (λ lost. lines_after user w.shared.lines (own_change manager (caller_of_call thread call) ∷ lost)) (sym (lost_pulses prio k k w of moment (failed thread.tid error call.target.over) lost loses)))

  -- the process once the message is answered, unless it is left without a reply
  abbrev answer_by : List ℕ → Result Done Errno → Process → Process
  answer_by bytes given = answered_process thread.tid call.target.over bytes given

  abbrev Outcome : ℕ → state.Kept → state.Kept → AllTables → ℕ → List ℕ → Result Done Errno → Type 0
  Outcome prio k l v moment bytes given =
      After (with_process_of users thread.proc (answer_by bytes given)) (answered_queues prio v.shared its.process (answer_by bytes given its.process) thread call given) v.mounts v.events.events k l
      (λ part. or_kept part (serve_message prio part thread.proc.num thread.tid moment))

  -- its process has lost a server connection by that or none
  abbrev pub HasLost : List ℕ → Result Done Errno → Type 0
  HasLost bytes given = (lost : Option ServerName) × Loses lost its.process (answer_by bytes given its.process)

  outcome_by : (prio : ℕ) (k l : state.Kept) (v : AllTables) (of : k.user ≡ thread.proc.user.0) (moment : ℕ) (bytes : List ℕ) (given : Result Done Errno) (r : Result (Deed Resources) Errno) → meant prio k l v of moment ≡ r
      → Comes (is_living its.processes) k w l v bytes given r → (IsReplied given → Gone v.shared) → (IsReplied given → HasLost bytes given) → Outcome prio k l v moment bytes given
  outcome_by prio k l v of moment bytes (Ok (done.Reply status effect)) (Ok deed) is did gone lost =
      reply_after prio k l v of moment deed did.1 (ap (served_by prio k l v of moment) is)
      (deed-keeps_replied (told k w) its.process (caller_of_call thread call) call.target moment (meaning its.sent.bytes) deed is (Waits users k.user) (waits-before users k.user w.shared kept.waits) (record { status = status; bytes = bytes; effect = effect }) (sym did.0))
      status bytes effect did.0 (gone tt) (lost tt).0 (lost tt).1
  outcome_by prio k l v of moment bytes (Ok done.NoReply) (Ok deed) is did gone lost = waiting_after prio k l v of moment deed did.1 (ap (served_by prio k l v of moment) is) is did.0
  outcome_by prio k l v of moment bytes (Err error) (Err refused) is did gone lost =
      subst (λ (l : state.Kept). Outcome prio k l v moment bytes (Err error)) (sym did.1)
      (subst (λ v. Outcome prio k k v moment bytes (Err error)) (sym did.2)
      (error_after prio k of moment error (is ∙ ap Err (sym did.0)) (subst (λ (v : AllTables). Gone v.shared) did.2 (gone tt)) (lost tt).0 (lost tt).1))
  outcome_by prio k l v of moment bytes (Ok (done.Reply status effect)) (Err error) is did gone lost = absurd did
  outcome_by prio k l v of moment bytes (Ok done.NoReply) (Err error) is did gone lost = absurd did
  outcome_by prio k l v of moment bytes (Err error) (Ok deed) is did gone lost = absurd did

  pub outcome : (prio : ℕ) (k l : state.Kept) (v : AllTables) (of : k.user ≡ thread.proc.user.0) (moment : ℕ) (bytes : List ℕ) (given : Result Done Errno)
      → Comes (is_living its.processes) k w l v bytes given (meant prio k l v of moment) → (IsReplied given → Gone v.shared) → (IsReplied given → HasLost bytes given) → Outcome prio k l v moment bytes given
  outcome prio k l v of moment bytes given = outcome_by prio k l v of moment bytes given (meant prio k l v of moment) refl
