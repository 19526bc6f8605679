-- A received message is performed: it is done, its thread is answered, and then the events that are due give their pulses, as they would before the
-- answer.
use Rattle.std.proofs.Common.{◌≡◌, ℕ, false, List, Option, Some, None, Ok, Err, slice_set, refl, sym, ◌∙◌, ap, subst}
use Rattle.std.specs.Prelude.{Result, get_or, option_map}
use Rattle.qx_types.specs.Managers.{manager_number}
use Rattle.qx_base.specs.declared.errno.Errno.{Errno}
use Rattle.qx_types.specs.declared.names.Thread.{Thread}
use Rattle.qx_types.specs.declared.outcome.Answer.{Answer}
use Rattle.qx_wire.specs.declared.message.Meaning.{Meaning}
use Rattle.qx_wire.specs.Reading.{meaning}
use Rattle.qx_machine.specs.declared.rows.Context.{Context}
use Rattle.qx_machine.specs.declared.rows.Sent.{Sent}
use Rattle.qx_isolation.specs.declared.rows.ServerName.{ServerName}
use Rattle.qx_machine.specs.declared.rows.ThreadRow.{ThreadRow}
use Rattle.qx_machine.specs.declared.rows.WaitingCall.{WaitingCall}
use Rattle.qx_isolation.specs.Lines.{line_at}
use Rattle.qx_machine.specs.Performing.{context_of, deed_of, or_kept, serve_message, taken_in}
use Rattle.qx_machine.specs.Processes.{Process}
use Rattle.qx_isolation.specs.Rows.{row_at}
use Rattle.qx_machine.specs.Settling.{is_living}
use Rattle.qx_machine.proofs.Living.{KeepsThreads, lives-changed, message-keeps}
use Rattle.qx_machine.specs.Waiting.{Pipes, no_pipes}
use Rattle.qx_process.specs.Reads.{Loses}
use Rattle.qx_queues.specs.Queues.{unblock_call}
use Rattle.qx_shared.specs.Shared.{Shared, has_disconnect_node, with_pipes}
use Rattle.qx_resmgr.specs.Deeds.{Did, IsReplied, reply_with}
use Rattle.qx_resmgr.specs.declared.functions.Done.{Done}
use Rattle.qx_resources.specs.State as state
use Rattle.qx_resources.specs.State.{HasUser, state as whole, told}
use Rattle.qx_resources.specs.Watching.{watched_over, watched_settled}
use Rattle.qx_resources.specs.declared.tables.Tables.{Tables as AllTables}
use Rattle.qx_resources.specs.declared.watching.Watched.{Watched}
use Rattle.qx_notify.specs.Events.{with_events}
use Rattle.qx_chan.specs.inner.Answers.{answered_process, answered_queues}
use Rattle.qx_chan.specs.inner.Kept.{AllStandTogether, Answering, HasServerNodesOf, StandTogether}
use Rattle.qx_chan.specs.inner.Serving.{Comes, caller_of_call, deed_in}
use Rattle.qx_chan.specs.Calls.{call_with}
use Rattle.qx_chan.specs.Serving.{Serves, settled}
use Rattle.qx_chan.specs.Users.{Users, with_process_of}
use Rattle.qx_chan.specs.declared.call.Call.{Call}
use Rattle.qx_chan.proofs.AnswerLemmas.{unasked-line}
use Rattle.qx_chan.proofs.MessageLemmas.{Received, received, taken-received}
use Rattle.qx_chan.proofs.NodesLemmas.{answered-fields, did-fields}
use Rattle.qx_chan.proofs.OutcomeLemmas.{Gone, outcome}
use Rattle.qx_chan.proofs.PulseLemmas.{user-fits}
use Rattle.qx_chan.proofs.ServeLemmas.{given_all, nothing_done, shown}
use Rattle.qx_chan.proofs.SettledLemmas.{IsOpenThere, comes, fits-did, triggered_in}

-- a message that was done: whose it is, how all stood together before, which pipe was watched, and what it came to
pub record IsDone (users : Users) (w : AllTables) (k : state.Kept) (thread : Thread) (call : Call) (moment : ℕ) (watched : Option Watched) (l : state.Kept) (v : AllTables) (bytes : List ℕ) (given : Result Done Errno) : Type 0 where
  pub its : Received users thread call
  pub kept : StandTogether users w.shared
  pub of : k.user ≡ thread.proc.user.0
  pub fits : HasUser k w
  pub there : IsOpenThere k
  pub watches : watched ≡ watched_over (told k w) (meaning its.sent.bytes) (context_of its.process (caller_of_call thread call) call.target moment (meaning its.sent.bytes)).opened
  pub did : Did whole k w l v bytes given (deed_in k w its.process thread call moment its.sent.bytes)

-- as it was read and done
abbrev pub is_done : {spare : Option (List ℕ)} (users : Users) (w : AllTables) → AllStandTogether users w spare → (k : state.Kept) (thread : Thread) → k.user ≡ thread.proc.user.0
    → (processes : List (Option Process)) → Some processes ≡ row_at users thread.proc.user.0 → (process : Process) → Some process ≡ row_at processes thread.proc.num
    → (row : ThreadRow) → Some row ≡ row_at process.threads thread.tid → (sent : Sent) → Some sent ≡ taken_in row.state → (call : Call) → call ≡ call_with row sent → (moment : ℕ)
    → (means : Meaning) → means ≡ meaning sent.bytes → (context : Context) → context ≡ context_of process (caller_of_call thread call) call.target moment means
    → IsOpenThere k → (watched : Option Watched) → watched ≡ watched_over (told k w) means context.opened
    → (l : state.Kept) (v : AllTables) (bytes : List ℕ) (given : Result Done Errno) → Did whole k w l v bytes given (deed_of (told k w) context means)
    → IsDone users w k thread call moment watched l v bytes given
is_done users w all k thread of processes user process there row at sent is call call_is moment means means_is context context_is open_there watched watches l v bytes given did = record {
  its = received users thread processes user process there row at sent is call call_is;
  kept = all.shared;
  of = of;
  fits = user-fits users w k processes (rw of (sym user)) all;
  there = open_there;
  watches = rw (context_is, means_is) at watches;
  did = rw (context_is, means_is) at did;
}

module _ {users : Users} {w : AllTables} {k : state.Kept} {thread : Thread} {call : Call} {moment : ℕ} {watched : Option Watched} {l : state.Kept} {v : AllTables} {bytes : List ℕ} {given : Result Done Errno} (done : IsDone users w k thread call moment watched l v bytes given) where
  abbrev its : Received users thread call
  its = done.its

  -- once the events that are due have given their pulses, if that is before the answer
  abbrev earlier : AllTables
  earlier = triggered_in (is_living its.processes) l v watched

  came : Comes (is_living its.processes) k w l earlier bytes given (deed_in k w its.process thread call moment its.sent.bytes)
  came = comes (is_living its.processes) k l w v earlier (context_of its.process (caller_of_call thread call) call.target moment (meaning its.sent.bytes)) (meaning its.sent.bytes) watched bytes given _ done.fits done.there refl done.watches refl done.did

  -- what is neither a pipe nor an answer that is on its way is as before
  same : {A : Type 0} (read : Shared → A) → ((c : Shared) (user : ℕ) (pipes : Pipes) (answers : List (WaitingCall × Answer)) → read (with_pipes c user pipes answers) ≡ read c) → read v.shared ≡ read w.shared
  same read others = did-fields read others _ k l w earlier bytes given _ came

  pub nodes-done : HasServerNodesOf (Some its.process) v.shared thread.proc
  nodes-done manager = same (λ q. has_disconnect_node q thread.proc (manager_number manager)) (λ q user pipes answers. refl) ∙ done.kept.servers thread.proc manager ∙ rw (its.user, its.there) refl

  pub unasked-done : call.is_asked ≡ false → unblock_call (line_at v.shared.lines (manager_number call.target.manager)) thread ≡ None
  unasked-done unasked =
      same (λ q. unblock_call (line_at q.lines (manager_number call.target.manager)) thread) (λ q user pipes answers. refl)
      ∙ unasked-line users w.shared thread call (taken-received users thread call its) done.kept unasked (manager_number call.target.manager)

  -- its thread is answered
  abbrev change : Process → Process
  change = answered_process thread.tid call.target.over bytes given

  module _ (prio : ℕ) (process : Process) (is : process ≡ answered_process thread.tid call.target.over bytes given its.process) where
    abbrev answered : AllTables
    answered = record v { shared = answered_queues prio v.shared its.process process thread call given }

    abbrev processes : List (Option Process)
    processes = slice_set its.processes thread.proc.num (Some process)

    abbrev rows : Users
    rows = slice_set users thread.proc.user.0 (Some processes)

    rows_same : rows ≡ with_process_of users thread.proc change
    rows_same = rw (is, its.user, its.there) refl

    pipes_same : answered.shared.pipes ≡ v.shared.pipes
    pipes_same = answered-fields (λ q. q.pipes) (λ c proc server prio. refl) (λ c number change. refl) prio v.shared its.process process thread call given

    pub fits-answered : HasUser l (record v { shared = answered_queues prio v.shared its.process process thread call given })
    fits-answered =
        let fits = fits-did k l w v bytes given _ done.fits done.did in
        record { pipes = rw pipes_same fits.pipes; events = fits.events }

    keeps : (given : Result Done Errno) → KeepsThreads (answered_process thread.tid call.target.over bytes given)
    keeps (Ok done) = message-keeps thread.tid call.target.over (Ok (record (nothing_done (told k w)) { reply = reply_with bytes done }))
    keeps (Err error) = message-keeps thread.tid call.target.over (Err error)

    -- who lives does still
    lives_same : is_living processes ≡ is_living its.processes
    lives_same = rw is (subst (λ row. is_living (slice_set its.processes thread.proc.num (option_map change row)) ≡ is_living its.processes) its.there (lives-changed its.processes thread.proc.num _ (keeps given)))

    -- and the events that are due give their pulses
    module _ (now : AllTables) (triggers : now ≡ triggered_in (is_living processes) l answered watched) where
      now_same : now ≡ record earlier { shared = answered.shared }
      now_same = triggers ∙ ap (λ lives. triggered_in lives l answered watched) lives_same
          ∙ ap (λ (pipes : List Pipes). record answered { events = with_events v.events l.user (watched_settled (is_living its.processes) watched (record (told l v) { pipes = get_or pipes l.user no_pipes })) }) pipes_same

      pub room-performed : now.shared.room ≡ w.shared.room
      room-performed = ap (λ (t : AllTables). t.shared.room) now_same ∙ answered-fields (λ q. q.room) (λ c proc server prio. refl) (λ c number change. refl) prio v.shared its.process process thread call given ∙ same (λ q. q.room) (λ q user pipes answers. refl)

      abbrev After : Users → AllTables → Type 0
      After rows t = Answering rows t.shared × Serves (shown users w.shared w.mounts w.events.events) (given_all rows t.shared t.mounts t.events.events) k l (λ part. settled part (or_kept part (serve_message prio part thread.proc.num thread.tid moment)))

      pub performed : (IsReplied given → Gone users w thread call its done.kept v.shared) → (IsReplied given → (lost : Option ServerName) × Loses lost its.process process)
          → Answering (slice_set users thread.proc.user.0 (Some processes)) now.shared
          × Serves (shown users w.shared w.mounts w.events.events) (given_all (slice_set users thread.proc.user.0 (Some processes)) now.shared now.mounts now.events.events) k l (λ part. settled part (or_kept part (serve_message prio part thread.proc.num thread.tid moment)))
      performed gone lost =
          subst (After rows) (sym now_same)
          (subst (λ rows. After rows (record earlier { shared = answered.shared })) (sym rows_same)
          (subst (λ left. After (with_process_of users thread.proc change) (record earlier { shared = answered_queues prio v.shared its.process left thread call given })) (sym is)
          (outcome users w thread call its done.kept prio k l earlier done.of moment bytes given came gone (λ replied. subst (λ left. (lost : Option ServerName) × Loses lost its.process left) is (lost replied)))))
