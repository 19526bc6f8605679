-- The room for nodes: a disconnect node comes out of it as a server connection comes into use, and goes back once its pulse is received.
use Rattle.std.proofs.Common.{◌≡◌, ◌-◌, ℕ, ◌&&◌, Bool, true, false, List, Result, Ok, Err, length, ap, refl, ◌∙◌}
use Rattle.std.specs.Prelude.{Option, Some, if◌then◌else◌, max, slice_set}
use Rattle.std.proofs.lemmas.Bool.{cond_both}
use Rattle.qx_types.specs.Managers.{manager_number}
use Rattle.qx_base.specs.declared.errno.Errno.{Errno}
use Rattle.qx_types.specs.declared.names.Proc.{Proc}
use Rattle.qx_types.specs.declared.names.Thread.{Thread}
use Rattle.qx_types.specs.declared.outcome.Answer.{Answer}
use Rattle.qx_types.specs.declared.outcome.Outcome.{Outcome}
use Rattle.qx_paths.specs.Prefixes.{MountPoint}
use Rattle.qx_machine.specs.declared.rows.Over.{Over}
use Rattle.qx_isolation.specs.declared.rows.OwnItem.TheVariants as item
use Rattle.qx_isolation.specs.declared.rows.Queued.{Queued}
use Rattle.qx_machine.specs.declared.rows.Sent.{Sent}
use Rattle.qx_isolation.specs.declared.rows.ServerName.{ServerName}
use Rattle.qx_machine.specs.declared.rows.WaitingCall.{WaitingCall}
use Rattle.qx_machine.specs.Events.{Events}
use Rattle.qx_machine.specs.Functions.{Deed}
use Rattle.qx_isolation.specs.Lines.{into, with_line}
use Rattle.qx_machine.specs.Machine.{line_without, rank}
use Rattle.qx_machine.specs.Processes.{Process, lost_servers, with_queued}
use Rattle.qx_machine.specs.Resources.{Resources}
use Rattle.qx_isolation.specs.Rows.{row_at, with_row}
use Rattle.qx_machine.specs.Waiting.{Pipes}
use Rattle.qx_queues.specs.Queues.{message_of}
use Rattle.qx_shared.specs.Shared.{Shared, has_disconnect_node, shared_after, with_pipes, with_shared_disconnect, with_shared_line, with_shared_server}
use Rattle.qx_resmgr.specs.declared.functions.Done.{Done}
use Rattle.qx_resmgr.specs.declared.functions.Done.TheVariants.{NoReply, Reply}
use Rattle.qx_resources.specs.State.{Kept}
use Rattle.qx_resources.specs.declared.tables.Tables.{Tables}
use Rattle.qx_chan.specs.inner.Answers.{answered_queues, without_pulse}
use Rattle.qx_chan.specs.Channel.{after_send}
use Rattle.qx_chan.specs.inner.Kept.{StandTogether, with_room, with_sent}
use Rattle.qx_chan.specs.inner.Serving.{Comes}
use Rattle.qx_chan.specs.Nodes.{attaches, room_for, room_used, served_at}
use Rattle.qx_chan.specs.Users.{Users, UsesAt, process_of, with_process_of}
use Rattle.qx_chan.specs.declared.call.Call.{Call}
use Rattle.qx_chan.proofs.LostLemmas.{lost-fields}
use Rattle.qx_chan.proofs.SendLemmas.{and_second, left-called, users-called, uses-called, uses-unmade}
use Rattle.qx_chan.proofs.ServeLemmas.{shown}

room_made : (room : ℕ) (before after : Bool) → after ≡ true → (if before then room else room - 1) ≡ room_used room before after
room_made room true after is = rw is refl
room_made room false after is = rw is refl

room_same : (room : ℕ) (before after : Bool) → before ≡ after → room ≡ room_used room before after
room_same room before true same = rw same refl
room_same room before false same = refl

-- ---- by call

-- a message goes out, for whose disconnect node there is room
module _ (users : Users) (queues : Shared) (thread : Thread) (sent : Sent) (kept : StandTogether users queues) where
  abbrev over : Over
  over = sent.target.over

  abbrev number : ℕ
  number = manager_number sent.target.manager

  abbrev sent_users : Users
  sent_users = with_process_of users thread.proc (with_queued thread.tid sent)

  abbrev change : List Queued → List Queued
  change line = into rank line (message_of thread sent.target.prio.0)

  abbrev with_message : Shared
  with_message = with_shared_line (with_room over queues) number change

  abbrev sent_queues : Shared
  sent_queues = with_sent thread sent (process_of sent_users thread.proc) queues

  abbrev was_served : Bool
  was_served = served_at sent.target.manager (process_of users thread.proc)

  abbrev is_served : Bool
  is_served = served_at sent.target.manager (process_of sent_users thread.proc)

  -- what is neither a node nor room
  sent-fields : {A : Type 0} (read : Shared → A) → ((c : Shared) → read (with_shared_server c thread.proc number) ≡ read c) → read (with_shared_line (record queues { room = max queues.room 2 }) number change) ≡ read (with_shared_line queues number change)
      → read sent_queues ≡ read (with_shared_line queues number change)
  sent-fields read made spared =
      cond_both {A = Shared} (attaches over && is_served) _ _ (λ d. read d ≡ read with_message) (λ does. made with_message) (λ not. refl)
      ∙ cond_both {A = Shared} (attaches over) _ _ (λ d. read (with_shared_line d number change) ≡ read (with_shared_line queues number change)) (λ does. spared) (λ not. refl)

  spared_room : (with_room over queues).room ≡ room_for over queues.room
  spared_room = cond_both {A = Shared} (attaches over) _ _ (λ d. d.room ≡ room_for over queues.room) (λ does. rw does refl) (λ not. rw not refl)

  had_node : has_disconnect_node with_message thread.proc number ≡ was_served
  had_node = cond_both {A = Shared} (attaches over) _ _ (λ d. has_disconnect_node d thread.proc number ≡ was_served) (λ does. kept.servers thread.proc sent.target.manager) (λ not. kept.servers thread.proc sent.target.manager)

  places-sent : length sent_queues.pipes ≡ length queues.pipes
  places-sent = ap length (sent-fields (λ c. c.pipes) (λ c. refl) refl)

  shown-sent : UsesAt sent.target (process_of users thread.proc) (process_of sent_users thread.proc) → (mounts : List (List MountPoint)) (events : List Events) → shown sent_users sent_queues mounts events ≡ after_send (shown users queues mounts events) thread sent
  shown-sent uses mounts events = λ i. record { users = sent_users; lines = lines i; pipes = pipes i; events = events; mounts = mounts; room = room i }
    where
      lines : sent_queues.lines ≡ with_line queues.lines number change
      lines = sent-fields (λ c. c.lines) (λ c. refl) refl

      pipes : sent_queues.pipes ≡ queues.pipes
      pipes = sent-fields (λ c. c.pipes) (λ c. refl) refl

      room : sent_queues.room ≡ room_used (room_for over queues.room) was_served is_served
      room = cond_both {A = Shared} (attaches over && is_served) _ _ (λ d. d.room ≡ room_used (room_for over queues.room) was_served is_served)
          (λ does. ap (λ has. if has then with_message.room else with_message.room - 1) had_node
          ∙ ap (λ room. if was_served then room else room - 1) spared_room
          ∙ room_made (room_for over queues.room) was_served is_served (and_second (attaches over) is_served does))
          (λ not. spared_room ∙ room_same (room_for over queues.room) was_served is_served (uses-unmade sent.target _ _ uses not))

-- the same on the processes of the thread's user, as they are lent for its call
module _ (users : Users) (thread : Thread) (rows : List (Option Process)) (there : row_at users thread.proc.user.0 ≡ Some rows) (queues : Shared) (sent : Sent) (after : List (Option Process)) (left : Shared)
    (changed : after ≡ with_row rows thread.proc.num (with_queued thread.tid sent))
    (uses : UsesAt sent.target (row_at rows thread.proc.num) (row_at after thread.proc.num))
    (put : left ≡ with_sent thread sent (row_at after thread.proc.num) queues)
    (kept : StandTogether users queues) where
  pub places-called : length left.pipes ≡ length queues.pipes
  places-called = rw (left-called users thread rows there queues sent after left changed uses put) (places-sent users queues thread sent kept)

  pub shown-called : (mounts : List (List MountPoint)) (events : List Events) → shown (slice_set users thread.proc.user.0 (Some after)) left mounts events ≡ after_send (shown users queues mounts events) thread sent
  shown-called mounts events =
      rw (users-called users thread rows there queues sent after left changed uses put, left-called users thread rows there queues sent after left changed uses put)
      (shown-sent users queues thread sent kept (uses-called users thread rows there queues sent after left changed uses put) mounts events)

-- a message that is answered, or is left without a reply, touches nothing else of what is shared than lines and disconnect nodes
module _ {A : Type 0} (read : Shared → A) (lost_same : (c : Shared) (proc : Proc) (server : ServerName) (prio : ℕ) → read (with_shared_disconnect c proc server prio) ≡ read c)
    (line_same : (c : Shared) (number : ℕ) (change : List Queued → List Queued) → read (with_shared_line c number change) ≡ read c) where
  replied-fields : (prio : ℕ) (queues : Shared) (before after : Process) (thread : Thread) (call : Call) → read (without_pulse prio queues before after thread call) ≡ read queues
  replied-fields prio queues before after thread call =
      let number = manager_number call.target.manager in
      let change = line_without thread.proc.user.0 (item.Unblock thread.proc.num thread.tid call.number) in
      lost-fields prio thread.proc read (λ c server. lost_same c thread.proc server prio) (lost_servers before after) (with_shared_line queues number change) ∙ line_same queues number change

  pub answered-fields : (prio : ℕ) (queues : Shared) (before after : Process) (thread : Thread) (call : Call) (given : Result Done Errno) → read (answered_queues prio queues before after thread call given) ≡ read queues
  answered-fields prio queues before after thread call (Ok NoReply) = refl
  answered-fields prio queues before after thread call (Ok (Reply status effect)) = replied-fields prio queues before after thread call
  answered-fields prio queues before after thread call (Err error) = replied-fields prio queues before after thread call

-- what a function does to a user's resources touches nothing else of what is shared than the user's pipes and the answers to calls in them
pub did-fields : {A : Type 0} (read : Shared → A) → ((c : Shared) (user : ℕ) (pipes : Pipes) (answers : List (WaitingCall × Answer)) → read (with_pipes c user pipes answers) ≡ read c)
    → (lives : ℕ → Bool) (k l : Kept) (w v : Tables) (bytes : List ℕ) (given : Result Done Errno) (r : Result (Deed Resources) Errno) → Comes lives k w l v bytes given r → read v.shared ≡ read w.shared
did-fields read same lives k l w v bytes (Ok done) (Ok deed) did = ap read did.1.shared ∙ same w.shared k.user deed.state.pipes deed.answers
did-fields read same lives k l w v bytes (Err error) (Err refused) did = ap (λ (w : Tables). read w.shared) did.2
did-fields read same lives k l w v bytes (Ok done) (Err refused) did = absurd did
did-fields read same lives k l w v bytes (Err error) (Ok deed) did = absurd did

-- nor did an unblock pulse
pub room-cancelled : (queues : Shared) (user : ℕ) (r : Result (Deed Resources) Outcome) → (shared_after queues user r).room ≡ queues.room
room-cancelled queues user (Ok deed) = refl
room-cancelled queues user (Err outcome) = refl
