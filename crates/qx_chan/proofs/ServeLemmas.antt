-- What a deed to a user's resources makes of what all users share: rows, lines and nodes stand together, but that answers are on their way; and
-- of the channel, once those are given.
use Rattle.std.proofs.Common.{◌≡◌, ◌⊎◌, subst, inl, inr, ℕ, zero, suc, ◌∷◌, ◌++◌, [], Bool, false, true, List, Option, Some, None, length, map, get_or, slice_set, refl, sym, ◌∙◌, ap}
use Rattle.qx_types.specs.declared.outcome.Answer.{Answer}
use Rattle.std.specs.List.{AllByRecursion}
use Rattle.std.specs.Prelude.{option_map}
use Rattle.std.proofs.lemmas.List.{append-nil, length-set, set-get_or}
use Rattle.std.proofs.lemmas.Option.{same_Some}
use Rattle.qx_types.specs.Managers.{manager_number}
use Rattle.qx_paths.specs.Prefixes.{MountPoint}
use Rattle.qx_machine.specs.declared.rows.WaitingCall.{WaitingCall}
use Rattle.qx_machine.specs.Events.{Events, no_events}
use Rattle.qx_machine.specs.Functions.{Deed}
use Rattle.qx_isolation.specs.Lines.{line_at}
use Rattle.qx_machine.specs.Machine.{lines_after}
use Rattle.qx_machine.specs.Notification.{events_settled}
use Rattle.qx_machine.specs.Parts.{Part}
use Rattle.qx_machine.specs.Performing.{Served}
use Rattle.qx_machine.specs.Pipes.{Pipe}
use Rattle.qx_machine.specs.Processes.{Process}
use Rattle.qx_machine.specs.Resources.{Resources}
use Rattle.qx_isolation.specs.Rows.{row_at, with_row}
use Rattle.qx_machine.specs.Settling.{is_living}
use Rattle.qx_machine.specs.Waiting.{Pipes, no_pipes}
use Rattle.qx_machine.proofs.NotifyLemmas.{settled-unchanged}
use Rattle.qx_machine.proofs.Waiters.{InDeed, InPipe, InPipes, Stays}
use Rattle.qx_notify.specs.Events.{events_of}
use Rattle.qx_queues.specs.Queues.{caller, stands, unblock_call}
use Rattle.qx_queues.specs.Waits.{users_call}
use Rattle.qx_shared.specs.Shared.{Shared, calls_at, has_disconnect_node, has_thread, nothing_shared, pipes_of, users_given, waiting_calls, waiting_in, with_pipes}
use Rattle.qx_resources.specs.State as state
use Rattle.qx_resources.specs.State.{told}
use Rattle.qx_resources.specs.declared.tables.Tables.{Tables as AllTables}
use Rattle.qx_chan.specs.inner.Answers.{given_lines, given_users}
use Rattle.qx_chan.specs.Channel.{Channel, lists}
use Rattle.qx_chan.specs.inner.Kept.{Answering, IsAwaited, IsWaiting, StandTogether, may_wait}
use Rattle.qx_chan.specs.Serving.{PartServed, Serves, part_in, settled}
use Rattle.qx_chan.specs.inner.Serving.{Leaves}
use Rattle.qx_chan.specs.Users.{Users, process_of}
use Rattle.qx_chan.proofs.RowReads.{with_row-fixed}

-- a place of which another was written
place-cases : {A : Type 0} (xs : List A) (i j : ℕ) (x none : A) → ((j ≡ i) × (get_or (slice_set xs i x) j none ≡ x)) ⊎ (get_or (slice_set xs i x) j none ≡ get_or xs j none)
place-cases [] i j x none = inr refl
place-cases (y ∷ ys) zero zero x none = inl (refl, refl)
place-cases (y ∷ ys) zero (suc j) x none = inr refl
place-cases (y ∷ ys) (suc i) zero x none = inr refl
place-cases (y ∷ ys) (suc i) (suc j) x none = elim (place-cases ys i j x none) [
  | inl here ↦ inl (ap suc here.0, here.1)
  | inr there ↦ inr there
]

module _ {A : Type 0} (P : A → Type 0) where
  both-append : (xs ys : List A) → AllByRecursion P xs → AllByRecursion P ys → AllByRecursion P (xs ++ ys)
  both-append [] ys all others = others
  both-append (x ∷ xs) ys all others = (all.0, both-append xs ys all.1 others)

  append-both : (xs ys : List A) → AllByRecursion P (xs ++ ys) → AllByRecursion P xs × AllByRecursion P ys
  append-both [] ys all = (tt, all)
  append-both (x ∷ xs) ys all = let rest = append-both xs ys all.1 in ((all.0, rest.0), rest.1)

  each-mapped : {B : Type 0} (f : B → A) (xs : List B) → AllByRecursion (λ x. P (f x)) xs → AllByRecursion P (map f xs)
  each-mapped f [] all = tt
  each-mapped f (x ∷ xs) all = (all.0, each-mapped f xs all.1)

  mapped-each : {B : Type 0} (f : B → A) (xs : List B) → AllByRecursion P (map f xs) → AllByRecursion (λ x. P (f x)) xs
  mapped-each f [] all = tt
  mapped-each f (x ∷ xs) all = (all.0, mapped-each f xs all.1)

-- who waits in pipes, pipe by pipe and as one list
module _ (P : WaitingCall → Type 0) where
  in-pipes : (pipes : Pipes) → AllByRecursion P (waiting_calls pipes) → (inode : ℕ) (pipe : Pipe WaitingCall) → row_at pipes inode ≡ Some pipe → InPipe P pipe
  in-pipes [] all inode pipe is = let clash : None ≡ Some pipe = is in absurd (cc)
  in-pipes (None ∷ pipes) all zero pipe is = absurd (cc)
  in-pipes (Some first ∷ pipes) all zero pipe is =
      let own = append-both P first.readers first.writers (append-both P (first.readers ++ first.writers) (waiting_calls pipes) all).0 in
      subst (InPipe P) (same_Some first pipe is) (record { readers = own.0; writers = own.1 })
  in-pipes (first ∷ pipes) all (suc inode) pipe is = in-pipes pipes (append-both P (calls_at first) (waiting_calls pipes) all).1 inode pipe is

  from-pipes : (pipes : Pipes) → ((inode : ℕ) (pipe : Pipe WaitingCall) → row_at pipes inode ≡ Some pipe → InPipe P pipe) → AllByRecursion P (waiting_calls pipes)
  from-pipes [] each = tt
  from-pipes (None ∷ pipes) each = from-pipes pipes (λ inode. each (suc inode))
  from-pipes (Some first ∷ pipes) each =
      let own = each 0 first refl in
      both-append P (first.readers ++ first.writers) (waiting_calls pipes) (both-append P first.readers first.writers own.readers own.writers) (from-pipes pipes (λ inode. each (suc inode)))

module _ (users : Users) (user : ℕ) where
  -- the row of a user's call tells that it waits
  abbrev pub Waits : WaitingCall → Type 0
  Waits call = IsWaiting users (users_call user call)

  -- whoever is answered waits for it
  awaited : (answers : List (WaitingCall × Answer)) → AllByRecursion (λ answer. Stays Waits answer.0) answers → AllByRecursion (λ answer. IsAwaited users (users_given user answer)) answers
  awaited [] all = tt
  awaited (first ∷ rest) all =
      let own : may_wait false first.0.thread first.0.call (process_of users (caller (users_call user first.0)).proc) ≡ true =
      ap (λ gone. may_wait gone first.0.thread first.0.call (process_of users (caller (users_call user first.0)).proc)) (sym all.0.1) ∙ all.0.0 in
      (own, awaited rest all.1)

  -- who waits there, before
  pub waits-before : (c : Shared) → ((user : ℕ) → AllByRecursion (IsWaiting users) (waiting_in c user)) → InPipes Waits (pipes_of c user)
  waits-before c wait = record { each = in-pipes Waits (pipes_of c user) (mapped-each (IsWaiting users) (users_call user) (waiting_calls (pipes_of c user)) (wait user)) }

  -- once a deed was done to the user's resources
  module _ (c d : Shared) (deed : Deed Resources) (kept : StandTogether users c) (shared : d ≡ with_pipes c user deed.state.pipes deed.answers) (keeps : InDeed Waits deed) where
    waits-after : (other : ℕ) → AllByRecursion (IsWaiting users) (waiting_in d other)
    waits-after other = subst (λ all. AllByRecursion (IsWaiting users) (waiting_in all other)) (sym shared) (elim (place-cases c.pipes user other deed.state.pipes no_pipes) [
      | inl here ↦ rw (here.1, here.0) (each-mapped (IsWaiting users) (users_call user) (waiting_calls deed.state.pipes) (from-pipes Waits deed.state.pipes keeps.pipes.each))
      | inr there ↦ rw there (kept.waits other)
    ])

    pub Answering-left : Answering users d
    Answering-left = record {
      kept = record {
        users = ap (λ q. length q.pipes) shared ∙ length-set c.pipes user deed.state.pipes ∙ kept.users;
        managers = ap (λ q. length q.lines) shared ∙ kept.managers;
        threads = λ thread. ap (λ q. has_thread q thread) shared ∙ kept.threads thread;
        lines = λ thread number. ap (λ q. stands (line_at q.lines number) thread) shared ∙ kept.lines thread number;
        pulses = λ thread number call is. kept.pulses thread number call (ap (λ q. unblock_call (line_at q.lines number) thread) (sym shared) ∙ is);
        servers = λ proc manager. ap (λ q. has_disconnect_node q proc (manager_number manager)) shared ∙ kept.servers proc manager;
        waits = waits-after;
        answered = refl;
      };
      answered = subst (AllByRecursion (IsAwaited users)) (sym (ap (λ q. q.answered) shared ∙ ap (λ before. before ++ map (users_given user) deed.answers) kept.answered)) (each-mapped (IsAwaited users) (users_given user) deed.answers (awaited deed.answers keeps.answers));
    }

-- ---- the channel

-- that of these
abbrev pub shown : Users → Shared → List (List MountPoint) → List Events → Channel
shown users queues mounts events = record { users = users; lines = queues.lines; pipes = queues.pipes; events = events; mounts = mounts; room = queues.room }

-- once answers that are on their way are given
abbrev pub given_all : Users → Shared → List (List MountPoint) → List Events → Channel
given_all users queues mounts events = record { users = given_users users queues.answered; lines = given_lines users queues.lines queues.answered; pipes = queues.pipes; events = events; mounts = mounts; room = queues.room }

-- nothing was done, and nobody is answered
abbrev pub nothing_done : Resources → Deed Resources
nothing_done resources = record { reply = None; state = resources; answers = [] }

-- what a user's pipes and events are is what they are set to
same_pipes : (c : Shared) (user : ℕ) → c.pipes ≡ slice_set c.pipes user (pipes_of c user)
same_pipes c user = sym (set-get_or c.pipes user no_pipes)

same_events : (w : AllTables) (user : ℕ) → w.events.events ≡ slice_set w.events.events user (events_of w.events user)
same_events w user = sym (set-get_or w.events.events user no_events)

pub left-same : (lives : ℕ → Bool) (k : state.Kept) (w : AllTables) → Leaves lives k w k w (nothing_done (told k w))
left-same lives k w = record {
  told_is = ap (λ (e : Events). record (told k w) { events = e }) (sym none_due);
  shared = λ i. record w.shared { pipes = same_pipes w.shared k.user i; answered = sym (append-nil w.shared.answered) i };
  events = same_events w k.user ∙ ap (slice_set w.events.events k.user) (sym none_due);
  mounts = refl;
  user = refl;
}
  where
    none_due : events_settled lives (told k w) (told k w) ≡ events_of w.events k.user
    none_due = settled-unchanged lives (told k w) (told k w) refl refl

-- no event is due where nothing is done
settled-nothing : (part : Part) (given : Served) → given ≡ record { part = part; changes = [] } → settled part given ≡ record { part = part; changes = [] }
settled-nothing part given is =
    ap (settled part) is ∙ ap (λ (e : Events). record { part = record part { resources = record part.resources { events = e } }; changes = [] }) (settled-unchanged (is_living part.processes) part.resources part.resources refl refl)

module _ (users : Users) (w : AllTables) (k : state.Kept) (served : Part → Served) where
  abbrev part_of : List (Option Process) → Part
  part_of processes = record { processes = processes; resources = told k w }

  abbrev done : Part → Served
  done part = settled part (served part)

  abbrev before : Channel
  before = shown users w.shared w.mounts w.events.events

  module _ (c : Channel) (l : state.Kept) where
    abbrev DidAll : Served → Type 0
    DidAll s =
        (c ≡ record {
          users = with_row users k.user (λ _. s.part.processes);
          lines = lines_after k.user w.shared.lines s.changes;
          pipes = slice_set w.shared.pipes k.user s.part.resources.pipes;
          events = slice_set w.events.events k.user s.part.resources.events;
          mounts = w.mounts;
          room = c.room;
        })
        × (told l (lists c) ≡ s.part.resources)

    part-served : (processes : List (Option Process)) → row_at users k.user ≡ Some processes → DidAll (done (part_of processes)) → PartServed before c k l done (part_in before k)
    part-served processes there did = subst (λ row. PartServed before c k l done (option_map part_of row)) (sym there) did

  -- where nothing happens to the user's part, nothing does
  pub Serves-nothing : ((processes : List (Option Process)) → row_at users k.user ≡ Some processes → served (record { processes = processes; resources = told k w }) ≡ record { part = record { processes = processes; resources = told k w }; changes = [] })
      → Serves (shown users w.shared w.mounts w.events.events) (shown users w.shared w.mounts w.events.events) k k (λ part. settled part (served part))
  Serves-nothing same = record { did = by_row (row_at users k.user) refl; user = refl }
    where
      by_row : (row : Option (List (Option Process))) → row_at users k.user ≡ row → PartServed before before k k done (option_map part_of row)
      by_row None none = (refl, refl)
      by_row (Some processes) there =
          let users_are : users ≡ with_row users k.user (λ _. processes) = sym (with_row-fixed users k.user (λ _. processes) processes there refl) in
          subst (DidAll before k) (sym (settled-nothing (part_of processes) (served (part_of processes)) (same processes there)))
          (λ i. record { users = users_are i; lines = w.shared.lines; pipes = same_pipes w.shared k.user i; events = same_events w k.user i; mounts = w.mounts; room = w.shared.room }, refl)

  -- once a deed is done, and the answers are given
  module _ (kept : StandTogether users w.shared) (l : state.Kept) (v : AllTables) (deed : Deed Resources) (user : ℕ) (of : k.user ≡ user) (processes : List (Option Process)) (there : row_at users user ≡ Some processes) (left : Leaves (is_living processes) k w l v deed) where
    answered_are : v.shared.answered ≡ map (users_given user) deed.answers
    answered_are = ap (λ q. q.answered) left.shared ∙ ap (λ before. before ++ map (users_given k.user) deed.answers) kept.answered ∙ ap (λ user. map (users_given user) deed.answers) of

    pub Serves-given : (s : Served) → served (record { processes = processes; resources = told k w }) ≡ s → s.part.resources ≡ deed.state → is_living s.part.processes ≡ is_living processes → (rows : Users) (after : Shared) → after.answered ≡ v.shared.answered → after.pipes ≡ v.shared.pipes
        → given_users rows (map (users_given user) deed.answers) ≡ with_row users user (λ _. s.part.processes)
        → given_lines rows after.lines (map (users_given user) deed.answers) ≡ lines_after user w.shared.lines s.changes
        → Serves (shown users w.shared w.mounts w.events.events) (given_all rows after v.mounts v.events.events) k l (λ part. settled part (served part))
    Serves-given s is resources_are lives_are rows after answered pipes rows_are lines_are = record {
      did = part-served now l processes (ap (row_at users) of ∙ there) (subst (DidAll now l) (ap (settled (part_of processes)) (sym is)) (λ i. record { users = users_here i; lines = lines_here i; pipes = pipes_here i; events = events_here i; mounts = left.mounts i; room = after.room }, resources_here));
      user = left.user;
    }
      where
        now : Channel
        now = given_all rows after v.mounts v.events.events

        users_here : given_users rows after.answered ≡ with_row users k.user (λ _. s.part.processes)
        users_here = ap (given_users rows) (answered ∙ answered_are) ∙ rows_are ∙ ap (λ user. with_row users user (λ _. s.part.processes)) (sym of)

        lines_here : given_lines rows after.lines after.answered ≡ lines_after k.user w.shared.lines s.changes
        lines_here = ap (given_lines rows after.lines) (answered ∙ answered_are) ∙ lines_are ∙ ap (λ user. lines_after user w.shared.lines s.changes) (sym of)

        pipes_here : after.pipes ≡ slice_set w.shared.pipes k.user s.part.resources.pipes
        pipes_here = pipes ∙ ap (λ q. q.pipes) left.shared ∙ ap (λ (r : Resources). slice_set w.shared.pipes k.user r.pipes) (sym resources_are)

        settled_here : events_settled (is_living processes) (told k w) deed.state ≡ events_settled (is_living s.part.processes) (told k w) s.part.resources
        settled_here = λ i. events_settled (sym lives_are i) (told k w) (sym resources_are i)

        events_here : v.events.events ≡ slice_set w.events.events k.user (events_settled (is_living s.part.processes) (told k w) s.part.resources)
        events_here = left.events ∙ ap (slice_set w.events.events k.user) settled_here

        resources_here : told l (lists (given_all rows after v.mounts v.events.events)) ≡ record s.part.resources { events = events_settled (is_living s.part.processes) (told k w) s.part.resources }
        resources_here = ap (λ pipes. told l (record { shared = record (nothing_shared 0) { pipes = pipes }; events = record { events = v.events.events; room = 0 }; mounts = v.mounts })) pipes
            ∙ left.told_is ∙ (λ i. record (sym resources_are i) { events = settled_here i })
