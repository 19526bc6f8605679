-- Systems of one shape, over the rows of one user and five functions of these, whatever they are: the rows of all users, the lines and
-- the workers, what each step does to them, and runs.
use Rattle.std.specs.Prelude.{◌≡◌, ℕ, ◌≤◌, ◌+◌, ◌==◌, ◌&&◌, Bool, true, false, AllPairs, List, [], ◌∷◌, ◌++◌, Option, Some, None, Result, Ok, Err, drop, is_none, nat_le, if◌then◌else◌, slice_get, slice_set, filter, map, replicate}
use Rattle.qx_types.specs.Configuration.{Configuration}
use Rattle.qx_types.specs.Managers.{manager_count, manager_number}
use Rattle.qx_types.specs.Step.{actor_of, user_of}
use Rattle.qx_types.specs.declared.names.Actor.{Actor}
use Rattle.qx_types.specs.declared.names.Item.{Item}
use Rattle.qx_types.specs.declared.names.Item.TheVariants as public
use Rattle.qx_types.specs.declared.names.Manager.{Manager}
use Rattle.qx_types.specs.declared.names.Thread.{Thread}
use Rattle.qx_types.specs.declared.outcome.Outcome.{Outcome}
use Rattle.qx_types.specs.declared.outcome.Outcome.TheVariants.{Refused, WrongState, Took, Idle, Busy, Handled, Nothing}
use Rattle.qx_types.specs.declared.step.Step.{Step}
use Rattle.qx_types.specs.declared.step.Step.TheVariants.{Receive, Perform}
use Rattle.qx_isolation.specs.declared.rows.Entry.{Entry}
use Rattle.qx_isolation.specs.declared.rows.Held.{Held}
use Rattle.qx_isolation.specs.declared.rows.OwnItem.{OwnItem}
use Rattle.qx_isolation.specs.declared.rows.OwnItem.TheVariants.{Message, Unblock, Disconnect}
use Rattle.qx_isolation.specs.declared.rows.Queued.{Queued}
use Rattle.qx_isolation.specs.declared.rows.Seen.{Seen}
use Rattle.qx_isolation.specs.Judgements.{◌>>=◌, found, need}
use Rattle.qx_isolation.specs.Lines.{into, line_at, with_line}
use Rattle.qx_isolation.specs.Rows.{row_at}

-- what a step changes in a manager's line: an item of the user is put there, or one is removed where it stands
pub data Change : Type 0 where
  Put : (manager : Manager) (item : OwnItem) (prio : ℕ) → Change
  Remove : (manager : Manager) (item : OwnItem) → Change

-- what a client's step gives
pub record ClientStep (Part : Type 0) : Type 0 where
  pub outcome : Outcome
  pub part : Part
  pub changes : List Change

-- what the performing of an item gives
pub record Served (Part : Type 0) : Type 0 where
  pub part : Part
  pub changes : List Change

-- the rows of one user at boot, and what becomes of them; none of these is given anything of another user
pub record Behaviour (Part : Type 0) : Type 0 where
  pub boot : Configuration → ℕ → Part
  -- a client's step, from its user's rows and the items of that user in workers' hands
  pub client : Configuration → ℕ → List OwnItem → Part → Step → ClientStep Part
  -- an item of the user goes from a line into a worker's hand
  pub take : Part → OwnItem → Part
  -- what a worker does with an item that it holds, at a moment
  pub serve : Configuration → ℕ → List OwnItem → Part → OwnItem → ℕ → Served Part
  -- what the end of each step of the user settles, from the rows before it
  pub settle : Part → List OwnItem → Part → Part

abbrev pub is_same_item : OwnItem → OwnItem → Bool
is_same_item (Message process thread) (Message other_process other_thread) = (process == other_process) && (thread == other_thread)
is_same_item (Unblock process thread call) (Unblock other_process other_thread other_call) =
    (process == other_process) && (thread == other_thread) && (call == other_call)
is_same_item (Disconnect process server) (Disconnect other_process other) =
    (process == other_process) && (manager_number server.manager == manager_number other.manager) && (server.number == other.number)
is_same_item _ _ = false

-- the place of an item in a line's order
abbrev pub rank : Queued → ℕ
rank queued = queued.prio.0

abbrev pub queued_item : ℕ → OwnItem → ℕ → Queued
queued_item user item prio = record { user = record { 0 = user }; item = item; prio = record { 0 = prio } }

-- the line without a user's item, where that stands in it
abbrev pub line_without : ℕ → OwnItem → List Queued → List Queued
line_without user item [] = []
line_without user item (first ∷ line) =
    if (first.user.0 == user) && is_same_item first.item item then line else first ∷ line_without user item line

-- whose line a change is of
abbrev pub changed_manager : Change → Manager
changed_manager (Put manager item prio) = manager
changed_manager (Remove manager item) = manager

-- that line after the change, which a user's step makes
abbrev pub line_after : ℕ → Change → List Queued → List Queued
line_after user (Put manager item prio) line = into rank line (queued_item user item prio)
line_after user (Remove manager item) line = line_without user item line

abbrev pub lines_after : ℕ → List (List Queued) → List Change → List (List Queued)
lines_after user lines [] = lines
lines_after user lines (change ∷ changes) =
    lines_after user (with_line lines (manager_number (changed_manager change)) (line_after user change)) changes

-- the items of one user in workers' hands
abbrev pub own_held : ℕ → List (Option Held) → List OwnItem
own_held user [] = []
own_held user (None ∷ hands) = own_held user hands
own_held user (Some held ∷ hands) = if held.user.0 == user then held.item ∷ own_held user hands else own_held user hands

abbrev pub is_worker : Configuration → ℕ → Bool
is_worker config worker = nat_le 1 worker && nat_le worker config.workers

abbrev pub named_thread : ℕ → ℕ → ℕ → Thread
named_thread user process thread = record { proc = record { user = record { 0 = user }; num = process }; tid = thread }

-- the item as it is shown; of an unblock pulse, the thread, and of a disconnect pulse, the process
abbrev pub shown_item : ℕ → OwnItem → Item
shown_item user (Message process thread) = public.Message (named_thread user process thread)
shown_item user (Unblock process thread call) = public.Unblock (named_thread user process thread)
shown_item user (Disconnect process server) = public.Disconnect (record { user = record { 0 = user }; num = process })

abbrev pub user_of_item : Result Held Outcome → Option ℕ
user_of_item (Ok held) = Some held.user.0
user_of_item (Err outcome) = None

abbrev pub own_line : ℕ → List Queued → List Queued
own_line user line = filter (λ item. item.user.0 == user) line

abbrev pub own_hand : ℕ → Option Held → Option Held
own_hand user None = None
own_hand user (Some held) = if held.user.0 == user then Some held else None

-- the rows of all users, the lines under their managers' numbers and what each worker holds; users and workers are numbered from 1
pub record World {Part : Type 0} (b : Behaviour Part) : Type 0 where
  pub config : Configuration
  pub parts : List (Option Part)
  pub lines : List (List Queued)
  pub hands : List (Option Held)

-- what a step gives
pub record After {Part : Type 0} (b : Behaviour Part) : Type 0 where
  pub world : World b
  pub outcome : Outcome

-- the rows of the users from this one on
abbrev pub boot_parts : {Part : Type 0} (b : Behaviour Part) → Configuration → ℕ → List (List ℕ) → List (Option Part)
boot_parts b config user [] = []
boot_parts b config user (name ∷ names) = Some (b.boot config user) ∷ boot_parts b config (user + 1) names

-- each user's rows at boot, empty lines and empty hands
unfoldable pub boot : {Part : Type 0} (b : Behaviour Part) → Configuration → World b
boot b config = record {
  config = config;
  parts = None ∷ boot_parts b config 1 config.users;
  lines = replicate manager_count [];
  hands = None ∷ replicate config.workers None;
}

module _ {Part : Type 0} {b : Behaviour Part} where
  -- the end of a step of one user: its rows, settled, and its changes of the lines
  abbrev pub step_end : ℕ → Part → Part → List Change → World b → World b
  step_end user before after changes w = record w {
    parts = slice_set w.parts user (Some (b.settle before (own_held user w.hands) after));
    lines = lines_after user w.lines changes;
  }

  abbrev pub same_world : World b → Outcome → After b
  same_world w outcome = record { world = w; outcome = outcome }

  abbrev pub client_end : World b → ℕ → Part → ClientStep Part → After b
  client_end w user part given = record { world = step_end user part given.part given.changes w; outcome = given.outcome }

  -- a client's step; a user that is not configured has no rows
  abbrev pub client_step : World b → ℕ → Step → Option Part → After b
  client_step w user e None = same_world w WrongState
  client_step w user e (Some part) = client_end w user part (b.client w.config user (own_held user w.hands) part e)

  abbrev pub line_of : World b → Manager → List Queued
  line_of w manager = line_at w.lines (manager_number manager)

  -- the world without the first item of a manager's line, and with an item in a worker's hand
  abbrev pub with_taken : World b → ℕ → Manager → Held → World b
  with_taken w worker manager taken = record w {
    lines = with_line w.lines (manager_number manager) (drop 1);
    hands = slice_set w.hands worker (Some taken);
  }

  -- the item that a worker takes, the first of the line, or the outcome where it takes none
  abbrev pub item_to_take : World b → ℕ → Manager → Result Held Outcome
  item_to_take w worker manager = do
    valid ← need (is_worker w.config worker) WrongState
    free ← need (is_none (row_at w.hands worker)) Busy
    first ← found (slice_get (line_of w manager) 0) Idle
    Ok (record { user = first.user; item = first.item })

  -- the item that a worker does, which it holds, or the outcome where it does none
  abbrev pub item_to_do : World b → ℕ → Result Held Outcome
  item_to_do w worker = do
    valid ← need (is_worker w.config worker) WrongState
    found (row_at w.hands worker) Nothing

  -- an item is taken for its user; one that is not configured has no rows
  abbrev pub received_part : World b → Held → Option Part → World b
  received_part w taken None = w
  received_part w taken (Some part) = step_end taken.user.0 part (b.take part taken.item) [] w

  -- a worker takes the first item of a line (C Library Reference: MsgReceive)
  abbrev pub receive : World b → ℕ → Manager → Result (After b) Outcome
  receive w worker manager = do
    taken ← item_to_take w worker manager
    Ok (record {
      world = received_part (with_taken w worker manager taken) taken (row_at w.parts taken.user.0);
      outcome = Took (shown_item taken.user.0 taken.item);
    })

  abbrev pub with_empty_hand : World b → ℕ → World b
  with_empty_hand w worker = record w { hands = slice_set w.hands worker None }

  abbrev pub serve_end : World b → ℕ → Part → Served Part → World b
  serve_end w user part given = step_end user part given.part given.changes w

  -- an item is done for its user
  abbrev pub performed_part : World b → Held → ℕ → Option Part → World b
  performed_part w held moment None = w
  performed_part w held moment (Some part) =
      serve_end w held.user.0 part (b.serve w.config held.user.0 (own_held held.user.0 w.hands) part held.item moment)

  -- a worker does what it holds
  abbrev pub perform : World b → ℕ → ℕ → Result (After b) Outcome
  perform w worker moment = do
    held ← item_to_do w worker
    Ok (record { world = performed_part (with_empty_hand w worker) held moment (row_at w.parts held.user.0); outcome = Handled })

  -- what a worker's step gives, or the outcome of one that changes nothing
  abbrev pub server_given : World b → Step → Result (After b) Outcome
  server_given w (Receive worker manager) = receive w worker.0 manager
  server_given w (Perform worker moment) = perform w worker.0 moment
  server_given w _ = Err WrongState

  -- a step that is refused leaves the world as it was
  abbrev pub or_same_world : World b → Result (After b) Outcome → After b
  or_same_world w (Ok after) = after
  or_same_world w (Err outcome) = same_world w outcome

  -- a worker's step
  abbrev pub server_step : World b → Step → After b
  server_step w e = or_same_world w (server_given w e)

  abbrev pub step_of : World b → Step → Option Actor → After b
  step_of w e (Some actor) = client_step w (user_of actor) e (row_at w.parts (user_of actor))
  step_of w e None = server_step w e

  -- one step of the system
  unfoldable pub step : World b → Step → After b
  step w e = step_of w e (actor_of e)

  -- the item that a worker's step takes or does
  abbrev pub server_item : World b → Step → Result Held Outcome
  server_item w (Receive worker manager) = item_to_take w worker.0 manager
  server_item w (Perform worker moment) = item_to_do w worker.0
  server_item w _ = Err WrongState

  abbrev pub server_owner : World b → Step → Option ℕ
  server_owner w e = user_of_item (server_item w e)

  abbrev pub owner_of : World b → Step → Option Actor → Option ℕ
  owner_of w e (Some actor) = Some (user_of actor)
  owner_of w e None = server_owner w e

  -- the user by or for whom a step is taken: the client's; that of the item that a worker takes or does; else nobody
  unfoldable pub owner : World b → Step → Option ℕ
  owner w e = owner_of w e (actor_of e)

  -- what is one user's: the rows, the items in the lines and in workers' hands; all other users are as at boot
  unfoldable pub view : ℕ → World b → World b
  view user w = record w {
    parts = slice_set (boot b w.config).parts user (row_at w.parts user);
    lines = map (own_line user) w.lines;
    hands = map (own_hand user) w.hands;
  }

-- the last world of the steps, and each step with its outcome
pub record Run {Part : Type 0} (b : Behaviour Part) : Type 0 where
  pub world : World b
  pub entries : List Entry

module _ {Part : Type 0} {b : Behaviour Part} where
  abbrev pub world_after : World b → List Step → World b
  world_after w [] = w
  world_after w (e ∷ steps) = world_after (step w e).world steps

  abbrev pub entries_from : World b → List Step → List Entry
  entries_from w [] = []
  entries_from w (e ∷ steps) = record { step = e; outcome = (step w e).outcome } ∷ entries_from (step w e).world steps

-- the steps from boot
abbrev pub run : {Part : Type 0} (b : Behaviour Part) → Configuration → List Step → Run b
run b config steps = record { world = world_after (boot b config) steps; entries = entries_from (boot b config) steps }

abbrev pub seen_by : ℕ → Outcome → Option Actor → List Seen
seen_by user outcome None = []
seen_by user outcome (Some actor) = if user_of actor == user then record { actor = actor; outcome = outcome } ∷ [] else []

-- what a user's processes received: actor and outcome of each client step of the user, in order
abbrev pub received : ℕ → List Entry → List Seen
received user [] = []
received user (entry ∷ entries) = seen_by user entry.outcome (actor_of entry.step) ++ received user entries

abbrev pub is_owner : ℕ → Option ℕ → Bool
is_owner user None = false
is_owner user (Some owner) = owner == user

module _ {Part : Type 0} {b : Behaviour Part} where
  abbrev pub erase_from : ℕ → World b → List Step → List Step
  erase_from user w [] = []
  erase_from user w (e ∷ steps) =
      if is_owner user (owner w e) then e ∷ erase_from user (step w e).world steps else erase_from user (step w e).world steps

-- the steps without those that are not taken by or for the user, as the whole run tells
abbrev pub erase : {Part : Type 0} (b : Behaviour Part) → ℕ → Configuration → List Step → List Step
erase b user config steps = erase_from user (boot b config) steps

-- ---- words of the laws

-- no item has a higher priority than one before it
abbrev pub IsInOrder : {A : Type 0} → (A → ℕ) → List A → Type 0
IsInOrder rank line = AllPairs (λ earlier later. rank later ≤ rank earlier) line

-- the steps from a world that are taken by or for a user, servers' steps too, each with the outcome that it has among all steps
abbrev pub own_entries : {Part : Type 0} {b : Behaviour Part} → ℕ → World b → List Step → List Entry
own_entries user w [] = []
own_entries user w (e ∷ steps) =
    if is_owner user (owner w e)
    then record { step = e; outcome = (step w e).outcome } ∷ own_entries user (step w e).world steps
    else own_entries user (step w e).world steps

-- this holds in each world that a run reaches, of each step that is taken by or for the user there
abbrev pub HoldsOfOwnSteps : {Part : Type 0} (b : Behaviour Part) → (ℕ → World b → Step → Type 0) → Type 0
HoldsOfOwnSteps b Holds = (config : Configuration) (steps : List Step) (user : ℕ) (e : Step) → is_owner user (owner (run b config steps).world e) ≡ true → Holds user (run b config steps).world e

-- a step was refused at once
abbrev pub is_refusal : Outcome → Bool
is_refusal (Refused error) = true
is_refusal WrongState = true
is_refusal Idle = true
is_refusal Busy = true
is_refusal Nothing = true
is_refusal _ = false
