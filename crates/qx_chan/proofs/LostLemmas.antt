-- A process that has lost a server connection: its disconnect node goes into the line as the pulse, and rows, lines and nodes stand together
-- then.
use Rattle.std.proofs.Common.{◌≡◌, ◌≢◌, inl, inr, ℕ, ◌∷◌, [], ◌++◌, ◌&&◌, not, true, List, Option, Some, None, IsTrue, length, map, subst, refl, sym, ◌∙◌, ap, Bool, false}
use Rattle.std.specs.List.{AllByRecursion, list_any}
use Rattle.std.specs.Option.{option_to_list}
use Rattle.std.specs.List.{flat_map}
use Rattle.std.specs.Prelude.{IfSome, option_map, take, ◌||◌}
use Rattle.std.proofs.Math.Bool.{and-true}
use Rattle.std.proofs.lemmas.List.{length-set}
use Rattle.qx_types.proofs.Managers.{number_below}
use Rattle.qx_types.specs.Managers.{manager_count, manager_number, managers}
use Rattle.qx_types.specs.declared.names.Manager.{Manager}
use Rattle.qx_types.specs.declared.names.Proc.{Proc}
use Rattle.qx_types.specs.declared.names.Thread.{Thread}
use Rattle.qx_paths.specs.Prefixes.{MountPoint}
use Rattle.qx_isolation.specs.declared.rows.Queued.{Queued}
use Rattle.qx_isolation.specs.declared.rows.ServerName.{ServerName}
use Rattle.qx_isolation.specs.Lines.{into, line_at}
use Rattle.qx_machine.specs.Machine.{lines_after, rank}
use Rattle.qx_machine.specs.Parts.{disconnect, disconnects}
use Rattle.qx_machine.specs.Processes.{Process, lost_servers, servers_at}
use Rattle.qx_machine.specs.Servers.{in_use, lost_by}
use Rattle.qx_process.proofs.AttachLemmas.{same_lost}
use Rattle.qx_process.specs.Reads.{is_at}
use Rattle.qx_queues.specs.Queues.{disconnect_of, stands, unblock_call}
use Rattle.qx_shared.specs.Shared.{Shared, has_disconnect_node, has_thread, waiting_in, with_shared_disconnect}
use Rattle.qx_clients.specs.Calls.{LosesAt}
use Rattle.qx_chan.specs.Users.{Users, process_of, thread_row, with_process_of}
use Rattle.qx_chan.specs.inner.Kept.{HasServerNodes, HasServerNodesOf, IsWaiting, StandTogether, asked_call, nodes_for, stands_at, with_lost}
use Rattle.qx_chan.specs.Nodes.{served_at}
use Rattle.qx_queues.proofs.EntryLemmas.{line_at-other, line_at-same}
use Rattle.qx_queues.proofs.LineLemmas.{call-disconnected, stands-disconnected}
use Rattle.qx_queues.proofs.NodesLemmas.{same_proc}
use Rattle.qx_queues.proofs.SetLemmas.{has-removed, is_same_server-differs}
use Rattle.std.proofs.lemmas.Bool.{cases_eq}
use Rattle.qx_machine.specs.Events.{Events}
use Rattle.qx_chan.proofs.AttachedLemmas.{same_server-self}
use Rattle.qx_chan.proofs.ProcessLemmas.{process_of-same}
use Rattle.qx_chan.proofs.ServeLemmas.{shown}

-- ---- what is lost, as the machine tells it

first-listed : (lost : Option ServerName) → take 1 (option_to_list lost) ≡ option_to_list lost
first-listed None = refl
first-listed (Some server) = refl

pub lost-pulses : (prio number : ℕ) (change : Process → Process) (process : Option Process) (lost : Option ServerName) → LosesAt lost process (option_map change process) → disconnects prio number change process ≡ map (disconnect prio number) (option_to_list lost)
lost-pulses prio number change None lost none = rw none refl
lost-pulses prio number change (Some process) lost loses = ap (λ servers. map (disconnect prio number) (take 1 servers)) loses.lost_is ∙ ap (map (disconnect prio number)) (first-listed lost)

-- lists that are all empty
flat-none : {A B : Type 0} (each : A → List B) (xs : List A) → ((x : A) → each x ≡ []) → flat_map each xs ≡ []
flat-none each [] none = refl
flat-none each (x ∷ xs) none = (λ i. none x i ++ flat_map each xs) ∙ flat-none each xs none

-- a process that stays as it is loses nothing
pub none-lost : (process : Process) → lost_servers process process ≡ []
none-lost process =
    let used = λ (manager : Manager). in_use (servers_at manager process) in
    flat-none (λ manager. lost_by manager (used manager) (used manager)) managers (λ manager. same_lost manager (used manager))

-- what is lost was in use
pub lost-used : (lost : Option ServerName) (before after : Option Process) → LosesAt lost before after → IfSome lost (λ server. served_at server.manager before ≡ true)
lost-used lost (Some before) (Some after) loses = loses.was_used
lost-used None None None none = tt
lost-used (Some server) None None none = absurd (cc)
lost-used lost (Some before) None loses = absurd loses
lost-used lost None (Some after) loses = absurd loses

pub lost-served : (lost : Option ServerName) (before after : Option Process) → LosesAt lost before after → (manager : Manager) → served_at manager after ≡ (served_at manager before && not (is_at manager lost))
lost-served lost (Some before) (Some after) loses manager = loses.uses manager
lost-served lost None None none manager = refl
lost-served lost (Some before) None loses manager = absurd loses
lost-served lost None (Some after) loses manager = absurd loses

-- ---- what becomes of lines and nodes

and-either : (had here more : Bool) → ((had && not here) && not more) ≡ (had && not (here || more))
and-either true true more = refl
and-either true false more = refl
and-either false here more = refl

module _ (prio : ℕ) (proc : Proc) where
  pub lost-fields : {A : Type 0} (read : Shared → A) → ((c : Shared) (server : ServerName) → read (with_shared_disconnect c proc server prio) ≡ read c) → (lost : List ServerName) (c : Shared) → read (with_lost prio proc lost c) ≡ read c
  lost-fields read same [] c = refl
  lost-fields read same (server ∷ lost) c = lost-fields read same lost (with_shared_disconnect c proc server prio) ∙ same c server

  pub lost-lines : (lost : List ServerName) (c : Shared) → (with_lost prio proc lost c).lines ≡ lines_after proc.user.0 c.lines (map (disconnect prio proc.num) lost)
  lost-lines [] c = refl
  lost-lines (server ∷ lost) c = lost-lines lost (with_shared_disconnect c proc server prio)

  pub lost-node : (lost : Option ServerName) (c : Shared) (manager : Manager) → has_disconnect_node (with_lost prio proc (option_to_list lost) c) proc (manager_number manager) ≡ (has_disconnect_node c proc (manager_number manager) && not (is_at manager lost))
  lost-node None c manager = sym (and-true (has_disconnect_node c proc (manager_number manager)))
  lost-node (Some server) c manager = has-removed c.servers proc (manager_number server.manager) proc (manager_number manager) ∙ rw (same_server-self proc (manager_number server.manager) (manager_number manager)) refl

  -- what several are, and where
  abbrev pub is_at_server : Manager → ServerName → Bool
  is_at_server manager server = is_at manager (Some server)

  pub lost-nodes : (lost : List ServerName) (c : Shared) (manager : Manager) → has_disconnect_node (with_lost prio proc lost c) proc (manager_number manager) ≡ (has_disconnect_node c proc (manager_number manager) && not (list_any (is_at_server manager) lost))
  lost-nodes [] c manager = sym (and-true (has_disconnect_node c proc (manager_number manager)))
  lost-nodes (server ∷ lost) c manager =
      lost-nodes lost (with_shared_disconnect c proc server prio) manager
      ∙ ap (λ b. b && not (list_any (is_at_server manager) lost)) (lost-node (Some server) c manager)
      ∙ and-either (has_disconnect_node c proc (manager_number manager)) (is_at manager (Some server)) (list_any (is_at_server manager) lost)

  lost-node-other : (lost : List ServerName) (c : Shared) (other : Proc) (at : ℕ) → other ≢ proc → has_disconnect_node (with_lost prio proc lost c) other at ≡ has_disconnect_node c other at
  lost-node-other [] c other at differs = refl
  lost-node-other (server ∷ lost) c other at differs =
      lost-node-other lost (with_shared_disconnect c proc server prio) other at differs
      ∙ has-removed c.servers proc (manager_number server.manager) other at ∙ rw (is_same_server-differs proc other (manager_number server.manager) at (λ same. absurd (differs same))) (and-true (has_disconnect_node c other at))

-- rows, lines and nodes stand together, but for the disconnect nodes of one process
pub record StandBeside (processes : Users) (queues : Shared) (proc : Proc) : Type 0 where
  pub users : length queues.pipes ≡ length processes
  pub managers : length queues.lines ≡ manager_count
  pub threads : (thread : Thread) → has_thread queues thread ≡ nodes_for processes thread
  pub lines : (thread : Thread) (number : ℕ) → stands (line_at queues.lines number) thread ≡ stands_at number (thread_row processes thread)
  pub pulses : (thread : Thread) (number call : ℕ) → unblock_call (line_at queues.lines number) thread ≡ Some call → asked_call number call (thread_row processes thread) ≡ true
  pub others : (other : Proc) → other ≢ proc → HasServerNodes processes queues other
  pub waits : (list : ℕ) → AllByRecursion (IsWaiting processes) (waiting_in queues list)
  pub answered : queues.answered ≡ []

-- those of that process do too
pub Kept-beside : (users : Users) (queues : Shared) (proc : Proc) → StandBeside users queues proc → HasServerNodes users queues proc → StandTogether users queues
Kept-beside users queues proc beside own = record {
  users = beside.users;
  managers = beside.managers;
  threads = beside.threads;
  lines = beside.lines;
  pulses = beside.pulses;
  servers = λ other manager. elim (same_proc other proc) [
    | inr differs ↦ beside.others other differs manager
    | inl same ↦ rw same (own manager)
  ];
  waits = beside.waits;
  answered = beside.answered;
}

-- a disconnect pulse in a line is no thread's
module _ (users : Users) (queues : Shared) (prio : ℕ) (proc : Proc) (server : ServerName) (beside : StandBeside users queues proc) where
  abbrev number : ℕ
  number = manager_number server.manager

  told : {A : Type 0} (read : List Queued → A) (at : ℕ) → read (into rank (line_at queues.lines number) (disconnect_of proc server prio)) ≡ read (line_at queues.lines number)
      → read (line_at (with_shared_disconnect queues proc server prio).lines at) ≡ read (line_at queues.lines at)
  told read at same = elim (cases_eq at number) [
    | inl equal ↦ rw (equal, line_at-same queues.lines number (λ line. into rank line (disconnect_of proc server prio)) (rw beside.managers (number_below server.manager))) same
    | inr differs ↦ rw (line_at-other queues.lines number (λ line. into rank line (disconnect_of proc server prio)) at differs) refl
  ]

  beside-disconnected : StandBeside users (with_shared_disconnect queues proc server prio) proc
  beside-disconnected = record {
    users = beside.users;
    managers = length-set queues.lines number _ ∙ beside.managers;
    threads = beside.threads;
    lines = λ thread at. told (λ line. stands line thread) at (stands-disconnected rank (line_at queues.lines number) proc server prio thread) ∙ beside.lines thread at;
    pulses = λ thread at call is. beside.pulses thread at call (sym (told (λ line. unblock_call line thread) at (call-disconnected rank (line_at queues.lines number) proc server prio thread)) ∙ is);
    others = λ other differs manager. lost-node-other prio proc (server ∷ []) queues other (manager_number manager) differs ∙ beside.others other differs manager;
    waits = beside.waits;
    answered = beside.answered;
  }

pub beside-lost : (users : Users) (prio : ℕ) (proc : Proc) (lost : List ServerName) (queues : Shared) → StandBeside users queues proc → StandBeside users (with_lost prio proc lost queues) proc
beside-lost users prio proc [] queues beside = beside
beside-lost users prio proc (server ∷ lost) queues beside = beside-lost users prio proc lost (with_shared_disconnect queues proc server prio) (beside-disconnected users queues prio proc server beside)

-- where the process had the disconnect nodes of what it used before it lost that
pub Kept-lost : (users : Users) (queues : Shared) (prio : ℕ) (proc : Proc) (before : Option Process) (lost : Option ServerName) → StandBeside users queues proc → ((manager : Manager) → has_disconnect_node queues proc (manager_number manager) ≡ served_at manager before)
    → LosesAt lost before (process_of users proc) → StandTogether users (with_lost prio proc (option_to_list lost) queues)
Kept-lost users queues prio proc before lost beside had loses =
    Kept-beside users (with_lost prio proc (option_to_list lost) queues) proc (beside-lost users prio proc (option_to_list lost) queues beside)
    (λ manager. lost-node prio proc lost queues manager ∙ ap (λ b. b && not (is_at manager lost)) (had manager) ∙ sym (lost-served lost before (process_of users proc) loses manager))

-- what is lost has its node
pub lost-there : (queues : Shared) (proc : Proc) (before after : Option Process) (lost : Option ServerName) → HasServerNodesOf before queues proc → LosesAt lost before after
    → IfSome lost (λ server. IsTrue (has_disconnect_node queues proc (manager_number server.manager)))
lost-there queues proc before after None nodes loses = tt
lost-there queues proc before after (Some server) nodes loses = nodes server.manager ∙ lost-used (Some server) before after loses

-- the channel, once the pulse of what is lost stands in its line
pub shown-lost : (users : Users) (prio : ℕ) (proc : Proc) (f : Process → Process) (queues : Shared) (mounts : List (List MountPoint)) (events : List Events) (lost : Option ServerName) → LosesAt lost (process_of users proc) (process_of (with_process_of users proc f) proc)
    → shown (with_process_of users proc f) (with_lost prio proc (option_to_list lost) queues) mounts events
    ≡ record { users = with_process_of users proc f; lines = lines_after proc.user.0 queues.lines (disconnects prio proc.num f (process_of users proc)); pipes = queues.pipes; events = events; mounts = mounts; room = queues.room }
shown-lost users prio proc f queues mounts events lost loses = λ i. record {
  mounts = mounts;
  users = with_process_of users proc f;
  events = events;
  lines = lines i;
  pipes = lost-fields prio proc (λ c. c.pipes) (λ c server. refl) (option_to_list lost) queues i;
  room = lost-fields prio proc (λ c. c.room) (λ c server. refl) (option_to_list lost) queues i;
}
  where
    lines : (with_lost prio proc (option_to_list lost) queues).lines ≡ lines_after proc.user.0 queues.lines (disconnects prio proc.num f (process_of users proc))
    lines = lost-lines prio proc (option_to_list lost) queues
        ∙ ap (lines_after proc.user.0 queues.lines) (sym (lost-pulses prio proc.num f (process_of users proc) lost (subst (LosesAt lost (process_of users proc)) (process_of-same users proc f) loses)))
