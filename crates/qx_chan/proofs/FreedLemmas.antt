-- A server connection that was left goes: rows, lines and nodes stand together still.
use Rattle.std.proofs.Common.{◌≡◌, inl, inr, ℕ, zero, suc, ◌∷◌, [], Bool, true, false, List, Option, Some, None, get_or, is_some, refl, sym, ◌∙◌, ap}
use Rattle.std.specs.Prelude.{if◌then◌else◌, option_map, slice_set}
use Rattle.std.specs.List.{AllByRecursion}
use Rattle.std.proofs.lemmas.List.{length-set}
use Rattle.std.proofs.lemmas.List.Folds.{position_or_len-set}
use Rattle.qx_types.specs.Managers.{manager_number}
use Rattle.qx_types.specs.declared.names.Manager.{Manager}
use Rattle.qx_types.specs.declared.names.Proc.{Proc}
use Rattle.qx_types.specs.declared.names.Thread.{Thread}
use Rattle.qx_machine.specs.declared.rows.ServerConnection.{ServerConnection}
use Rattle.qx_isolation.specs.declared.rows.ServerName.{ServerName}
use Rattle.qx_isolation.specs.Lines.{line_at, with_line}
use Rattle.qx_machine.specs.Parts.{thread_of}
use Rattle.qx_machine.specs.Processes.{Process, without_server}
use Rattle.qx_isolation.specs.Rows.{row_at, with_row}
use Rattle.qx_machine.specs.Servers.{Servers, in_use, is_in_use, is_left, without_left}
use Rattle.qx_queues.specs.Queues.{UsersAnswer}
use Rattle.qx_shared.specs.Shared.{Shared, waiting_in}
use Rattle.qx_clients.specs.Calls.{has_ended_in}
use Rattle.qx_chan.specs.Users.{Users, process_of, thread_row, with_process_of}
use Rattle.qx_chan.specs.inner.Kept.{Answering, IsAwaited, StandTogether, asked_call, has_nodes, stands_at, waits_for}
use Rattle.qx_chan.specs.Nodes.{served_at}
use Rattle.qx_rows.proofs.RowLemmas.{row_at-get_or}
use Rattle.qx_queues.proofs.NodesLemmas.{same_proc}
use Rattle.qx_chan.proofs.ProcessLemmas.{process_of-other, process_of-same}
use Rattle.qx_chan.proofs.RowReads.{length-with_row, row_at-with_other}
use Rattle.qx_chan.proofs.WaitLemmas.{waits-all}

-- the one in use stays

left_unused : (place : Option ServerConnection) → is_left place ≡ true → is_in_use place ≡ false
left_unused None left = refl
left_unused (Some server) left = rw left refl

still_used : (number : ℕ) (servers : Servers) → is_some (in_use (without_left number servers)) ≡ is_some (in_use servers)
still_used number servers = by_left (is_left (row_at servers number)) refl
  where
    by_left : (b : Bool) → is_left (row_at servers number) ≡ b → is_some (in_use (if b then slice_set servers number None else servers)) ≡ is_some (in_use servers)
    by_left true left =
        let unused : is_in_use (get_or servers number None) ≡ false = ap is_in_use (sym (row_at-get_or servers number)) ∙ left_unused (row_at servers number) left in
        rw (position_or_len-set is_in_use servers number None None (sym unused), length-set servers number None) refl
    by_left false left = refl

used_in : (all : List Servers) (line at number : ℕ) → is_some (in_use (line_at (with_line all line (without_left number)) at)) ≡ is_some (in_use (line_at all at))
used_in [] line at number = refl
used_in (servers ∷ all) zero zero number = still_used number servers
used_in (servers ∷ all) zero (suc at) number = refl
used_in (servers ∷ all) (suc line) zero number = refl
used_in (servers ∷ all) (suc line) (suc at) number = used_in all line at number

module _ (users : Users) (proc : Proc) (server : ServerName) where
  abbrev new : Users
  new = with_process_of users proc (without_server server)

  still_served : (manager : Manager) (process : Option Process) → served_at manager (option_map (without_server server) process) ≡ served_at manager process
  still_served manager None = refl
  still_served manager (Some process) = used_in process.servers (manager_number server.manager) (manager_number manager) server.number

  still_threads : (tid : ℕ) (process : Option Process) → thread_of tid (option_map (without_server server) process) ≡ thread_of tid process
  still_threads tid None = refl
  still_threads tid (Some process) = refl

  still_nodes : (tid : ℕ) (process : Option Process) → has_nodes tid (option_map (without_server server) process) ≡ has_nodes tid process
  still_nodes tid None = refl
  still_nodes tid (Some process) = refl

  still_ended : (process : Option Process) → has_ended_in (option_map (without_server server) process) ≡ has_ended_in process
  still_ended None = refl
  still_ended (Some process) = refl

  -- what is read of a process, where that is as it was
  read_as : {A : Type 0} (read : Option Process → A) → ((process : Option Process) → read (option_map (without_server server) process) ≡ read process) → (other : Proc) → read (process_of new other) ≡ read (process_of users other)
  read_as read same other = elim (same_proc other proc) [
    | inl equal ↦ rw (equal, process_of-same users proc (without_server server)) (same (process_of users proc))
    | inr differs ↦ ap read (process_of-other users proc (λ rows. with_row rows proc.num (without_server server)) (λ rows is n apart. row_at-with_other rows proc.num n (without_server server) apart) other differs)
  ]

  threads_as : (thread : Thread) → thread_row new thread ≡ thread_row users thread
  threads_as thread = read_as (thread_of thread.tid) (still_threads thread.tid) thread.proc

  pub Kept-freed : (queues : Shared) → StandTogether users queues → StandTogether (with_process_of users proc (without_server server)) queues
  Kept-freed queues kept = record {
    users = kept.users ∙ sym (length-with_row users proc.user.0 (λ rows. with_row rows proc.num (without_server server)));
    managers = kept.managers;
    threads = λ thread. kept.threads thread ∙ sym (read_as (has_nodes thread.tid) (still_nodes thread.tid) thread.proc);
    lines = λ thread at. kept.lines thread at ∙ ap (stands_at at) (sym (threads_as thread));
    pulses = λ thread at call is. ap (asked_call at call) (threads_as thread) ∙ kept.pulses thread at call is;
    servers = λ other manager. kept.servers other manager ∙ sym (read_as (served_at manager) (still_served manager) other);
    waits = λ list. waits-all users new (λ thread call is. ap (waits_for call) (threads_as thread) ∙ is) (λ other is. read_as has_ended_in still_ended other ∙ is) (waiting_in queues list) (kept.waits list);
    answered = kept.answered;
  }

  -- and whoever is answered waits for it still
  awaited-freed : (answered : List UsersAnswer) → AllByRecursion (IsAwaited users) answered → AllByRecursion (IsAwaited new) answered
  awaited-freed [] all = tt
  awaited-freed (first ∷ rest) all = (ap (waits_for first.call) (threads_as first.thread) ∙ all.0, awaited-freed rest all.1)

  pub Answering-freed : (queues : Shared) → Answering users queues → Answering (with_process_of users proc (without_server server)) queues
  Answering-freed queues answering = record { kept = Kept-freed (record queues { answered = [] }) answering.kept; answered = awaited-freed queues.answered answering.answered }
