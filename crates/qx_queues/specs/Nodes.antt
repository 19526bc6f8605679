-- The nodes that are kept for threads and for server connections. No public clause cites this module.
use Rattle.std.specs.FinSet as set
use Rattle.std.specs.Prelude.{◌≡◌, ◌≢◌, ℕ, suc, ◌+◌, [], ◌∷◌, ◌++◌, List, Option, Some, None, get_or, length, option_map, slice_set, replicate}
use Rattle.qx_types.specs.declared.limits.TheConstants.Limits.{PROCESSES, THREADS}
use Rattle.qx_types.specs.declared.names.Proc.{Proc}
use Rattle.qx_types.specs.declared.names.Thread.{Thread}
use Rattle.qx_types.specs.Managers.{manager_number}
use Rattle.qx_types.specs.declared.names.TheConstants.Manager.{MOST}
use Rattle.qx_isolation.specs.Rows.{row_at}
use Rattle.qx_queues.specs.declared.nodes.ThreadNodes.{ThreadNodes}
use Rattle.qx_queues.specs.declared.nodes.ProcessNodes.{ProcessNodes}
use Rattle.qx_queues.specs.declared.nodes.UserNodes.{UserNodes}
use Rattle.qx_queues.specs.Queues.{server_cmp, thread_cmp}

abbrev pub no_process : ProcessNodes
no_process = record { threads = replicate (THREADS + 1) None; servers = replicate MOST None }

abbrev pub no_process_nodes : UserNodes
no_process_nodes = record { processes = replicate (PROCESSES + 1) no_process }

abbrev pub no_nodes : ℕ → List UserNodes
no_nodes users = replicate (users + 1) no_process_nodes

abbrev pub process_nodes_in : UserNodes → ℕ → ProcessNodes
process_nodes_in of_user process = get_or of_user.processes process no_process

-- the nodes of a process
abbrev pub process_at : List UserNodes → Proc → ProcessNodes
process_at nodes proc = process_nodes_in (get_or nodes proc.user.0 no_process_nodes) proc.num

abbrev pub user_with : UserNodes → ℕ → ProcessNodes → UserNodes
user_with of_user process own = record { processes = slice_set of_user.processes process own }

-- the nodes with a process' own
abbrev pub with_process_at : List UserNodes → Proc → ProcessNodes → List UserNodes
with_process_at nodes proc own = slice_set nodes proc.user.0 (user_with (get_or nodes proc.user.0 no_process_nodes) proc.num own)

-- the nodes of a thread
abbrev pub nodes_of_thread : List UserNodes → Thread → Option ThreadNodes
nodes_of_thread nodes thread = row_at (process_at nodes thread.proc).threads thread.tid

abbrev pub threads_with : ProcessNodes → ℕ → Option ThreadNodes → ProcessNodes
threads_with of_process thread own = record { threads = slice_set of_process.threads thread own; servers = of_process.servers }

-- the nodes with a thread's own, or with none of the thread
abbrev pub with_nodes_at : List UserNodes → Thread → Option ThreadNodes → List UserNodes
with_nodes_at nodes thread own = with_process_at nodes thread.proc (threads_with (process_at nodes thread.proc) thread.tid own)

-- the disconnect node of a process' server connection at the manager of a number
abbrev pub disconnect_at : List UserNodes → Proc → ℕ → Option ℕ
disconnect_at nodes proc number = row_at (process_at nodes proc).servers number

abbrev pub servers_with : ProcessNodes → ℕ → Option ℕ → ProcessNodes
servers_with of_process number node = record { threads = of_process.threads; servers = slice_set of_process.servers number node }

-- the nodes with another disconnect node of a process at a manager, or with none
abbrev pub with_disconnect_at : List UserNodes → Proc → ℕ → Option ℕ → List UserNodes
with_disconnect_at nodes proc number node = with_process_at nodes proc (servers_with (process_at nodes proc) number node)

-- whose a node is: that of a thread's messages, that of the pulses that ask to unblock it, or a server connection's
pub data Owner : Type 0 where
  Message : (thread : Thread) → Owner
  Unblock : (thread : Thread) → Owner
  Disconnect : (proc : Proc) (number : ℕ) → Owner

abbrev pub node_of : List UserNodes → Owner → Option ℕ
node_of nodes (Message thread) = option_map (λ own. own.message) (nodes_of_thread nodes thread)
node_of nodes (Unblock thread) = option_map (λ own. own.unblock) (nodes_of_thread nodes thread)
node_of nodes (Disconnect proc number) = disconnect_at nodes proc number

abbrev pub asked_in : Option ThreadNodes → Option ℕ
asked_in None = None
asked_in (Some own) = option_map manager_number own.asked

-- in which line an unblock pulse of the thread stands
abbrev pub pulse_line_at : List UserNodes → Thread → Option ℕ
pulse_line_at nodes thread = asked_in (nodes_of_thread nodes thread)

-- what stands in numbered places, each told by its number
abbrev pub told_by_number : {A K : Type 0} → (ℕ → A → List K) → ℕ → List A → List K
told_by_number keys number [] = []
told_by_number keys number (x ∷ xs) = keys number x ++ told_by_number keys (suc number) xs

abbrev pub if_there : {A K : Type 0} → K → Option A → List K
if_there key None = []
if_there key (Some x) = key ∷ []

-- what stands in one column of all processes, each row told by its process and its number
abbrev pub keys_in : {A K : Type 0} → (Proc → ℕ → K) → (ProcessNodes → List (Option A)) → List UserNodes → List K
keys_in key column nodes =
    told_by_number (λ user of_user.
    told_by_number (λ process own.
    told_by_number (λ number row. if_there (key (record { user = record { 0 = user }; num = process }) number) row) 0 (column own))
    0 of_user.processes)
    0 nodes

-- the threads that have nodes
unfoldable pub threads_of : List UserNodes → set.FinSet thread_cmp
threads_of nodes = set.from_list (keys_in (λ proc tid. record { proc = proc; tid = tid }) (λ own. own.threads) nodes)

-- the server connections that have disconnect nodes
unfoldable pub servers_of : List UserNodes → set.FinSet server_cmp
servers_of nodes = set.from_list (keys_in (λ proc number. (proc, number)) (λ own. own.servers) nodes)

-- the same nodes, where the pulse of one thread stands in another line, or in none
pub record Asked (old new : List UserNodes) (thread : Thread) (asked : Option ℕ) : Type 0 where
  pub nodes : (owner : Owner) → node_of new owner ≡ node_of old owner
  pub here : pulse_line_at new thread ≡ asked
  pub others : (other : Thread) → other ≢ thread → pulse_line_at new other ≡ pulse_line_at old other
  pub threads : threads_of new ≡ threads_of old
  pub servers : servers_of new ≡ servers_of old
  pub users : length new ≡ length old
