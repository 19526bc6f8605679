-- The nodes of threads and server connections, as one gets its own or gives it back.
use Rattle.std.proofs.Common.{◌≡◌, ◌≢◌, ◌⊎◌, inl, inr, ℕ, ◌+◌, ◌≤◌, true, false, List, Option, Some, None, option_map, get_or, slice_set, replicate, length, is_some, refl, sym, ◌∙◌, ap, arith}
use Rattle.std.proofs.lemmas.Bool.{cases_Bool, cases_eq, cases_lt}
use Rattle.std.proofs.lemmas.Bool.Decides.{eqb_tells, nat_tests}
use Rattle.std.proofs.lemmas.List.{get_or-set_same, get_or-set_other, get_or-replicate, length-replicate, length-set}
use Rattle.std.proofs.lemmas.Grind.{common_steps}
use Rattle.std.proofs.lemmas.Option.{unwrap_or-slice_get}
use Rattle.qx_types.specs.declared.limits.TheConstants.Limits.{PROCESSES, THREADS}
use Rattle.qx_types.specs.declared.names.Proc.{Proc}
use Rattle.qx_types.specs.declared.names.TheConstants.Manager.{MOST}
use Rattle.qx_types.specs.declared.names.Thread.{Thread}
use Rattle.qx_isolation.specs.Rows.{row_at}
use Rattle.qx_isolation.proofs.Places.{row_at-set_other}
use Rattle.qx_queues.specs.declared.nodes.ProcessNodes.{ProcessNodes}
use Rattle.qx_queues.specs.declared.nodes.ThreadNodes.{ThreadNodes}
use Rattle.qx_queues.specs.declared.nodes.UserNodes.{UserNodes}
use Rattle.qx_queues.specs.Queues.{is_same_proc, is_same_thread}
use Rattle.qx_queues.specs.Nodes.{Disconnect, Message, Owner, Unblock, pulse_line_at, asked_in, disconnect_at, no_nodes, no_process, no_process_nodes, node_of, nodes_of_thread, process_at, servers_with, threads_with, user_with, with_disconnect_at, with_nodes_at, with_process_at}
use Rattle.qx_queues.proofs.EntryLemmas.{is_same_thread-same, is_same_thread-self, same_names}

pub same_or_not : (one other : Thread) → (one ≡ other) ⊎ (one ≢ other)
same_or_not one other = elim (cases_Bool (is_same_thread one other)) [
  | inl same ↦ inl (is_same_thread-same one other same)
  | inr differs ↦ inr (λ same. let clash : true ≡ false = sym (is_same_thread-self other) ∙ rw same at differs in cc)
]

past : {A : Type 0} (xs : List A) (i : ℕ) (d : A) → length xs ≤ i → get_or xs i d ≡ d
past xs i d beyond = grind (arith, common_steps)

set_past : {A : Type 0} (xs : List A) (i : ℕ) (x d : A) → length xs ≤ i → get_or (slice_set xs i x) i d ≡ get_or xs i d
set_past xs i x d beyond = past (slice_set xs i x) i d (grind (arith, common_steps)) ∙ sym (past xs i d beyond)

-- a place that was written reads as what was written, or is out of the list
either : {A : Type 0} (xs : List A) (i : ℕ) (x d : A) → (get_or (slice_set xs i x) i d ≡ x) ⊎ (get_or (slice_set xs i x) i d ≡ get_or xs i d)
either xs i x d = elim (cases_lt i (length xs)) [
  | inl within ↦ inl (get_or-set_same xs i x d within)
  | inr beyond ↦ inr (set_past xs i x d beyond)
]

pub default_of : {A : Type 0} (n i : ℕ) (d : A) → get_or (replicate n d) i d ≡ d
default_of n i d = elim (cases_lt i n) [
  | inl within ↦ get_or-replicate n i d d within
  | inr beyond ↦ past (replicate n d) i d (omega (arith, length-replicate n d))
]

pub row_at-past : {A : Type 0} (rows : List (Option A)) (i : ℕ) → length rows ≤ i → row_at rows i ≡ None
row_at-past rows i beyond = unwrap_or-slice_get rows i None ∙ past rows i None beyond

pub row_at-none : {A : Type 0} (n i : ℕ) → row_at {A = A} (replicate n None) i ≡ None
row_at-none n i = unwrap_or-slice_get (replicate n None) i None ∙ default_of n i None

same_proc_of : (u v p q : ℕ) → u ≡ v → p ≡ q → ◌≡◌ {A = Proc} (record { user = record { 0 = u }; num = p }) (record { user = record { 0 = v }; num = q })
same_proc_of u v p q user process = rw (user, process) refl

pub same_proc : (one other : Proc) → (one ≡ other) ⊎ (one ≢ other)
same_proc one other = elim (cases_eq one.user.0 other.user.0) [
  | inr apart ↦ inr (λ same. apart (ap (λ p. p.user.0) same))
  | inl user ↦ elim (cases_eq one.num other.num) [
    | inr apart ↦ inr (λ same. apart (ap (λ p. p.num) same))
    | inl process ↦ inl (same_proc_of _ _ _ _ user process)
  ]
]

pub is_same_proc-self : (proc : Proc) → is_same_proc proc proc ≡ true
is_same_proc-self proc = grind (arith, nat_tests)

pub is_same_proc-same : (one other : Proc) → is_same_proc one other ≡ true → one ≡ other
is_same_proc-same one other same = elim (eqb_tells one.user.0 other.user.0) [
  | inr differs ↦ let clash : false ≡ true = rw differs.0 at same in cc
  | inl user ↦ elim (eqb_tells one.num other.num) [
    | inr differs ↦ let clash : false ≡ true = rw (user.0, differs.0) at same in cc
    | inl process ↦ same_proc_of _ _ _ _ user.1 process.1
  ]
]

pub server_or_not : (proc other : Proc) (number at : ℕ) → ((other ≡ proc) × (at ≡ number)) ⊎ (other ≡ proc → at ≢ number)
server_or_not proc other number at = elim (same_proc other proc) [
  | inr apart ↦ inr (λ same. absurd (apart same))
  | inl same ↦ elim (cases_eq at number) [
    | inr differs ↦ inr (λ again. differs)
    | inl here ↦ inl (same, here)
  ]
]

abbrev of_proc : Owner → Proc
of_proc (Message thread) = thread.proc
of_proc (Unblock thread) = thread.proc
of_proc (Disconnect proc number) = proc

abbrev of_number : Owner → ℕ
of_number (Message thread) = 0
of_number (Unblock thread) = 0
of_number (Disconnect proc number) = number

-- the nodes of another process
process_at-other : (nodes : List UserNodes) (proc other : Proc) (own : ProcessNodes) → other ≢ proc → process_at (with_process_at nodes proc own) other ≡ process_at nodes other
process_at-other nodes proc other own differs = elim (cases_eq other.user.0 proc.user.0) [
  | inr apart ↦ ap (λ u. get_or u.processes other.num no_process) (get_or-set_other nodes proc.user.0 other.user.0 _ no_process_nodes apart)
  | inl same ↦ rw same (elim (either nodes proc.user.0 (user_with (get_or nodes proc.user.0 no_process_nodes) proc.num own) no_process_nodes) [
    | inl written ↦ rw written (get_or-set_other (get_or nodes proc.user.0 no_process_nodes).processes proc.num other.num own no_process (λ process. differs (same_proc_of _ _ _ _ same process)))
    | inr beyond ↦ rw beyond refl
  ])
]

-- the nodes that were written, or those that were, where there is no place
process_at-same : (nodes : List UserNodes) (proc : Proc) (own : ProcessNodes) → (process_at (with_process_at nodes proc own) proc ≡ own) ⊎ (process_at (with_process_at nodes proc own) proc ≡ process_at nodes proc)
process_at-same nodes proc own = elim (either nodes proc.user.0 (user_with (get_or nodes proc.user.0 no_process_nodes) proc.num own) no_process_nodes) [
  | inr beyond ↦ inr (rw beyond refl)
  | inl written ↦ rw written (either (get_or nodes proc.user.0 no_process_nodes).processes proc.num own no_process)
]

-- what is read of each process stays, where what is written reads as what was
read-with_process : {A : Type 0} (read : ProcessNodes → A) (nodes : List UserNodes) (proc other : Proc) (own : ProcessNodes) → (other ≡ proc → read own ≡ read (process_at nodes proc)) → read (process_at (with_process_at nodes proc own) other) ≡ read (process_at nodes other)
read-with_process read nodes proc other own same_read = elim (same_proc other proc) [
  | inr differs ↦ ap read (process_at-other nodes proc other own differs)
  | inl same ↦ rw same (elim (process_at-same nodes proc own) [
    | inl written ↦ ap read written ∙ same_read same
    | inr beyond ↦ ap read beyond
  ])
]

module _ (nodes : List UserNodes) (thread : Thread) (own : Option ThreadNodes) where
  -- the nodes of another thread
  pub nodes_at-other : (other : Thread) → other ≢ thread → nodes_of_thread (with_nodes_at nodes thread own) other ≡ nodes_of_thread nodes other
  nodes_at-other other differs = read-with_process (λ p. row_at p.threads other.tid) nodes thread.proc other.proc (threads_with (process_at nodes thread.proc) thread.tid own)
      (λ same. row_at-set_other (process_at nodes thread.proc).threads thread.tid other.tid own (λ tid. differs (same_names other thread (ap (λ p. p.user.0) same) (ap (λ p. p.num) same) tid)))

  -- a thread's nodes and a disconnect node are apart
  pub disconnect_at-with_nodes : (proc : Proc) (number : ℕ) → disconnect_at (with_nodes_at nodes thread own) proc number ≡ disconnect_at nodes proc number
  disconnect_at-with_nodes proc number = read-with_process (λ p. row_at p.servers number) nodes thread.proc proc (threads_with (process_at nodes thread.proc) thread.tid own) (λ same. refl)

  -- a pulse stands where it stood
  pub asked_at-same : nodes_of_thread (with_nodes_at nodes thread own) thread ≡ own → asked_in own ≡ pulse_line_at nodes thread → (other : Thread) → pulse_line_at (with_nodes_at nodes thread own) other ≡ pulse_line_at nodes other
  asked_at-same there still other = elim (same_or_not other thread) [
    | inl same ↦ rw same (ap asked_in there ∙ still)
    | inr differs ↦ ap asked_in (nodes_at-other other differs)
  ]

  pub length-with_nodes : length (with_nodes_at nodes thread own) ≡ length nodes
  length-with_nodes = length-set nodes thread.proc.user.0 _

module _ (nodes : List UserNodes) (proc : Proc) (number : ℕ) (node : Option ℕ) where
  pub nodes_at-with_disconnect : (thread : Thread) → nodes_of_thread (with_disconnect_at nodes proc number node) thread ≡ nodes_of_thread nodes thread
  nodes_at-with_disconnect thread = read-with_process (λ p. row_at p.threads thread.tid) nodes proc thread.proc (servers_with (process_at nodes proc) number node) (λ same. refl)

  -- the disconnect node of another server connection
  pub disconnect_at-other : (other : Proc) (at : ℕ) → (other ≡ proc → at ≢ number) → disconnect_at (with_disconnect_at nodes proc number node) other at ≡ disconnect_at nodes other at
  disconnect_at-other other at differs = read-with_process (λ p. row_at p.servers at) nodes proc other (servers_with (process_at nodes proc) number node) (λ same. row_at-set_other (process_at nodes proc).servers number at node (differs same))

  pub length-with_disconnect : length (with_disconnect_at nodes proc number node) ≡ length nodes
  length-with_disconnect = length-set nodes proc.user.0 _

  -- whose nodes stay
  pub node_of-with_disconnect : (owner : Owner) → (owner ≡ Disconnect proc number) ⊎ ((owner ≢ Disconnect proc number) × (node_of (with_disconnect_at nodes proc number node) owner ≡ node_of nodes owner))
  node_of-with_disconnect (Message thread) = inr (λ same. cc, ap (option_map (λ own. own.message)) (nodes_at-with_disconnect thread))
  node_of-with_disconnect (Unblock thread) = inr (λ same. cc, ap (option_map (λ own. own.unblock)) (nodes_at-with_disconnect thread))
  node_of-with_disconnect (Disconnect other at) = elim (server_or_not proc other number at) [
    | inl same ↦ inl (rw (same.0, same.1) refl)
    | inr differs ↦ inr (λ same. differs (ap of_proc same) (ap of_number same), disconnect_at-other other at differs)
  ]

-- a thread's two nodes come, or go, one after the other
module _ (nodes : List UserNodes) (thread : Thread) (own : Option ThreadNodes) where
  -- whose the nodes are once that of its messages did
  abbrev pub half : Owner → Option ℕ
  half (Message other) = node_of (with_nodes_at nodes thread own) (Message other)
  half (Unblock other) = node_of nodes (Unblock other)
  half (Disconnect proc number) = node_of nodes (Disconnect proc number)

  abbrev of_thread : Owner → Thread
  of_thread (Message other) = other
  of_thread (Unblock other) = other
  of_thread (Disconnect proc number) = thread

  pub half-first : (owner : Owner) → (owner ≡ Message thread) ⊎ ((owner ≢ Message thread) × (half owner ≡ node_of nodes owner))
  half-first (Message other) = elim (same_or_not other thread) [
    | inl same ↦ inl (ap Message same)
    | inr differs ↦ inr (λ same. differs (ap of_thread same), ap (option_map (λ o. o.message)) (nodes_at-other nodes thread own other differs))
  ]
  half-first (Unblock other) = inr (λ same. cc, refl)
  half-first (Disconnect proc number) = inr (λ same. cc, refl)

  pub half-second : (owner : Owner) → (owner ≡ Unblock thread) ⊎ ((owner ≢ Unblock thread) × (node_of (with_nodes_at nodes thread own) owner ≡ half owner))
  half-second (Message other) = inr (λ same. cc, refl)
  half-second (Unblock other) = elim (same_or_not other thread) [
    | inl same ↦ inl (ap Unblock same)
    | inr differs ↦ inr (λ same. differs (ap of_thread same), ap (option_map (λ o. o.unblock)) (nodes_at-other nodes thread own other differs))
  ]
  half-second (Disconnect proc number) = inr (λ same. cc, disconnect_at-with_nodes nodes thread own proc number)

process_at-none : (users : ℕ) (proc : Proc) → process_at (no_nodes users) proc ≡ no_process
process_at-none users proc = rw (default_of (users + 1) proc.user.0 no_process_nodes) (default_of (PROCESSES + 1) proc.num no_process)

-- nobody has a node at first
pub nodes_at-none : (users : ℕ) (thread : Thread) → nodes_of_thread (no_nodes users) thread ≡ None
nodes_at-none users thread = rw (process_at-none users thread.proc) (row_at-none (THREADS + 1) thread.tid)

pub disconnect_at-none : (users : ℕ) (proc : Proc) (number : ℕ) → disconnect_at (no_nodes users) proc number ≡ None
disconnect_at-none users proc number = rw (process_at-none users proc) (row_at-none MOST number)

pub node_of-none : (users : ℕ) (owner : Owner) → node_of (no_nodes users) owner ≡ None
node_of-none users (Message thread) = ap (option_map (λ own. own.message)) (nodes_at-none users thread)
node_of-none users (Unblock thread) = ap (option_map (λ own. own.unblock)) (nodes_at-none users thread)
node_of-none users (Disconnect proc number) = disconnect_at-none users proc number

pub nodes_at-no_user : (nodes : List UserNodes) (thread : Thread) → length nodes ≤ thread.proc.user.0 → nodes_of_thread nodes thread ≡ None
nodes_at-no_user nodes thread beyond = rw (past nodes thread.proc.user.0 no_process_nodes beyond, default_of (PROCESSES + 1) thread.proc.num no_process) (row_at-none (THREADS + 1) thread.tid)

pub disconnect_at-no_user : (nodes : List UserNodes) (proc : Proc) (number : ℕ) → length nodes ≤ proc.user.0 → disconnect_at nodes proc number ≡ None
disconnect_at-no_user nodes proc number beyond = rw (past nodes proc.user.0 no_process_nodes beyond, default_of (PROCESSES + 1) proc.num no_process) (row_at-none MOST number)

pub disconnect_at-no_process : (nodes : List UserNodes) (proc : Proc) (number : ℕ) (of_user : UserNodes) → get_or nodes proc.user.0 no_process_nodes ≡ of_user → length of_user.processes ≤ proc.num → disconnect_at nodes proc number ≡ None
disconnect_at-no_process nodes proc number of_user is beyond = rw (is, past of_user.processes proc.num no_process beyond) (row_at-none MOST number)

pub none_of : {A : Type 0} (o : Option A) → is_some o ≡ false → o ≡ None
none_of None none = refl
none_of (Some x) none = cc

-- a process with a thread or a server connection that has nodes has a place
pub started-thread : (nodes : List UserNodes) (thread : Thread) → is_some (nodes_of_thread nodes thread) ≡ true → process_at nodes thread.proc ≢ no_process
started-thread nodes thread there none =
    let clash : false ≡ true = ap is_some (sym (ap (λ p. row_at p.threads thread.tid) none ∙ row_at-none (THREADS + 1) thread.tid)) ∙ there in
    cc

pub started-server : (nodes : List UserNodes) (proc : Proc) (number node : ℕ) → disconnect_at nodes proc number ≡ Some node → process_at nodes proc ≢ no_process
started-server nodes proc number node there none =
    let clash : None ≡ Some node = sym (ap (λ p. row_at p.servers number) none ∙ row_at-none MOST number) ∙ there in
    cc
