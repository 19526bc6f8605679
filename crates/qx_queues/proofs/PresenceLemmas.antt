-- Which threads and server connections have nodes, as sets.
use Rattle.std.proofs.Common.{◌≡◌, ◌≢◌, inl, inr, ℕ, zero, suc, ◌+◌, ◌-◌, ◌*◌, ◌<◌, ◌≤◌, ◌&&◌, ◌||◌, ◌==◌, nat_le, nat_lt, not, Bool, true, false, List, [], ◌∷◌, Option, Some, None, get_or, length, is_some, option_map, refl, sym, ◌∙◌, ap, arith}
use Rattle.std.specs.FinMap as maps
use Rattle.std.specs.FinSet as set
use Rattle.std.specs.List.{list_any}
use Rattle.std.specs.Ordering.{eq_by_cmp, nat_cmp}
use Rattle.std.specs.Cmp.{eq_by_cmp_equiv}
use Rattle.std.proofs.lemmas.Bool.Decides.{eqb_tells, nat_tests}
use Rattle.std.proofs.lemmas.List.Folds.{list_any-append}
use Rattle.std.proofs.lemmas.Option.{unwrap_or-slice_get}
use Rattle.qx_types.specs.Managers.{manager_number}
use Rattle.qx_types.specs.declared.names.TheConstants.Manager.{MOST}
use Rattle.qx_types.specs.declared.limits.TheConstants.Limits.{PROCESSES, THREADS}
use Rattle.qx_types.specs.declared.names.Proc.{Proc}
use Rattle.qx_types.specs.declared.names.Thread.{Thread}
use Rattle.qx_isolation.specs.declared.rows.Queued.{Queued}
use Rattle.qx_queues.specs.declared.nodes.ProcessNodes.{ProcessNodes}
use Rattle.qx_queues.specs.declared.nodes.ThreadNodes.{ThreadNodes}
use Rattle.qx_queues.specs.declared.nodes.UserNodes.{UserNodes}
use Rattle.qx_queues.specs.Queues.{Queues, UsersAnswer, UsersCall, has_thread_nodes, is_same_thread, server_cmp, thread_cmp, with_process_nodes, with_server_node, without_nodes_below, without_thread_nodes}
use Rattle.qx_queues.specs.inner.Queues.{is_thread_below, is_thread_of}
use Rattle.qx_queues.specs.Nodes.{Asked, Disconnect, Message, Owner, Unblock, asked_in, disconnect_at, if_there, keys_in, no_nodes, no_process, no_process_nodes, node_of, nodes_of_thread, told_by_number, process_at, process_nodes_in, servers_of, threads_of, with_disconnect_at, with_nodes_at}
use Rattle.qx_queues.proofs.EntryLemmas.{or_false}
use Rattle.qx_queues.proofs.NodesLemmas.{default_of, disconnect_at-none, disconnect_at-other, disconnect_at-with_nodes, is_same_proc-self, length-with_nodes, none_of, nodes_at-none, nodes_at-other, nodes_at-with_disconnect, same_or_not, started-thread}
use Rattle.qx_queues.proofs.SetLemmas.{has-thread, has-thread-removed, insert-there, insert_is, other_key, remove-absent, remove_is, server_exact, server_total, thread_exact, thread_total}

-- what numbered places tell
module _ {A K : Type 0} (keys : ℕ → A → List K) (P : K → Bool) where
  keys_none : ((j : ℕ) (x : A) → list_any P (keys j x) ≡ false) → (n : ℕ) (xs : List A) → list_any P (told_by_number keys n xs) ≡ false
  keys_none none n [] = refl
  keys_none none n (x ∷ xs) = list_any-append P (keys n x) (told_by_number keys (suc n) xs) ∙ rw (none n x) (keys_none none (suc n) xs)

  module _ (i : ℕ) (d : A) (elsewhere : (j : ℕ) (x : A) → j ≢ i → list_any P (keys j x) ≡ false) (nothing : list_any P (keys i d) ≡ false) where
    keys_past : (n : ℕ) (xs : List A) → i < n → list_any P (told_by_number keys n xs) ≡ false
    keys_past n [] past = refl
    keys_past n (x ∷ xs) past = list_any-append P (keys n x) (told_by_number keys (suc n) xs) ∙ rw (elsewhere n x (λ same. omega (arith, same, past))) (keys_past (suc n) xs (omega (arith, past)))

    keys_at : (n k : ℕ) (xs : List A) → n + k ≡ i → list_any P (told_by_number keys n xs) ≡ list_any P (keys i (get_or xs k d))
    keys_at n k [] is = sym nothing
    keys_at n zero (x ∷ xs) is =
        let here : n ≡ i = omega (arith, is) in
        list_any-append P (keys n x) (told_by_number keys (suc n) xs) ∙ rw (keys_past (suc n) xs (omega (arith, is)), here) (or_false (list_any P (keys i x)))
    keys_at n (suc k) (x ∷ xs) is = list_any-append P (keys n x) (told_by_number keys (suc n) xs) ∙ rw (elsewhere n x (λ same. omega (arith, same, is))) (keys_at (suc n) k xs (omega (arith, is)))

from_zero : (n : ℕ) → 0 + n ≡ n
from_zero n = omega arith

module _ {A K : Type 0} (P : K → Bool) (key : K) where
  there_if : (o : Option A) → P key ≡ true → list_any P (if_there key o) ≡ is_some o
  there_if None is = refl
  there_if (Some x) is = rw is refl

  not_there : (o : Option A) → P key ≡ false → list_any P (if_there key o) ≡ false
  not_there None is = refl
  not_there (Some x) is = rw is refl

-- whether one row of a column is told
module _ {A K : Type 0} (key : Proc → ℕ → K) (column : ProcessNodes → List (Option A)) (P : K → Bool) (proc : Proc) (number : ℕ) (here : P (key proc number) ≡ true) (elsewhere : (other : Proc) (at : ℕ) → (other ≡ proc → at ≢ number) → P (key other at) ≡ false) (nothing : get_or (column no_process) number None ≡ None) where
  abbrev place : Proc → ℕ → Option A → List K
  place other at row = if_there (key other at) row

  in_column : (xs : List (Option A)) → list_any P (told_by_number (place proc) 0 xs) ≡ is_some (get_or xs number None)
  in_column xs =
      keys_at (place proc) P number None (λ at row apart. not_there P (key proc at) row (elsewhere proc at (λ same. apart))) refl 0 number xs (from_zero number)
      ∙ there_if P (key proc number) (get_or xs number None) here

  abbrev of_process : ℕ → ℕ → ProcessNodes → List K
  of_process user process own = told_by_number (place (record { user = record { 0 = user }; num = process })) 0 (column own)

  off_process : (user process : ℕ) (own : ProcessNodes) → ◌≢◌ {A = Proc} (record { user = record { 0 = user }; num = process }) proc → list_any P (of_process user process own) ≡ false
  off_process user process own apart = keys_none (place (record { user = record { 0 = user }; num = process })) P (λ at row. not_there P _ row (elsewhere _ at (λ same. absurd (apart same)))) 0 (column own)

  abbrev of_user : ℕ → UserNodes → List K
  of_user user x = told_by_number (of_process user) 0 x.processes

  in_user : (x : UserNodes) → list_any P (of_user proc.user.0 x) ≡ is_some (get_or (column (process_nodes_in x proc.num)) number None)
  in_user x =
      keys_at (of_process proc.user.0) P proc.num no_process (λ process own apart. off_process proc.user.0 process own (λ same. apart (ap (λ p. p.num) same))) (in_column (column no_process) ∙ ap is_some nothing) 0 proc.num x.processes (from_zero proc.num)
      ∙ in_column (column (process_nodes_in x proc.num))

  pub keys_in-at : (nodes : List UserNodes) → list_any P (keys_in key column nodes) ≡ is_some (get_or (column (process_at nodes proc)) number None)
  keys_in-at nodes =
      keys_at of_user P proc.user.0 no_process_nodes
      (λ user x apart. keys_none (of_process user) P (λ process own. off_process user process own (λ same. apart (ap (λ p. p.user.0) same))) 0 x.processes)
      (in_user no_process_nodes ∙ ap (λ own. is_some (get_or (column own) number None)) (default_of (PROCESSES + 1) proc.num no_process) ∙ ap is_some nothing)
      0 proc.user.0 nodes (from_zero proc.user.0)
      ∙ in_user (get_or nodes proc.user.0 no_process_nodes)

-- a thread is in the set exactly if it has nodes
pub threads-nodes : (nodes : List UserNodes) (thread : Thread) → set.contains (threads_of nodes) thread ≡ is_some (nodes_of_thread nodes thread)
unfolding threads_of
threads-nodes nodes thread =
    set.contains-from_list thread_total _ thread
    ∙ keys_in-at (λ proc tid. record { proc = proc; tid = tid }) (λ own. own.threads) (eq_by_cmp thread_cmp thread) thread.proc thread.tid
    ((eq_by_cmp_equiv thread_total).refl thread)
    (λ other at apart. other_key thread_total thread_exact thread (record { proc = other; tid = at }) (λ same. apart (sym (ap (λ t. t.proc) same)) (sym (ap (λ t. t.tid) same))))
    (default_of (THREADS + 1) thread.tid None) nodes
    ∙ ap is_some (sym (unwrap_or-slice_get (process_at nodes thread.proc).threads thread.tid None))

-- a server connection is in the set exactly if it has a disconnect node
pub servers-nodes : (nodes : List UserNodes) (proc : Proc) (number : ℕ) → set.contains (servers_of nodes) (proc, number) ≡ is_some (disconnect_at nodes proc number)
unfolding servers_of
servers-nodes nodes proc number =
    set.contains-from_list server_total _ (proc, number)
    ∙ keys_in-at (λ other at. (other, at)) (λ own. own.servers) (eq_by_cmp server_cmp (proc, number)) proc number
    ((eq_by_cmp_equiv server_total).refl (proc, number))
    (λ other at apart. other_key server_total server_exact (proc, number) (other, at) (λ same. apart (sym (ap (λ s. s.0) same)) (sym (ap (λ s. s.1) same))))
    (default_of MOST number None) nodes
    ∙ ap is_some (sym (unwrap_or-slice_get (process_at nodes proc).servers number None))

-- two sets of threads, or of server connections, told by their members
pub same_threads : (s t : set.FinSet thread_cmp) → ((thread : Thread) → set.contains s thread ≡ set.contains t thread) → s ≡ t
same_threads = set.same_set thread_total thread_exact

pub same_servers : (s t : set.FinSet server_cmp) → ((proc : Proc) (number : ℕ) → set.contains s (proc, number) ≡ set.contains t (proc, number)) → s ≡ t
same_servers s t same = set.same_set server_total server_exact s t (λ key. same key.0 key.1)

-- the sets, as nodes are made and given back
pub threads-none : (users : ℕ) → threads_of (no_nodes users) ≡ set.empty
threads-none users = same_threads _ _ (λ thread. threads-nodes (no_nodes users) thread ∙ ap is_some (nodes_at-none users thread) ∙ sym (set.contains-empty thread_cmp thread))

pub servers-none : (users : ℕ) → servers_of (no_nodes users) ≡ set.empty
servers-none users = same_servers _ _ (λ proc number. servers-nodes (no_nodes users) proc number ∙ ap is_some (disconnect_at-none users proc number) ∙ sym (set.contains-empty server_cmp (proc, number)))

module _ (nodes : List UserNodes) (thread : Thread) (own : Option ThreadNodes) where
  threads_stay : (other : Thread) → other ≢ thread → set.contains (threads_of (with_nodes_at nodes thread own)) other ≡ set.contains (threads_of nodes) other
  threads_stay other differs = threads-nodes (with_nodes_at nodes thread own) other ∙ ap is_some (nodes_at-other nodes thread own other differs) ∙ sym (threads-nodes nodes other)

  threads_here : nodes_of_thread (with_nodes_at nodes thread own) thread ≡ own → set.contains (threads_of (with_nodes_at nodes thread own)) thread ≡ is_some own
  threads_here there = threads-nodes (with_nodes_at nodes thread own) thread ∙ ap is_some there

  pub threads-made : is_some own ≡ true → nodes_of_thread (with_nodes_at nodes thread own) thread ≡ own → threads_of (with_nodes_at nodes thread own) ≡ set.insert (threads_of nodes) thread
  threads-made some there = insert_is thread_total thread_exact (threads_of nodes) _ thread (threads_here there ∙ some) threads_stay

  pub threads-freed : is_some own ≡ false → nodes_of_thread (with_nodes_at nodes thread own) thread ≡ own → threads_of (with_nodes_at nodes thread own) ≡ set.remove (threads_of nodes) thread
  threads-freed none there = remove_is thread_total thread_exact (threads_of nodes) _ thread (threads_here there ∙ none) threads_stay

  pub servers-with_nodes : servers_of (with_nodes_at nodes thread own) ≡ servers_of nodes
  servers-with_nodes = same_servers _ _ (λ proc number. servers-nodes (with_nodes_at nodes thread own) proc number ∙ ap is_some (disconnect_at-with_nodes nodes thread own proc number) ∙ sym (servers-nodes nodes proc number))

-- a thread's pulse stands in another line, or in none
module _ (nodes : List UserNodes) (thread : Thread) (old own : ThreadNodes) (was : nodes_of_thread nodes thread ≡ Some old) (is : nodes_of_thread (with_nodes_at nodes thread (Some own)) thread ≡ Some own) where
  same_field : (field : ThreadNodes → ℕ) → field own ≡ field old → (other : Thread) → option_map field (nodes_of_thread (with_nodes_at nodes thread (Some own)) other) ≡ option_map field (nodes_of_thread nodes other)
  same_field field same other = elim (same_or_not other thread) [
    | inl here ↦ rw (here, is, was) (ap Some same)
    | inr differs ↦ ap (option_map field) (nodes_at-other nodes thread (Some own) other differs)
  ]

  same_owners : own.message ≡ old.message → own.unblock ≡ old.unblock → (owner : Owner) → node_of (with_nodes_at nodes thread (Some own)) owner ≡ node_of nodes owner
  same_owners message unblock (Message other) = same_field (λ o. o.message) message other
  same_owners message unblock (Unblock other) = same_field (λ o. o.unblock) unblock other
  same_owners message unblock (Disconnect proc number) = disconnect_at-with_nodes nodes thread (Some own) proc number

  pub Asked-set : own.message ≡ old.message → own.unblock ≡ old.unblock → Asked nodes (with_nodes_at nodes thread (Some own)) thread (option_map manager_number own.asked)
  Asked-set message unblock = record {
    nodes = same_owners message unblock;
    here = ap asked_in is;
    others = λ other differs. ap asked_in (nodes_at-other nodes thread (Some own) other differs);
    threads = threads-made nodes thread (Some own) refl is ∙ sym (insert-there thread_total thread_exact (threads_of nodes) thread (threads-nodes nodes thread ∙ ap is_some was));
    servers = servers-with_nodes nodes thread (Some own);
    users = length-with_nodes nodes thread (Some own);
  }

module _ (nodes : List UserNodes) (proc : Proc) (number : ℕ) (node : Option ℕ) where
  pub threads-with_disconnect : threads_of (with_disconnect_at nodes proc number node) ≡ threads_of nodes
  threads-with_disconnect = same_threads _ _ (λ other. threads-nodes (with_disconnect_at nodes proc number node) other ∙ ap is_some (nodes_at-with_disconnect nodes proc number node other) ∙ sym (threads-nodes nodes other))

  servers_stay : (key : Proc × ℕ) → key ≢ (proc, number) → set.contains (servers_of (with_disconnect_at nodes proc number node)) key ≡ set.contains (servers_of nodes) key
  servers_stay key differs =
      servers-nodes (with_disconnect_at nodes proc number node) key.0 key.1
      ∙ ap is_some (disconnect_at-other nodes proc number node key.0 key.1 (λ same at. differs (λ i. (same i, at i))))
      ∙ sym (servers-nodes nodes key.0 key.1)

  servers_here : disconnect_at (with_disconnect_at nodes proc number node) proc number ≡ node → set.contains (servers_of (with_disconnect_at nodes proc number node)) (proc, number) ≡ is_some node
  servers_here there = servers-nodes (with_disconnect_at nodes proc number node) proc number ∙ ap is_some there

  pub servers-made : is_some node ≡ true → disconnect_at (with_disconnect_at nodes proc number node) proc number ≡ node → servers_of (with_disconnect_at nodes proc number node) ≡ set.insert (servers_of nodes) (proc, number)
  servers-made some there = insert_is server_total server_exact (servers_of nodes) _ (proc, number) (servers_here there ∙ some) servers_stay

  pub servers-freed : is_some node ≡ false → disconnect_at (with_disconnect_at nodes proc number node) proc number ≡ node → servers_of (with_disconnect_at nodes proc number node) ≡ set.remove (servers_of nodes) (proc, number)
  servers-freed none there = remove_is server_total server_exact (servers_of nodes) _ (proc, number) (servers_here there ∙ none) servers_stay

-- a thread that is in the set has nodes, and one that isn't has none
pub nodes-there : (nodes : List UserNodes) (thread : Thread) → nodes_of_thread nodes thread ≡ None → set.contains (threads_of nodes) thread ≡ true → ⊥
nodes-there nodes thread none there = let clash : false ≡ true = sym (ap is_some none) ∙ sym (threads-nodes nodes thread) ∙ there in cc

pub nodes-known : (nodes : List UserNodes) (thread : Thread) → set.contains (threads_of nodes) thread ≡ true → is_some (nodes_of_thread nodes thread) ≡ true
nodes-known nodes thread there = sym (threads-nodes nodes thread) ∙ there

pub nodes-absent : (nodes : List UserNodes) (thread : Thread) → set.contains (threads_of nodes) thread ≡ false → nodes_of_thread nodes thread ≡ None
nodes-absent nodes thread absent = none_of _ (sym (threads-nodes nodes thread) ∙ absent)

-- a thread that has one node has nodes
pub nodes-some : {A B : Type 0} (f : A → B) (o : Option A) (x : B) → option_map f o ≡ Some x → is_some o ≡ true
nodes-some f None x is = cc
nodes-some f (Some a) x is = refl

-- a process with a thread in the set has a place
pub started : (nodes : List UserNodes) (proc : Proc) → (tid : ℕ) × (set.contains (threads_of nodes) (record { proc = proc; tid = tid }) ≡ true) → process_at nodes proc ≢ no_process
started nodes proc there = started-thread nodes (record { proc = proc; tid = there.0 }) (sym (threads-nodes nodes (record { proc = proc; tid = there.0 })) ∙ there.1)

-- two channels of the same parts
pub same_queues : {lines lines2 : List (List Queued)} {threads threads2 : set.FinSet thread_cmp} {servers servers2 : set.FinSet server_cmp} {users users2 room room2 : ℕ} {pipes pipes2 : maps.FinMap nat_cmp (List UsersCall)} {answered answered2 : List UsersAnswer} → lines ≡ lines2 → threads ≡ threads2 → servers ≡ servers2 → users ≡ users2 → room ≡ room2 → pipes ≡ pipes2 → answered ≡ answered2 → ◌≡◌ {A = Queues} (record { lines = lines; threads = threads; servers = servers; users = users; room = room; pipes = pipes; answered = answered }) (record { lines = lines2; threads = threads2; servers = servers2; users = users2; room = room2; pipes = pipes2; answered = answered2 })
same_queues a b c d e f g = λ i. record { lines = a i; threads = b i; servers = c i; users = d i; room = e i; pipes = f i; answered = g i }

module _ (lines : List (List Queued)) (nodes : List UserNodes) (room : ℕ) (pipes : maps.FinMap nat_cmp (List UsersCall)) (answered : List UsersAnswer) (proc : Proc) (number : ℕ) where
  abbrev shown : Queues
  shown = record { lines = lines; threads = threads_of nodes; servers = servers_of nodes; users = length nodes; room = room; pipes = pipes; answered = answered }

  -- a server connection that has its disconnect node gets none
  pub server-had : is_some (disconnect_at nodes proc number) ≡ true → shown ≡ with_server_node shown proc number
  server-had had =
      let there : set.contains (servers_of nodes) (proc, number) ≡ true = servers-nodes nodes proc number ∙ had in
      same_queues refl refl (insert-there server_total server_exact (servers_of nodes) (proc, number) there) refl (sym (rw there refl)) refl refl

-- a thread that has no nodes loses none
pub thread-lacked : (c : Queues) (thread : Thread) → has_thread_nodes c thread ≡ false → c ≡ without_thread_nodes c thread
thread-lacked c thread lacked = same_queues refl (remove-absent thread_total thread_exact c.threads thread lacked) refl refl (sym (rw lacked refl)) refl refl

-- a thread is none of those before it
pub not_earlier : (proc : Proc) (threads : ℕ) → (threads ≡ 0 → ⊥) → is_thread_of proc (threads - 1) (record { proc = proc; tid = threads }) ≡ false
not_earlier proc threads some =
    let least : 1 ≤ threads = omega (arith, some) in
    grind (arith, nat_tests, least)

-- what changes of the lines' value, and what stays, as the first threads of a process get nodes
thread_here : (threads tid : ℕ) → ((nat_le 1 tid && nat_le tid threads) || (suc threads == tid)) ≡ (nat_le 1 tid && nat_le tid (suc threads))
thread_here threads tid = grind (arith, nat_tests)

or_assoc : (a b c : Bool) → ((a || b) || c) ≡ (a || (b || c))
or_assoc true b c = refl
or_assoc false b c = refl

one_more : (proc : Proc) (threads : ℕ) (other : Thread) → (is_thread_of proc threads other || is_same_thread (record { proc = proc; tid = suc threads }) other) ≡ is_thread_of proc (suc threads) other
one_more proc threads other = elim (eqb_tells proc.user.0 other.proc.user.0) [
  | inr apart ↦ rw apart.0 refl
  | inl user ↦ elim (eqb_tells proc.num other.proc.num) [
    | inr apart ↦ rw (user.0, apart.0) refl
    | inl process ↦ rw (user.0, process.0) (thread_here threads other.tid)
  ]
]

none_yet : (proc : Proc) (other : Thread) → is_thread_of proc 0 other ≡ false
none_yet proc other = grind (arith, nat_tests)

module _ (c : Queues) (proc : Proc) where
  pub has-process : (threads : ℕ) (other : Thread) → has_thread_nodes (with_process_nodes c proc threads) other ≡ (has_thread_nodes c other || is_thread_of proc threads other)
  has-process zero other = rw (none_yet proc other) (sym (or_false (has_thread_nodes c other)))
  has-process (suc threads) other = has-thread (with_process_nodes c proc threads).threads (record { proc = proc; tid = suc threads }) other ∙ ap (λ b. b || is_same_thread (record { proc = proc; tid = suc threads }) other) (has-process threads other) ∙ or_assoc (has_thread_nodes c other) (is_thread_of proc threads other) _ ∙ ap (λ b. has_thread_nodes c other || b) (one_more proc threads other)

  pub lines-process : (threads : ℕ) → (with_process_nodes c proc threads).lines ≡ c.lines
  lines-process zero = refl
  lines-process (suc threads) = lines-process threads

  pub servers-process : (threads : ℕ) → (with_process_nodes c proc threads).servers ≡ c.servers
  servers-process zero = refl
  servers-process (suc threads) = servers-process threads

  pub users-process : (threads : ℕ) → (with_process_nodes c proc threads).users ≡ c.users
  users-process zero = refl
  users-process (suc threads) = users-process threads

  pub room-process : (threads : ℕ) → (with_process_nodes c proc threads).room ≡ c.room - 2 * threads
  room-process zero = omega arith
  room-process (suc threads) = let before = room-process threads in omega (arith, before)

-- as the threads of a process below a number lose their nodes
lost_here : (threads tid : ℕ) → (nat_lt tid threads || (threads == tid)) ≡ nat_lt tid (suc threads)
lost_here threads tid = grind (arith, nat_tests)

one_more_lost : (proc : Proc) (threads : ℕ) (other : Thread) → (is_thread_below proc threads other || is_same_thread (record { proc = proc; tid = threads }) other) ≡ is_thread_below proc (suc threads) other
one_more_lost proc threads other = elim (eqb_tells proc.user.0 other.proc.user.0) [
  | inr apart ↦ rw apart.0 refl
  | inl user ↦ elim (eqb_tells proc.num other.proc.num) [
    | inr apart ↦ rw (user.0, apart.0) refl
    | inl process ↦ rw (user.0, process.0) (lost_here threads other.tid)
  ]
]

none_lost : (proc : Proc) (other : Thread) → is_thread_below proc 0 other ≡ false
none_lost proc other = grind (arith, nat_tests)

and_true : (b : Bool) → (b && true) ≡ b
and_true true = refl
and_true false = refl

and_false : (b : Bool) → (b && false) ≡ false
and_false true = refl
and_false false = refl

neither : (a b c : Bool) → ((a && not b) && not c) ≡ (a && not (b || c))
neither false b c = refl
neither true true c = refl
neither true false c = refl

module _ (c : Queues) (proc : Proc) where
  pub has-below : (threads : ℕ) (other : Thread) → has_thread_nodes (without_nodes_below c proc threads) other ≡ (has_thread_nodes c other && not (is_thread_below proc threads other))
  has-below zero other = rw (none_lost proc other) (sym (and_true (has_thread_nodes c other)))
  has-below (suc threads) other =
      has-thread-removed (without_nodes_below c proc threads).threads (record { proc = proc; tid = threads }) other
      ∙ ap (λ b. b && not (is_same_thread (record { proc = proc; tid = threads }) other)) (has-below threads other)
      ∙ neither (has_thread_nodes c other) (is_thread_below proc threads other) (is_same_thread (record { proc = proc; tid = threads }) other)
      ∙ ap (λ b. has_thread_nodes c other && not b) (one_more_lost proc threads other)

  pub gone-below : (threads thread : ℕ) → thread < threads → has_thread_nodes (without_nodes_below c proc threads) (record { proc = proc; tid = thread }) ≡ false
  gone-below threads thread within =
      let below : nat_lt thread threads ≡ true = grind (arith, nat_tests, within) in
      has-below threads (record { proc = proc; tid = thread }) ∙ rw (is_same_proc-self proc, below) (and_false (has_thread_nodes c (record { proc = proc; tid = thread })))

  -- and nothing else is different but the room
  pub same-below : (threads : ℕ) → record (without_nodes_below c proc threads) { threads = c.threads; room = c.room } ≡ c
  same-below zero = refl
  same-below (suc threads) = same-below threads
