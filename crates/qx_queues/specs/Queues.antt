-- What contracts see of the managers' lines, and what its calls make of it.
use Rattle.std.specs.Prelude.{⊤, ◌≡◌, ℕ, zero, suc, ◌+◌, ◌-◌, ◌==◌, ◌&&◌, if◌then◌else◌, refl, IsTrue, Bool, false, List, [], ◌∷◌, ◌++◌, Option, Some, None, drop, is_some, map, replicate, slice_get, unwrap_or}
use Rattle.std.specs.Coded.{Coded, code_by, coded×, coded_ℕ, coded_list}
use Rattle.std.specs.FinMap as maps
use Rattle.std.specs.FinSet as set
use Rattle.std.specs.List.{list_any}
use Rattle.std.specs.Option.{option_or}
use Rattle.std.specs.Ordering.{nat_cmp, on, then_cmp}
use Rattle.std.specs.declared.cmp.Ordering.{Ordering}
use Rattle.qx_types.specs.contracts.names.Proc as proc_row
use Rattle.qx_types.specs.contracts.names.Thread as thread_row
use Rattle.qx_types.specs.contracts.outcome.Answer as answer_row
use Rattle.qx_types.specs.Managers.{manager_count, manager_number}
use Rattle.qx_types.specs.declared.limits.TheConstants.Limits.{THREADS}
use Rattle.qx_types.specs.declared.names.Proc.{Proc}
use Rattle.qx_types.specs.declared.names.Thread.{Thread}
use Rattle.qx_types.specs.declared.outcome.Answer.{Answer}
use Rattle.qx_isolation.specs.contracts.rows.Queued as queued_row
use Rattle.qx_machine.specs.contracts.rows.WaitingCall as call_row
use Rattle.qx_isolation.specs.declared.rows.OwnItem.{OwnItem}
use Rattle.qx_isolation.specs.declared.rows.OwnItem.TheVariants as item
use Rattle.qx_isolation.specs.declared.rows.Queued.{Queued}
use Rattle.qx_isolation.specs.declared.rows.ServerName.{ServerName}
use Rattle.qx_machine.specs.declared.rows.WaitingCall.{WaitingCall}
use Rattle.qx_machine.specs.Clients.{abandoned}
use Rattle.qx_isolation.specs.Lines.{into, line_at, with_line}
use Rattle.qx_machine.specs.Machine.{queued_item, rank}

-- processes in order
abbrev pub proc_cmp : Proc → Proc → Ordering
proc_cmp = then_cmp (on (λ p. p.user.0) nat_cmp) (on (λ p. p.num) nat_cmp)

-- threads in order
abbrev pub thread_cmp : Thread → Thread → Ordering
thread_cmp = then_cmp (on (λ t. t.proc) proc_cmp) (on (λ t. t.tid) nat_cmp)

-- server connections in order: each is a process at the manager of a number
abbrev pub server_cmp : Proc × ℕ → Proc × ℕ → Ordering
server_cmp = then_cmp (on (λ s. s.0) proc_cmp) (on (λ s. s.1) nat_cmp)

-- a user's call that waits in a pipe, or waited until it was answered
pub record UsersCall : Type 0 where
  pub user : ℕ
  pub call : WaitingCall

-- the answer to a user's call that waited: to which call of which thread it goes, and what it is
pub record UsersAnswer : Type 0 where
  pub thread : Thread
  pub call : ℕ
  pub answer : Answer

-- the lines under their managers' numbers, which threads and which server connections have nodes, the number that all users' are below,
-- how many more nodes can be made with no memory, who waits in each list of a pipe, in order, and who was answered what, in order
pub record Queues : Type 0 where
  pub lines : List (List Queued)
  pub threads : set.FinSet thread_cmp
  pub servers : set.FinSet server_cmp
  pub users : ℕ
  pub room : ℕ
  pub pipes : maps.FinMap nat_cmp (List UsersCall)
  pub answered : List UsersAnswer

-- the values are stored as the tuples of their fields
abbrev pub call_code : Coded UsersCall
call_code = code_by (ℕ × WaitingCall) (coded× coded_ℕ (call_row.the_row).coded) (λ c. (c.user, c.call)) (λ p. record { user = p.0; call = p.1 }) (λ _. refl)

abbrev pub answer_code : Coded UsersAnswer
answer_code = code_by (Thread × (ℕ × Answer)) (coded× (thread_row.the_row).coded (coded× coded_ℕ (answer_row.the_row).coded)) (λ a. (a.thread, (a.call, a.answer))) (λ p. record { thread = p.0; call = p.1.0; answer = p.1.1 }) (λ _. refl)

abbrev pub pipes_code : Coded (maps.FinMap nat_cmp (List UsersCall) × List UsersAnswer)
pipes_code = coded× (maps.code coded_ℕ (coded_list call_code)) (coded_list answer_code)

abbrev pub queues_code : Coded Queues
queues_code =
    code_by
    (List (List Queued) × (set.FinSet thread_cmp × (set.FinSet server_cmp × (ℕ × (ℕ × (maps.FinMap nat_cmp (List UsersCall) × List UsersAnswer))))))
    (coded× (coded_list (coded_list (queued_row.the_row).coded)) (coded× (set.code (thread_row.the_row).coded) (coded× (set.code (coded× (proc_row.the_row).coded coded_ℕ)) (coded× coded_ℕ (coded× coded_ℕ pipes_code)))))
    (λ c. (c.lines, (c.threads, (c.servers, (c.users, (c.room, (c.pipes, c.answered)))))))
    (λ p. record { lines = p.0; threads = p.1.0; servers = p.1.1.0; users = p.1.1.1.0; room = p.1.1.1.1.0; pipes = p.1.1.1.1.1.0; answered = p.1.1.1.1.1.1 })
    (λ _. refl)

-- nobody has nodes, the lines are empty, there is no pipe, and nobody was answered
abbrev pub no_queues : ℕ → Queues
no_queues users = record { lines = replicate manager_count []; threads = set.empty; servers = set.empty; users = users + 1; room = 0; pipes = maps.empty; answered = [] }

-- the line of the manager of a number
abbrev pub queues_line : Queues → ℕ → List Queued
queues_line c number = line_at c.lines number

-- one line changed, and nothing else
abbrev pub with_queues_line : Queues → ℕ → (List Queued → List Queued) → Queues
with_queues_line c number change = record c { lines = with_line c.lines number change }

-- a thread's message as it stands in a line
abbrev pub message_of : Thread → ℕ → Queued
message_of thread prio = queued_item thread.proc.user.0 (item.Message thread.proc.num thread.tid) prio

-- an unblock pulse of a thread as it stands in a line: it names the call that the thread is to be unblocked from
abbrev pub unblock_of : Thread → ℕ → ℕ → Queued
unblock_of thread call prio = queued_item thread.proc.user.0 (item.Unblock thread.proc.num thread.tid call) prio

-- the disconnect pulse of a process as it stands in a line
abbrev pub disconnect_of : Proc → ServerName → ℕ → Queued
disconnect_of proc server prio = queued_item proc.user.0 (item.Disconnect proc.num server) prio

abbrev pub sender_of : ℕ → OwnItem → Thread
sender_of user (item.Message process thread) = record { proc = record { user = record { 0 = user }; num = process }; tid = thread }
sender_of user (item.Unblock process thread call) = record { proc = record { user = record { 0 = user }; num = process }; tid = thread }
sender_of user (item.Disconnect process server) = record { proc = record { user = record { 0 = user }; num = process }; tid = 0 }

-- the thread that an item is of: the one that sent a message, or the one that a pulse asks to unblock; a disconnect pulse is of none, so that
-- of number 0 stands for its process
abbrev pub sender : Queued → Thread
sender entry = sender_of entry.user.0 entry.item

abbrev pub is_same_proc : Proc → Proc → Bool
is_same_proc one other = (one.user.0 == other.user.0) && (one.num == other.num)

abbrev pub is_same_thread : Thread → Thread → Bool
is_same_thread one other = (one.proc.user.0 == other.proc.user.0) && (one.proc.num == other.proc.num) && (one.tid == other.tid)

-- a field of an item, where the item is of the thread
abbrev pub own_field : {A : Type 0} → (OwnItem → Option A) → Thread → Queued → Option A
own_field field thread entry = if is_same_thread (sender entry) thread then field entry.item else None

-- that field of the first item of the thread that has it
abbrev pub first_field : {A : Type 0} → (OwnItem → Option A) → Thread → List Queued → Option A
first_field field thread [] = None
first_field field thread (first ∷ line) = option_or (own_field field thread first) (first_field field thread line)

abbrev pub as_message : OwnItem → Option Unit
as_message (item.Message process thread) = Some tt
as_message (item.Unblock process thread call) = None
as_message (item.Disconnect process server) = None

abbrev pub pulse_call : OwnItem → Option ℕ
pulse_call (item.Message process thread) = None
pulse_call (item.Unblock process thread call) = Some call
pulse_call (item.Disconnect process server) = None

-- a message of the thread stands in the line
abbrev pub stands : List Queued → Thread → Bool
stands line thread = is_some (first_field as_message thread line)

-- the call that the first unblock pulse of the thread in the line names
abbrev pub unblock_call : List Queued → Thread → Option ℕ
unblock_call line thread = first_field pulse_call thread line

abbrev pub no_other : OwnItem → Thread → List Queued → Type 0
no_other (item.Message process thread) sender line = stands line sender ≡ false
no_other (item.Unblock process thread call) sender line = unblock_call line sender ≡ None
no_other (item.Disconnect process server) sender line = ⊤

-- no item of the same thread and kind stands in the line; disconnect pulses of a process may stand there beside each other
abbrev pub IsGone : Queued → List Queued → Type 0
IsGone entry line = no_other entry.item (sender entry) line

-- who waits in the list of a number
abbrev pub waiting_in_list : Queues → ℕ → List UsersCall
waiting_in_list c list = unwrap_or (maps.get c.pipes list) []

-- a list in which calls may wait
abbrev pub HasList : Queues → ℕ → Type 0
HasList c list = IsTrue (maps.contains_key c.pipes list)

-- other calls wait in a list
abbrev pub with_waiting : Queues → ℕ → List UsersCall → Queues
with_waiting c list calls = record c { pipes = maps.insert c.pipes list calls }

-- the call of a process waits as one of a process that has ended
abbrev pub abandoned_by : Proc → UsersCall → UsersCall
abandoned_by proc own = if own.user == proc.user.0 then record own { call = abandoned proc.num own.call } else own

-- each call that waits, changed
unfoldable pub each_changed : (UsersCall → UsersCall) → maps.FinMap nat_cmp (List UsersCall) → maps.FinMap nat_cmp (List UsersCall)
each_changed change pipes = maps.from_entries (map (λ e. (e.0, map change e.1)) (maps.entries pipes))

-- the calls of a process wait as those of a process that has ended
abbrev pub with_abandoned : Queues → Proc → Queues
with_abandoned c proc = record c { pipes = each_changed (abandoned_by proc) c.pipes }

-- a list is gone
abbrev pub without_list : Queues → ℕ → Queues
without_list c list = record c { pipes = maps.remove c.pipes list }

-- these were answered, after all others
abbrev pub with_more_answers : Queues → List UsersAnswer → Queues
with_more_answers c answers = record c { answered = c.answered ++ answers }

-- the thread whose call it is
abbrev pub caller : UsersCall → Thread
caller own = record { proc = record { user = record { 0 = own.user }; num = own.call.process }; tid = own.call.thread }

-- a call of the thread is among these
abbrev pub has_call : List UsersCall → Thread → Bool
has_call all thread = list_any (λ own. is_same_thread (caller own) thread) all

-- a call of the process is among these
abbrev pub has_call_of : List UsersCall → Proc → Bool
has_call_of all proc = list_any (λ own. is_same_proc (caller own).proc proc) all

-- a call's answer goes to its thread
abbrev pub answer_to : UsersCall → Answer → UsersAnswer
answer_to own answer = record { thread = caller own; call = own.call.call; answer = answer }

-- an answer to the thread is among these
abbrev pub has_answer_among : List UsersAnswer → Thread → Bool
has_answer_among all thread = list_any (λ given. is_same_thread given.thread thread) all

-- no call of the thread waits in a pipe or has an answer that was not taken out yet
pub record HasNoListedCall (c : Queues) (thread : Thread) : Type 0 where
  pub waiting : (list : ℕ) → has_call (waiting_in_list c list) thread ≡ false
  pub answered : has_answer_among c.answered thread ≡ false

-- the thread has nodes
abbrev pub has_thread_nodes : Queues → Thread → Bool
has_thread_nodes c thread = set.contains c.threads thread

-- the thread's message was received: the thread has nodes, its message stands in no line, and no call of it waits or has an answer
pub record IsMessageReceived (c : Queues) (thread : Thread) : Type 0 where
  pub own : IsTrue (has_thread_nodes c thread)
  pub idle : (number : ℕ) → stands (queues_line c number) thread ≡ false
  pub no_call : HasNoListedCall c thread

-- the process has a disconnect node at the manager of a number
abbrev pub has_server_node : Queues → Proc → ℕ → Bool
has_server_node c proc number = set.contains c.servers (proc, number)

-- a thread of the process has nodes
abbrev pub HasThreadNodes : Queues → Proc → Type 0
HasThreadNodes c proc = (tid : ℕ) × IsTrue (has_thread_nodes c (record { proc = proc; tid = tid }))

-- a thread has nodes from now on
abbrev pub with_thread_nodes : Queues → Thread → Queues
with_thread_nodes c thread = record c { threads = set.insert c.threads thread; room = c.room - 2 }

-- the first threads of a process have nodes from now on
abbrev pub with_process_nodes : Queues → Proc → ℕ → Queues
with_process_nodes c proc zero = c
with_process_nodes c proc (suc threads) = with_thread_nodes (with_process_nodes c proc threads) (record { proc = proc; tid = suc threads })

-- a thread has no nodes any more, and there is room for those that it had
abbrev pub without_thread_nodes : Queues → Thread → Queues
without_thread_nodes c thread = record c { threads = set.remove c.threads thread; room = if has_thread_nodes c thread then c.room + 2 else c.room }

-- the threads of a process below a number have no nodes any more
abbrev pub without_nodes_below : Queues → Proc → ℕ → Queues
without_nodes_below c proc zero = c
without_nodes_below c proc (suc thread) = without_thread_nodes (without_nodes_below c proc thread) (record { proc = proc; tid = thread })

-- no thread of a process has nodes any more
unfoldable pub without_process_nodes : Queues → Proc → Queues
without_process_nodes c proc = without_nodes_below c proc (THREADS + 1)

-- a process has a disconnect node at a manager from now on
abbrev pub with_server_node : Queues → Proc → ℕ → Queues
with_server_node c proc number = record c { servers = set.insert c.servers (proc, number); room = if has_server_node c proc number then c.room else c.room - 1 }

-- it has none any more, and its disconnect pulse stands in the manager's line
abbrev pub with_disconnect : Queues → Proc → ServerName → ℕ → Queues
with_disconnect c proc server prio = record (with_queues_line c (manager_number server.manager) (λ line. into rank line (disconnect_of proc server prio))) { servers = set.remove c.servers (proc, manager_number server.manager) }

abbrev pub nodes_freed_by : OwnItem → ℕ
nodes_freed_by (item.Message process thread) = 0
nodes_freed_by (item.Unblock process thread call) = 0
nodes_freed_by (item.Disconnect process server) = 1

-- how many nodes are given back as an item is received: that of a disconnect pulse is
abbrev pub nodes_freed : Option Queued → ℕ
nodes_freed None = 0
nodes_freed (Some first) = nodes_freed_by first.item

-- the first item of a line is taken, and there is room for the node that is given back
abbrev pub without_first_item : Queues → ℕ → Queues
without_first_item c number = record (with_queues_line c number (drop 1)) { room = c.room + nodes_freed (slice_get (queues_line c number) 0) }
