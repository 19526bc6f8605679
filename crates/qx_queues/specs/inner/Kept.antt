-- What only the proofs need of Kept.
use Rattle.std.specs.Prelude.{◌≡◌, ◌≢◌, ◌⊎◌, ℕ, ◌==◌, ◌&&◌, not, Bool, true, false, Contains, List, Option, None, Some, is_some, map, option_map, slice_get, unwrap_or}
use Rattle.std.specs.FinMap as maps
use Rattle.std.specs.List.{list_any}
use Rattle.std.specs.Ordering.{nat_cmp}
use Rattle.qx_types.specs.Managers.{manager_number}
use Rattle.qx_types.specs.declared.names.Thread.{Thread}
use Rattle.qx_lists.specs.Table.{Table, ContainsList, ContainsNode, IsIn, nodes_of}
use Rattle.qx_lines.specs.declared.Line.{Line}
use Rattle.qx_lines.specs.Line.{IsLineOf, IsOwn, SameElsewhere, nodes_in}
use Rattle.qx_isolation.specs.declared.rows.OwnItem.{OwnItem}
use Rattle.qx_isolation.specs.declared.rows.OwnItem.TheVariants as item
use Rattle.qx_isolation.specs.declared.rows.Queued.{Queued}
use Rattle.qx_isolation.specs.Lines.{into, line_at}
use Rattle.qx_machine.specs.Machine.{queued_item, rank}
use Rattle.qx_queues.specs.Queues.{UsersAnswer, UsersCall, sender, unblock_call}
use Rattle.qx_queues.specs.declared.nodes.ThreadNodes.{ThreadNodes}
use Rattle.qx_queues.specs.Waiting.{Nothing, Waiting, call_carried, carried, idle, rank_of}
use Rattle.qx_queues.specs.inner.Waiting.{thread_carried, given_of, with_gone_call}
use Rattle.qx_queues.specs.Nodes.{Disconnect, Message, Owner, Unblock}
use Rattle.qx_queues.specs.Kept.{HasLoad}

abbrev pub nobodys : Waiting
nobodys = idle (queued_item 0 (item.Message 0 0) 0)

-- what a node stands for and carries
abbrev pub waiting_of_node : Table Waiting → ℕ → Waiting
waiting_of_node table node = unwrap_or (maps.get table.values node) nobodys

-- what a node stands for
abbrev pub entry_of_node : Table Waiting → ℕ → Queued
entry_of_node table node = (waiting_of_node table node).queued

-- the items of a line in their order
abbrev pub entries : Table Waiting → Line → List Queued
entries table line = map (entry_of_node table) (nodes_in table line)

-- the list is one of a line's own
abbrev pub is_own : ℕ → Line → Bool
is_own list line = list_any (λ own. list == own) line.lists

-- the list is one of some line's own
abbrev pub is_line : List Line → ℕ → Bool
is_line lines list = list_any (is_own list) lines

-- the list is one of those of the line of a number
abbrev pub IsListOf : List Line → ℕ → ℕ → Type 0
IsListOf lines number list = (line : Line) × (slice_get lines number ≡ Some line) × IsOwn line list

-- the list is a pipe's
abbrev pub is_pipes : List Line → ℕ → ℕ → Bool
is_pipes lines answered list = not (list == answered) && not (is_line lines list)

-- the call that waits with a node, with its user
abbrev pub users_call_carried : Waiting → UsersCall
users_call_carried waiting = record { user = waiting.queued.user.0; call = call_carried waiting }

abbrev pub call_at : Table Waiting → ℕ → UsersCall
call_at table node = users_call_carried (waiting_of_node table node)

-- the answer that a node carries
abbrev pub given_at : Table Waiting → ℕ → UsersAnswer
given_at table node = given_of (waiting_of_node table node)

-- who waits in each list of a pipe
unfoldable pub waiting_lists : Table Waiting → List Line → ℕ → maps.FinMap nat_cmp (List UsersCall)
waiting_lists table lines answered = maps.from_entries (map (λ e. (e.0, map (call_at table) e.1)) (maps.entries (maps.retain_keys table.lists (is_pipes lines answered))))

-- who was answered what
abbrev pub answered_calls : Table Waiting → ℕ → List UsersAnswer
answered_calls table answered = map (given_at table) (nodes_of table answered)

abbrev pub owner_in : Thread → OwnItem → Owner
owner_in thread (item.Message process number) = Message thread
owner_in thread (item.Unblock process number call) = Unblock thread
owner_in thread (item.Disconnect process server) = Disconnect thread.proc (manager_number server.manager)

-- into whose node an item is put
abbrev pub node_owner : Queued → Owner
node_owner entry = owner_in (sender entry) entry.item

-- whose items a node stands for: its owner's, and a disconnect node, until its pulse stands in a line, for a message of no thread
abbrev pub named : Owner → Owner
named (Message thread) = Message thread
named (Unblock thread) = Unblock thread
named (Disconnect proc number) = Message (record { proc = proc; tid = 0 })

-- a thread's item is put into the thread's node; the node of a disconnect pulse that stands in a line is nobody's any more
abbrev pub IsOwners : (Owner → Option ℕ) → ℕ → Owner → Type 0
IsOwners node_of node owner = named owner ≡ owner → node_of owner ≡ Some node

-- a node carries a call of the thread whose messages it stands for, which waits, or the answer to one
pub record Carries (is_answered : Bool) (waiting : Waiting) : Type 0 where
  pub own : node_owner waiting.queued ≡ Message (thread_carried waiting)
  pub load : HasLoad is_answered waiting.load

-- the lists of the lines and of the answered nodes are lists of the table, each only one's; an owner's node is in the table, is no other's,
-- and stands for an item of that owner; and in the lists stand nodes of messages and of unblock pulses, each its owner's, and of disconnect
-- pulses: all of them in those of the lines, and those of messages that carry calls or answers, as no other node does, in others
pub record AreListsOfTable (table : Table Waiting) (lines : List Line) (answered : ℕ) (node_of : Owner → Option ℕ) : Type 0 where
  pub line : (number : ℕ) (line : Line) → slice_get lines number ≡ Some line → IsLineOf rank_of table line
  pub apart : (one other list : ℕ) → IsListOf lines one list → IsListOf lines other list → one ≡ other
  pub answers : ContainsList table answered
  pub off_lines : is_line lines answered ≡ false
  pub there : (owner : Owner) (node : ℕ) → node_of owner ≡ Some node → ContainsNode table node
  pub names : (owner : Owner) (node : ℕ) → node_of owner ≡ Some node → node_owner (entry_of_node table node) ≡ named owner
  pub once : (owner other : Owner) (node : ℕ) → node_of owner ≡ Some node → node_of other ≡ Some node → other ≡ owner
  pub unlisted : (node : ℕ) → ((list : ℕ) → IsIn table list node → is_line lines list ≡ false → ⊥) → (waiting_of_node table node).load ≡ Nothing
  pub listed : (list node : ℕ) → IsIn table list node → (is_line lines list ≡ false → Carries (list == answered) (waiting_of_node table node)) × IsOwners node_of node (node_owner (entry_of_node table node))

-- the line of that number is the one of these
abbrev pub is_line_at : ℕ → Option ℕ → Bool
is_line_at number None = false
is_line_at number (Some other) = number == other

-- an unblock pulse of a thread stands in one line at most, and it is known in which
abbrev pub KnowsPulses : List (List Queued) → (Thread → Option ℕ) → Type 0
KnowsPulses lines asked = (thread : Thread) (number : ℕ) → is_some (unblock_call (line_at lines number) thread) ≡ is_line_at number (asked thread)

-- a free node was put into a line, and stands for an item
pub record PutIn (old new : Table Waiting) (before after : Line) (node : ℕ) (waiting : Waiting) : Type 0 where
  pub line : IsLineOf rank_of new after
  pub entries : entries new after ≡ into rank (entries old before) waiting.queued
  pub values : new.values ≡ maps.insert old.values node waiting
  pub room : new.room ≡ old.room
  pub among : (other : ℕ) → Contains (nodes_in new after) other → Contains (nodes_in old before) other ⊎ (other ≡ node)
  pub lists : (list : ℕ) → (IsOwn before list → ⊥) → maps.get new.lists list ≡ maps.get old.lists list
  pub own : after.lists ≡ before.lists

-- nodes left a line
pub record TakenOut (old new : Table Waiting) (before after : Line) (change : List ℕ → List ℕ) : Type 0 where
  pub line : IsLineOf rank_of new after
  pub nodes : nodes_in new after ≡ change (nodes_in old before)
  pub elsewhere : SameElsewhere old new before
  pub own : after.lists ≡ before.lists

-- the node is that of the messages of a thread with these nodes
abbrev pub is_message_node : ℕ → Option ThreadNodes → Bool
is_message_node node None = false
is_message_node node (Some own) = own.message == node

-- the node is that of the messages of one of these threads
abbrev pub is_message_of : List (Option ThreadNodes) → ℕ → Bool
is_message_of threads node = list_any (is_message_node node) threads

abbrev pub gone_if : Bool → Waiting → Waiting
gone_if true waiting = with_gone_call waiting
gone_if false waiting = waiting

-- the calls that wait with the message nodes of these threads are those of a process that has ended, and nothing else is different
pub record Abandoned (old new : Table Waiting) (threads : List (Option ThreadNodes)) : Type 0 where
  pub values : (node : ℕ) → maps.get new.values node ≡ option_map (gone_if (is_message_of threads node)) (maps.get old.values node)
  pub lists : new.lists ≡ old.lists
  pub room : new.room ≡ old.room

-- a call waits with the message node of a thread with these nodes
abbrev pub waits_with : Table Waiting → Option ThreadNodes → Bool
waits_with table None = false
waits_with table (Some own) = is_some (carried (waiting_of_node table own.message).load)

-- a list has other nodes, or is gone, and nothing else is different but what nodes carry that stand in no other list
pub record Moved (old new : Table Waiting) (list : ℕ) (nodes : Option (List ℕ)) : Type 0 where
  pub here : maps.get new.lists list ≡ nodes
  pub lists : (other : ℕ) → other ≢ list → maps.get new.lists other ≡ maps.get old.lists other
  pub stays : (other node : ℕ) → other ≢ list → IsIn old other node → waiting_of_node new node ≡ waiting_of_node old node
  pub there : (node : ℕ) → is_some (maps.get new.values node) ≡ is_some (maps.get old.values node)
  pub entries : (node : ℕ) → entry_of_node new node ≡ entry_of_node old node
  pub room : new.room ≡ old.room
