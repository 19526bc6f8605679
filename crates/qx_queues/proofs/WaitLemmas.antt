-- Who waits and who was answered, by the nodes; whose message was received.
use Rattle.std.proofs.Common.{◌≡◌, inl, inr, ℕ, ◌==◌, is_some, IfNone, Bool, true, false, List, [], ◌∷◌, Contains, Option, Some, None, map, unwrap_or, refl, sym, ◌∙◌, ap}
use Rattle.std.specs.FinMap as maps
use Rattle.std.specs.List.{list_any}
use Rattle.std.proofs.lemmas.Bool.{cases_Bool, and_parts}
use Rattle.qx_types.specs.declared.names.Thread.{Thread}
use Rattle.qx_lists.specs.Table.{Table, IsFree, IsIn, nodes_of}
use Rattle.qx_lists.proofs.ListLemmas.{contains_first, contains_later}
use Rattle.qx_lines.specs.declared.Line.{Line}
use Rattle.qx_lines.specs.Line.{nodes_in}
use Rattle.qx_isolation.specs.Lines.{line_at}
use Rattle.qx_isolation.specs.declared.rows.OwnItem.{OwnItem}
use Rattle.qx_isolation.specs.declared.rows.OwnItem.TheVariants as item
use Rattle.qx_isolation.specs.declared.rows.Queued.{Queued}
use Rattle.qx_machine.specs.declared.rows.WaitingCall.{WaitingCall}
use Rattle.qx_queues.specs.inner.Kept.{Carries, AreListsOfTable, answered_calls, call_at, entries, given_at, is_pipes, owner_in, node_owner, users_call_carried as call_with, waiting_of_node, waiting_lists}
use Rattle.qx_queues.specs.Kept.{HasLoad}
use Rattle.qx_queues.specs.Nodes.{Message, Owner, node_of}
use Rattle.qx_queues.specs.declared.nodes.UserNodes.{UserNodes}
use Rattle.qx_queues.specs.Queues.{IsMessageReceived, UsersAnswer, UsersCall, as_message, caller, has_call, has_answer_among, is_same_thread, sender_of, stands}
use Rattle.qx_queues.specs.Waiting.{Answered, Load, Nothing, Waiting, Waits, carried, carrying, no_call, waits_in}
use Rattle.qx_queues.specs.inner.Waiting.{nobody}
use Rattle.qx_queues.specs.Waits.{is_users_call, users_call}
use Rattle.qx_queues.proofs.BesideLemmas.{get-waiting_lists, nodes_waiting, pipes_apart}
use Rattle.qx_queues.proofs.CallLemmas.{differs_of, equal_itself, value_of}
use Rattle.qx_queues.proofs.EntryLemmas.{is_same_thread-same, owned_thread, reads-message}
use Rattle.qx_queues.proofs.KeptLemmas.{IsFree-own, answered-owner, at_any, gone-own, no_call-message, owners-node, waits-owner}
use Rattle.qx_queues.proofs.OwnLemmas.{in_no_line}
use Rattle.qx_queues.proofs.TableLemmas.{nowhere, some_same}

-- one that passes a test, among what nodes stand for
any-node : {B : Type 0} (test : B → Bool) (f : ℕ → B) (nodes : List ℕ) → list_any test (map f nodes) ≡ true → (node : ℕ) × (Contains nodes node × (test (f node) ≡ true))
any-node test f [] some = absurd (cc)
any-node test f (x ∷ xs) some = elim (cases_Bool (test (f x))) [
  | inl is ↦ (x, (contains_first x xs, is))
  | inr not ↦ let later = any-node test f xs (rw not at some) in (later.0, (contains_later x later.0 xs later.1.0, later.1.1))
]

-- a node with which a call waits in a list
pub record Found (t : Table Waiting) (node_of : Owner → Option ℕ) (list : ℕ) (test : UsersCall → Bool) : Type 0 where
  pub node : ℕ
  pub at : IsIn t list node
  pub carries : HasLoad false (waiting_of_node t node).load
  pub own : node_of (Message (caller (call_at t node))) ≡ Some node
  pub is : test (call_at t node) ≡ true

module _ {answered : ℕ} (t : Table Waiting) (lines : List Line) (node_of : Owner → Option ℕ) (kept : AreListsOfTable t lines answered node_of) where
  -- the nodes of a pipe's list carry calls that wait, and these are what waits there
  module _ (list : ℕ) (pipes : is_pipes lines answered list ≡ true) where
    pub carries-call : (node : ℕ) → IsIn t list node → Carries false (waiting_of_node t node)
    carries-call node at = let off = pipes_apart lines answered list pipes in rw (differs_of list answered off.1) at ((kept.listed list node at).0 off.0)

    pub waiting-are : unwrap_or (maps.get (waiting_lists t lines answered) list) [] ≡ map (call_at t) (nodes_of t list)
    waiting-are = let off = pipes_apart lines answered list pipes in nodes_waiting t lines answered list (differs_of list answered off.1) off.0

    pub caller-owns : (node : ℕ) → IsIn t list node → node_of (Message (caller (call_at t node))) ≡ Some node
    caller-owns node at = owners-node t lines node_of kept list node at (Message (caller (call_at t node))) refl (waits-owner (waiting_of_node t node) (carries-call node at))

  pub found : (list : ℕ) (test : UsersCall → Bool) → list_any test (unwrap_or (maps.get (waiting_lists t lines answered) list) []) ≡ true → Found t node_of list test
  found list test some = elim (cases_Bool (is_pipes lines answered list)) [
    | inr off ↦ let clash : false ≡ true = rw (get-waiting_lists t lines answered list, off) at some in absurd (cc)
    | inl pipes ↦
        let node = any-node test (call_at t) (nodes_of t list) (rw (waiting-are list pipes) at some) in
        record { node = node.0; at = node.1.0; carries = (carries-call list pipes node.0 node.1.0).load; own = caller-owns list pipes node.0 node.1.0; is = node.1.1 }
  ]

  -- an answered node carries its answer, and is its thread's
  pub carries-answer : (node : ℕ) → IsIn t answered node → Carries true (waiting_of_node t node)
  carries-answer node at = rw (equal_itself answered) at ((kept.listed answered node at).0 kept.off_lines)

  pub given-owns : (node : ℕ) → IsIn t answered node → node_of (Message (given_at t node).thread) ≡ Some node
  given-owns node at = owners-node t lines node_of kept answered node at (Message (given_at t node).thread) refl (answered-owner (waiting_of_node t node) (carries-answer node at))

  -- a thread whose node stands in no list has no message in a line and no call that waits or has an answer
  module _ (thread : Thread) (node : ℕ) (has : node_of (Message thread) ≡ Some node) (free : IsFree t node) where
    not_in : (list other : ℕ) (one : Thread) → node_of (Message one) ≡ Some other → IsIn t list other → is_same_thread one thread ≡ true → ⊥
    not_in list other one own at same =
        let is : other ≡ node = some_same other node (node_of (Message thread)) (rw (is_same_thread-same one thread same) at own) has in
        nowhere t free list (rw is at at)

    pub received-idle : (number : ℕ) → stands (line_at (map (entries t) lines) number) thread ≡ false
    received-idle number = at_any t (λ line. stands line thread ≡ false) refl (λ line. gone-own as_message thread (Message thread) (reads-message thread) t lines node_of node kept has line (nodes_in t line) (λ other at. at) (in_no_line t line (nowhere t free))) lines number

    pub received-waits : (list : ℕ) → has_call (unwrap_or (maps.get (waiting_lists t lines answered) list) []) thread ≡ false
    received-waits list = elim (cases_Bool (has_call (unwrap_or (maps.get (waiting_lists t lines answered) list) []) thread)) [
      | inr none ↦ none
      | inl some ↦ let one = found list (λ own. is_same_thread (caller own) thread) some in absurd (not_in list one.node _ one.own one.at one.is)
    ]

    pub received-answered : has_answer_among (answered_calls t answered) thread ≡ false
    received-answered = elim (cases_Bool (has_answer_among (answered_calls t answered) thread)) [
      | inr none ↦ none
      | inl some ↦ let one = any-node (λ given. is_same_thread given.thread thread) (given_at t) (nodes_of t answered) some in absurd (not_in answered one.0 _ (given-owns one.0 one.1.0) one.1.0 one.1.1)
    ]

-- and the node of a thread whose message was received stands in none
pub IsFree-received : {answered : ℕ} (t : Table Waiting) (lines : List Line) (own : List UserNodes) (thread : Thread) (node : ℕ) → AreListsOfTable t lines answered (node_of own) → node_of own (Message thread) ≡ Some node → IsMessageReceived (value_of t lines answered own) thread → IsFree t node
IsFree-received t lines own thread node kept has received = IsFree-own as_message thread (Message thread) (reads-message thread) t lines (node_of own) node kept has received.idle (no_call-message t lines (node_of own) thread node kept has received.no_call.waiting received.no_call.answered)

-- whose the node is that a call comes to wait with, and what it carries then
module _ (entry : Queued) (user : ℕ) (call : WaitingCall) (own : node_owner entry ≡ Message (caller (users_call user call))) where
  user_is : entry.user.0 ≡ user
  user_is = of entry.item own
    where
      of : (it : OwnItem) → owner_in (sender_of entry.user.0 it) it ≡ Message (caller (users_call user call)) → entry.user.0 ≡ user
      of (item.Message process number) is = ap (λ owner. (owned_thread owner nobody).proc.user.0) is
      of (item.Unblock process number asked) is = absurd (cc)
      of (item.Disconnect process server) is = absurd (cc)

  pub call-carried : call_with (carrying entry (Waits call)) ≡ users_call user call
  call-carried = ap (λ u. users_call u call) user_is

  pub waits-carried : Carries false (carrying entry (Waits call))
  waits-carried = record { own = own ∙ ap (λ u. Message (caller (users_call u call))) (sym user_is); load = tt }

-- and the node of a thread's messages carries an answer to the thread
pub answer-carried : (entry : Queued) (given : UsersAnswer) → node_owner entry ≡ Message given.thread → Carries true (carrying entry (Answered given))
answer-carried entry given own = record { own = own; load = tt }

-- a call of that number waits where the node of its thread carries it
waits_own : (number : ℕ) (load : Load) → HasLoad false load → ((unwrap_or (carried load) no_call).call == number) ≡ waits_in number load
waits_own number Nothing has = absurd has
waits_own number (Waits call) has = refl
waits_own number (Answered given) has = absurd has

module _ {answered : ℕ} (t : Table Waiting) (lines : List Line) (node_of : Owner → Option ℕ) (kept : AreListsOfTable t lines answered node_of) (thread : Thread) where
  -- where a node of the thread is found, it is the thread's
  found-own : (list : ℕ) (test : UsersCall → Bool) (one : Found t node_of list test) → is_same_thread (caller (call_at t one.node)) thread ≡ true → node_of (Message thread) ≡ Some one.node
  found-own list test one same = ap (λ other. node_of (Message other)) (sym (is_same_thread-same _ thread same)) ∙ one.own

  pub waits-once : ((one two node : ℕ) → IsIn t one node → IsIn t two node → one ≡ two) → (one other : ℕ) → has_call (unwrap_or (maps.get (waiting_lists t lines answered) one) []) thread ≡ true → has_call (unwrap_or (maps.get (waiting_lists t lines answered) other) []) thread ≡ true → one ≡ other
  waits-once apart one other here there =
      let first = found t lines node_of kept one (λ own. is_same_thread (caller own) thread) here in
      let second = found t lines node_of kept other (λ own. is_same_thread (caller own) thread) there in
      let same : second.node ≡ first.node = some_same _ _ (node_of (Message thread)) (found-own other _ second second.is) (found-own one _ first first.is) in
      apart one other first.node first.at (rw same at second.at)

  pub waits-nowhere : (number : ℕ) → ((node : ℕ) → node_of (Message thread) ≡ Some node → waits_in number (waiting_of_node t node).load ≡ false) → (list : ℕ) → list_any (is_users_call thread number) (unwrap_or (maps.get (waiting_lists t lines answered) list) []) ≡ false
  waits-nowhere number not list = elim (cases_Bool (list_any (is_users_call thread number) (unwrap_or (maps.get (waiting_lists t lines answered) list) []))) [
    | inr none ↦ none
    | inl some ↦
        let one = found t lines node_of kept list (is_users_call thread number) some in
        let is = and_parts _ _ one.is in
        let clash : true ≡ false = sym is.1 ∙ waits_own number (waiting_of_node t one.node).load one.carries ∙ not one.node (found-own list _ one is.0) in
        absurd (cc)
  ]

pub if_none : (P : Type 0) (o : Option ℕ) → (is_some o ≡ false → P) → IfNone o (P)
if_none P None holds = holds refl
if_none P (Some x) holds = tt
