-- How the lines and the nodes stand in the table, as a node is made, put into a line, taken out of one or given back.
use Rattle.std.proofs.Common.{◌≡◌, ◌≢◌, ◌⊎◌, ◌==◌, ◌||◌, ◌++◌, subst, inl, inr, ℕ, zero, suc, Bool, true, false, nat_eq, List, [], ◌∷◌, Contains, Option, Some, None, option_map, map, drop, length, replicate, slice_get, slice_set, unwrap_or, is_some, IfSome, refl, sym, ◌∙◌, ap, arith}
use Rattle.std.specs.FinMap as maps
use Rattle.std.specs.List.{IsDistinct, AllByRecursion}
use Rattle.std.specs.Ordering.{nat_cmp}
use Rattle.std.proofs.lemmas.Bool.{cases_Bool}
use Rattle.std.proofs.lemmas.Bool.Decides.{eqb_tells}
use Rattle.std.proofs.lemmas.Option.{same_Some, slice_get-map}
use Rattle.qx_types.specs.declared.names.Proc.{Proc}
use Rattle.qx_types.specs.declared.names.Prio.{Prio}
use Rattle.qx_types.specs.declared.names.Thread.{Thread}
use Rattle.qx_lists.specs.Table.{Table, ContainsList, ContainsNode, IsFree, IsIn, nodes_of, without}
use Rattle.qx_lists.proofs.ListLemmas.{contains_first, contains_later, contains_rest, nowhere_from}
use Rattle.qx_lists.proofs.MapLemmas.{get-remove_same}
use Rattle.qx_lines.specs.declared.Line.{Line}
use Rattle.qx_lines.specs.Line.{IsInLine, IsLineOf, IsOwn, SameElsewhere, nodes_in}
use Rattle.qx_lines.proofs.LineFacts.{IsLineOf-same, IsLineOf-elsewhere, apart_from_new, nodes_in-same}
use Rattle.qx_isolation.specs.declared.rows.OwnItem.{OwnItem}
use Rattle.qx_isolation.specs.declared.rows.OwnItem.TheVariants as item
use Rattle.qx_isolation.specs.declared.rows.Queued.{Queued}
use Rattle.qx_isolation.specs.declared.rows.ServerName.{ServerName}
use Rattle.qx_machine.specs.Machine.{line_without, rank}
use Rattle.qx_isolation.specs.Lines.{into, line_at, with_line}
use Rattle.qx_queues.specs.Queues.{IsGone, caller, has_call, has_answer_among, message_of, pulse_call, first_field, is_same_thread, as_message, no_other, sender, sender_of, stands, own_field, unblock_call}
use Rattle.qx_queues.specs.inner.Kept.{Carries, AreListsOfTable, IsListOf, IsOwners, PutIn, TakenOut, answered_calls, call_at, given_at, waiting_lists, entries, entry_of_node, is_line, is_own, named, nobodys, owner_in, node_owner, users_call_carried, waiting_of_node}
use Rattle.qx_queues.specs.Kept.{HasLoad}
use Rattle.qx_queues.specs.Waiting.{Answered, Load, Nothing, Waiting, Waits, carried, idle, no_call, rank_of}
use Rattle.qx_queues.specs.inner.Waiting.{thread_of_load, thread_carried, given_in, given_of, ranked}
use Rattle.qx_queues.specs.Nodes.{Disconnect, Message, Owner, Unblock}
use Rattle.qx_queues.proofs.BesideLemmas.{SameCalls, is_line-more, is_line-numbered, is_line-set, line_of, nodes_waiting, same_calls}
use Rattle.qx_queues.proofs.EntryLemmas.{Reads, any-there, differs_from, entry-message, is_same_thread-self, map-drop, owned_thread, reads-call, reads-message, some_of, field-entry, field-find, field-part}
use Rattle.qx_queues.proofs.LineLemmas.{is_this, other-unblock, owner-this, this-message, this-unblock, without-absent, without-map}
use Rattle.qx_queues.proofs.NodesLemmas.{none_of}
use Rattle.qx_queues.proofs.OwnLemmas.{in_no_line, in_own, nodes_in-none, not_own, own_in, own_list}
use Rattle.qx_queues.proofs.TableLemmas.{SameLists, absent_is, contains-insert, contains-other, contains-self, entries-kept, entry-other, entry-same, inserted, line-kept, none_some, nowhere, removed, some_same, waiting-other, waiting-same}

-- a place that was written, and the others
pub slice_get-set : {A : Type 0} (xs : List A) (i j : ℕ) (x y : A) → slice_get (slice_set xs i x) j ≡ Some y → ((j ≡ i) × (y ≡ x)) ⊎ ((j ≢ i) × (slice_get xs j ≡ Some y))
slice_get-set [] i j x y is = absurd (none_some y None refl is)
slice_get-set (z ∷ zs) zero zero x y is = inl (refl, sym (same_Some x y is))
slice_get-set (z ∷ zs) zero (suc j) x y is = inr (λ same. omega (arith, same), is)
slice_get-set (z ∷ zs) (suc i) zero x y is = inr (λ same. omega (arith, same), is)
slice_get-set (z ∷ zs) (suc i) (suc j) x y is = elim (slice_get-set zs i j x y is) [
  | inl here ↦ inl (ap suc here.0, here.1)
  | inr there ↦ inr (λ same. there.0 (omega (arith, same)), there.1)
]

slice_get-more : {A : Type 0} (xs : List A) (x y : A) (i : ℕ) → slice_get (xs ++ x ∷ []) i ≡ Some y → ((i ≡ length xs) × (y ≡ x)) ⊎ (slice_get xs i ≡ Some y)
slice_get-more [] x y zero is = inl (refl, sym (same_Some x y is))
slice_get-more [] x y (suc i) is = absurd (none_some y None refl is)
slice_get-more (z ∷ zs) x y zero is = inr is
slice_get-more (z ∷ zs) x y (suc i) is = elim (slice_get-more zs x y i is) [
  | inl last ↦ inl (omega (arith, last.0), last.1)
  | inr there ↦ inr there
]

-- the items of the line of a number
pub line_at-shown : (t : Table Waiting) (lines : List Line) (number : ℕ) (line : Line) → slice_get lines number ≡ Some line → line_at (map (entries t) lines) number ≡ entries t line
line_at-shown t lines number line is = ap (λ o. unwrap_or o []) (slice_get-map (entries t) lines number ∙ ap (option_map (entries t)) is)

-- lines that show what they showed, but for one
shown-set : (old new : Table Waiting) (lines : List Line) (number : ℕ) (after : Line) → ((other : ℕ) (line : Line) → other ≢ number → slice_get lines other ≡ Some line → entries new line ≡ entries old line) → map (entries new) (slice_set lines number after) ≡ slice_set (map (entries old) lines) number (entries new after)
shown-set old new [] number after same = refl
shown-set old new (line ∷ lines) zero after same = ap (λ l. entries new after ∷ l) (all lines (λ other line at. same (suc other) line (λ is. omega (arith, is)) at))
  where
    all : (lines : List Line) → ((other : ℕ) (line : Line) → slice_get lines other ≡ Some line → entries new line ≡ entries old line) → map (entries new) lines ≡ map (entries old) lines
    all [] same = refl
    all (line ∷ lines) same = rw (same zero line refl, all lines (λ other line at. same (suc other) line at)) refl
shown-set old new (line ∷ lines) (suc number) after same = rw (same zero line (λ is. omega (arith, is)) refl, shown-set old new lines number after (λ other line differs at. same (suc other) line (λ is. differs (omega (arith, is))) at)) refl

-- all lines show what they showed
pub shown-kept : (old new : Table Waiting) (lines : List Line) → ((line : Line) → entries new line ≡ entries old line) → map (entries new) lines ≡ map (entries old) lines
shown-kept old new [] same = refl
shown-kept old new (line ∷ lines) same = rw (same line, shown-kept old new lines same) refl

-- the same nodes in another room
pub Kept-room : {answered : ℕ} (old new : Table Waiting) (lines : List Line) (node_of : Owner → Option ℕ) → new.lists ≡ old.lists → new.values ≡ old.values → AreListsOfTable old lines answered node_of → AreListsOfTable new lines answered node_of
Kept-room old new lines node_of same_lists values kept = record {
  line = λ number line at. IsLineOf-same rank_of old new line (kept.line number line at) (λ list own. rw same_lists refl) (λ node in_line. rw values refl);
  apart = kept.apart;
  answers = rw same_lists kept.answers;
  off_lines = kept.off_lines;
  there = rw values kept.there;
  names = rw values kept.names;
  once = kept.once;
  unlisted = rw (same_lists, values) kept.unlisted;
  listed = rw (same_lists, values) kept.listed;
}

-- the same nodes of the same owners
pub Kept-owners : {answered : ℕ} (t : Table Waiting) (lines : List Line) (node_of after : Owner → Option ℕ) → ((owner : Owner) → after owner ≡ node_of owner) → AreListsOfTable t lines answered node_of → AreListsOfTable t lines answered after
Kept-owners {answered} t lines node_of after same kept =
    let all : node_of ≡ after = λ i owner. sym (same owner) i in
    subst (AreListsOfTable t lines answered) all kept

-- a node that stands in a list is its owner's, where that is a thread
pub owners-node : {answered : ℕ} (t : Table Waiting) (lines : List Line) (node_of : Owner → Option ℕ) → AreListsOfTable t lines answered node_of → (list node : ℕ) → IsIn t list node → (owner : Owner) → named owner ≡ owner → node_owner (entry_of_node t node) ≡ owner → node_of owner ≡ Some node
owners-node t lines node_of kept list node at owner own_name is = ap node_of (sym is) ∙ (kept.listed list node at).1 (ap named is ∙ own_name ∙ sym is)

pub owners-in : {answered : ℕ} (t : Table Waiting) (lines : List Line) (node_of : Owner → Option ℕ) → AreListsOfTable t lines answered node_of → (line : Line) (node : ℕ) → IsInLine t line node → (owner : Owner) → named owner ≡ owner → node_owner (entry_of_node t node) ≡ owner → node_of owner ≡ Some node
owners-in t lines node_of kept line node at = let own = in_own t line node at in owners-node t lines node_of kept own.0 node own.2

-- a node of unblock pulses carries no call
pub no_call-unblock : {answered : ℕ} (t : Table Waiting) (lines : List Line) (node_of : Owner → Option ℕ) (thread : Thread) (node : ℕ) → AreListsOfTable t lines answered node_of → node_of (Unblock thread) ≡ Some node → (list : ℕ) → IsIn t list node → is_line lines list ≡ false → Carries (list == answered) (waiting_of_node t node) → ⊥
no_call-unblock t lines node_of thread node kept has list at apart carries = let clash : Message (thread_carried (waiting_of_node t node)) ≡ Unblock thread = sym carries.own ∙ kept.names (Unblock thread) node has in cc

-- whose the call is that waits with a node, and whose the answer that it carries
waits-caller : (user : ℕ) (load : Load) → HasLoad false load → thread_of_load user load ≡ caller (record { user = user; call = unwrap_or (carried load) no_call })
waits-caller user Nothing has = absurd has
waits-caller user (Waits call) has = refl
waits-caller user (Answered given) has = absurd has

answered-caller : (user : ℕ) (load : Load) → HasLoad true load → thread_of_load user load ≡ (given_in load).thread
answered-caller user Nothing has = absurd has
answered-caller user (Waits call) has = absurd has
answered-caller user (Answered given) has = refl

pub waits-owner : (waiting : Waiting) → Carries false waiting → node_owner waiting.queued ≡ Message (caller (users_call_carried waiting))
waits-owner waiting carries = carries.own ∙ ap Message (waits-caller waiting.queued.user.0 waiting.load carries.load)

pub answered-owner : (waiting : Waiting) → Carries true waiting → node_owner waiting.queued ≡ Message (given_of waiting).thread
answered-owner waiting carries = carries.own ∙ ap Message (answered-caller waiting.queued.user.0 waiting.load carries.load)

-- nor does the node of a thread's messages, where none of the thread waits or was answered
module _ {answered : ℕ} (t : Table Waiting) (lines : List Line) (node_of : Owner → Option ℕ) (thread : Thread) (node : ℕ) (kept : AreListsOfTable t lines answered node_of) (has : node_of (Message thread) ≡ Some node) where
  of_thread : (own : Thread) → node_owner (entry_of_node t node) ≡ Message own → is_same_thread own thread ≡ true
  of_thread own is = ap (λ other. is_same_thread other thread) (ap (λ owner. owned_thread owner thread) (sym is ∙ kept.names (Message thread) node has)) ∙ is_same_thread-self thread

  pub no_call-message : ((list : ℕ) → has_call (unwrap_or (maps.get (waiting_lists t lines answered) list) []) thread ≡ false) → has_answer_among (answered_calls t answered) thread ≡ false → (list : ℕ) → IsIn t list node → is_line lines list ≡ false → Carries (list == answered) (waiting_of_node t node) → ⊥
  no_call-message waiting unanswered list at apart carries = elim (eqb_tells list answered) [
    | inl same ↦
        let here : Contains (nodes_of t answered) node = rw same.1 at at in
        let now : Carries true (waiting_of_node t node) = rw same.0 at carries in
        let stands : has_answer_among (answered_calls t answered) thread ≡ true = any-there (λ given. is_same_thread given.thread thread) (given_at t) (nodes_of t answered) node here (of_thread (given_at t node).thread (answered-owner (waiting_of_node t node) now)) in
        let clash : true ≡ false = sym stands ∙ unanswered in
        cc
    | inr differs ↦
        let shown : unwrap_or (maps.get (waiting_lists t lines answered) list) [] ≡ map (call_at t) (nodes_of t list) = nodes_waiting t lines answered list differs.0 apart in
        let now : Carries false (waiting_of_node t node) = rw differs.0 at carries in
        let stands : has_call (unwrap_or (maps.get (waiting_lists t lines answered) list) []) thread ≡ true = rw shown (any-there (λ own. is_same_thread (caller own) thread) (call_at t) (nodes_of t list) node at (of_thread (caller (call_at t node)) (waits-owner (waiting_of_node t node) now))) in
        let clash : true ≡ false = sym stands ∙ waiting list in
        cc
  ]

  -- where it stands in no list, it stands for the thread's message, and carries nothing
  pub ranked-message : IsFree t node → (prio : Prio) → ranked prio (waiting_of_node t node) ≡ idle (message_of thread prio.0)
  ranked-message free prio = rw (kept.unlisted node (λ list at apart. nowhere t free list at)) (ap idle (entry-message thread prio (entry_of_node t node) (kept.names (Message thread) node has)))

-- and stays so while it stands for the same
pub same-owners : (old new : Table Waiting) (node_of : Owner → Option ℕ) (node : ℕ) → entry_of_node new node ≡ entry_of_node old node → IsOwners node_of node (node_owner (entry_of_node old node)) → IsOwners node_of node (node_owner (entry_of_node new node))
same-owners old new node_of node same was = subst (λ entry. IsOwners node_of node (node_owner entry)) (sym same) was

-- one that stands for a disconnect pulse is nobody's
pub nobodys-disconnect : (entry : Queued) (process : ℕ) (server : ServerName) → entry.item ≡ item.Disconnect process server → named (node_owner entry) ≢ node_owner entry
nobodys-disconnect entry process server is = subst (λ it. named (owner_in (sender_of entry.user.0 it) it) ≢ owner_in (sender_of entry.user.0 it) it) (sym is) (λ same. cc)

named-twice : (owner : Owner) → named (named owner) ≡ named owner
named-twice (Message thread) = refl
named-twice (Unblock thread) = refl
named-twice (Disconnect proc number) = refl

-- a disconnect node stands in no list before its pulse does
pub IsFree-disconnect : {answered : ℕ} (t : Table Waiting) (lines : List Line) (node_of : Owner → Option ℕ) (proc : Proc) (number node : ℕ) → AreListsOfTable t lines answered node_of → node_of (Disconnect proc number) ≡ Some node → IsFree t node
IsFree-disconnect t lines node_of proc number node kept has = record {
  there = kept.there (Disconnect proc number) node has;
  in_no_list = nowhere_from t.lists node (λ list at.
      let clash : Message (record { proc = proc; tid = 0 }) ≡ Disconnect proc number = kept.once (Disconnect proc number) _ node has (owners-node t lines node_of kept list node at _ refl (kept.names (Disconnect proc number) node has)) in
      cc);
}

-- what a line tells of a thread is told by the node of its messages or of its unblock pulses
module _ {A : Type 0} {answered : ℕ} (part : OwnItem → Option A) (thread : Thread) (owner : Owner) (reads : Reads part thread owner) (t : Table Waiting) (lines : List Line) (node_of : Owner → Option ℕ) (kept : AreListsOfTable t lines answered node_of) where
  found-own : (a : A) (line : Line) (xs : List ℕ) → ((x : ℕ) → Contains xs x → IsInLine t line x) → first_field part thread (map (entry_of_node t) xs) ≡ Some a → (x : ℕ) × (Contains xs x × ((node_of owner ≡ Some x) × (part (entry_of_node t x).item ≡ Some a)))
  found-own a line xs members is =
      let found = field-find (entry_of_node t) part thread a xs is in
      let own = reads.of (entry_of_node t found.0) (ap is_some found.1.1) in
      (found.0, (found.1.0, (owners-in t lines node_of kept line found.0 (members found.0 found.1.0) owner reads.own_name own, field-part (is_same_thread (sender (entry_of_node t found.0)) thread) (part (entry_of_node t found.0).item) a found.1.1)))

  pub stands-owned : (number : ℕ) → is_some (first_field part thread (line_at (map (entries t) lines) number)) ≡ true → node_of owner ≡ None → ⊥
  stands-owned number some none =
      let line = line_there lines number some in
      let told = some_of (first_field part thread (entries t line.0)) (sym (ap (λ l. is_some (first_field part thread l)) (line_at-shown t lines number line.0 line.1)) ∙ some) in
      let found = found-own told.0 line.0 (nodes_in t line.0) (λ x at. at) told.1 in
      none_some found.0 (node_of owner) none found.1.1.0
    where
      line_there : (lines : List Line) (number : ℕ) → is_some (first_field part thread (line_at (map (entries t) lines) number)) ≡ true → (line : Line) × (slice_get lines number ≡ Some line)
      line_there [] number some = cc
      line_there (line ∷ lines) zero some = (line, refl)
      line_there (line ∷ lines) (suc number) some = line_there lines number some

-- what the lines tell of a thread, and the node of its messages or of its unblock pulses
module _ {A : Type 0} {answered : ℕ} (part : OwnItem → Option A) (thread : Thread) (owner : Owner) (reads : Reads part thread owner) (t : Table Waiting) (lines : List Line) (node_of : Owner → Option ℕ) (node : ℕ) (kept : AreListsOfTable t lines answered node_of) (has : node_of owner ≡ Some node) where
  tells : is_some (own_field part thread (entry_of_node t node)) ≡ true
  tells = reads.from (entry_of_node t node) (kept.names owner node has ∙ reads.own_name)

  -- where nothing is told of the thread, the node stands in no list, unless it carries a call
  pub IsFree-own : ((number : ℕ) → is_some (first_field part thread (line_at (map (entries t) lines) number)) ≡ false) → ((list : ℕ) → IsIn t list node → is_line lines list ≡ false → Carries (list == answered) (waiting_of_node t node) → ⊥) → IsFree t node
  IsFree-own idle no_call = record {
    there = kept.there owner node has;
    in_no_list = nowhere_from t.lists node (λ list at. elim (cases_Bool (is_line lines list)) [
      | inr apart ↦ no_call list at apart ((kept.listed list node at).0 apart)
      | inl is ↦
          let of = line_of lines list is in
          let in_line : is_some (first_field part thread (entries t of.1.0)) ≡ true = field-entry (entry_of_node t) part thread (nodes_in t of.1.0) node (own_in t of.1.0 list node of.1.2 at) tells in
          let clash : true ≡ false = sym in_line ∙ ap (λ l. is_some (first_field part thread l)) (sym (line_at-shown t lines of.0 of.1.0 of.1.1)) ∙ idle of.0 in
          absurd (cc)
    ]);
  }

  only : (line : Line) (x : ℕ) → IsInLine t line x → node_owner (entry_of_node t x) ≡ owner → x ≡ node
  only line x at is = some_same x node (node_of owner) (owners-in t lines node_of kept line x at owner reads.own_name is) has

  -- where something is, the node stands in that line
  pub in_line-own : (line : Line) → is_some (first_field part thread (entries t line)) ≡ true → IsInLine t line node
  in_line-own line some =
      let told = some_of (first_field part thread (entries t line)) some in
      let found = found-own part thread owner reads t lines node_of kept told.0 line (nodes_in t line) (λ x at. at) told.1 in
      let same : found.0 ≡ node = some_same found.0 node (node_of owner) found.1.1.0 has in
      rw (← same) found.1.0

  pub part-own : (a : A) (line : Line) → first_field part thread (entries t line) ≡ Some a → part (entry_of_node t node).item ≡ Some a
  part-own a line is =
      let found = found-own part thread owner reads t lines node_of kept a line (nodes_in t line) (λ x at. at) is in
      let same : found.0 ≡ node = some_same found.0 node (node_of owner) found.1.1.0 has in
      rw (← same) found.1.1.1

  -- once the node is gone, nothing is told of the thread
  pub gone-own : (line : Line) (xs : List ℕ) → ((x : ℕ) → Contains xs x → IsInLine t line x) → (Contains xs node → ⊥) → is_some (first_field part thread (map (entry_of_node t) xs)) ≡ false
  gone-own line xs members gone = elim (cases_Bool (is_some (first_field part thread (map (entry_of_node t) xs)))) [
    | inr none ↦ none
    | inl some ↦
        let told = some_of (first_field part thread (map (entry_of_node t) xs)) some in
        let found = found-own part thread owner reads t lines node_of kept told.0 line xs members told.1 in
        let same : found.0 ≡ node = some_same found.0 node (node_of owner) found.1.1.0 has in
        absurd (gone (rw (← same) found.1.0))
  ]

  -- a user's item goes as the node that stands for it does
  items-without : (line : Line) (user : ℕ) (it : OwnItem) → IsDistinct nat_eq (nodes_in t line) → is_this user it (entry_of_node t node) ≡ true → ((entry : Queued) → is_this user it entry ≡ true → node_owner entry ≡ owner) → map (entry_of_node t) (without node (nodes_in t line)) ≡ line_without user it (entries t line)
  items-without line user it distinct this names = without-map (entry_of_node t) user it node (nodes_in t line) distinct (λ x at. elim (eqb_tells x node) [
    | inl same ↦ rw same.0 (ap (λ y. is_this user it (entry_of_node t y)) same.1 ∙ this)
    | inr differs ↦ rw differs.0 (elim (cases_Bool (is_this user it (entry_of_node t x))) [
      | inr other ↦ other
      | inl is ↦ absurd (differs.1 (only line x at (names (entry_of_node t x) is)))
    ])
  ])

  -- where the node stands for another item, that item is in no line
  items-other : (line : Line) (user : ℕ) (it : OwnItem) → is_this user it (entry_of_node t node) ≡ false → ((entry : Queued) → is_this user it entry ≡ true → node_owner entry ≡ owner) → line_without user it (entries t line) ≡ entries t line
  items-other line user it not names = without-absent (entry_of_node t) user it (nodes_in t line) (λ x at. elim (cases_Bool (is_this user it (entry_of_node t x))) [
    | inr other ↦ other
    | inl is ↦
        let same = only line x at (names (entry_of_node t x) is) in
        let clash : true ≡ false = sym is ∙ ap (λ y. is_this user it (entry_of_node t y)) same ∙ not in
        absurd (cc)
  ])

-- a thread's message goes out of a line as its node does, and so does the pulse that names a call
module _ {answered : ℕ} (t : Table Waiting) (lines : List Line) (node_of : Owner → Option ℕ) (thread : Thread) (node : ℕ) (kept : AreListsOfTable t lines answered node_of) (line : Line) where
  pub message-leaves : node_of (Message thread) ≡ Some node → IsDistinct nat_eq (nodes_in t line) → map (entry_of_node t) (without node (nodes_in t line)) ≡ line_without thread.proc.user.0 (item.Message thread.proc.num thread.tid) (entries t line)
  message-leaves has distinct = items-without as_message thread (Message thread) (reads-message thread) t lines node_of node kept has line thread.proc.user.0 (item.Message thread.proc.num thread.tid) distinct
      (this-message thread (entry_of_node t node) (kept.names (Message thread) node has)) (λ entry at. owner-this thread.proc.user.0 (item.Message thread.proc.num thread.tid) entry at)

  module _ (has : node_of (Unblock thread) ≡ Some node) (call : ℕ) where
    pub pulse-leaves : pulse_call (entry_of_node t node).item ≡ Some call → IsDistinct nat_eq (nodes_in t line) → map (entry_of_node t) (without node (nodes_in t line)) ≡ line_without thread.proc.user.0 (item.Unblock thread.proc.num thread.tid call) (entries t line)
    pulse-leaves names distinct = items-without pulse_call thread (Unblock thread) (reads-call thread) t lines node_of node kept has line thread.proc.user.0 (item.Unblock thread.proc.num thread.tid call) distinct
        (this-unblock thread call (entry_of_node t node) (kept.names (Unblock thread) node has) names) (λ entry at. owner-this thread.proc.user.0 (item.Unblock thread.proc.num thread.tid call) entry at)

    -- where the pulse names another call, nothing goes
    pub pulse-stays : (other : ℕ) → pulse_call (entry_of_node t node).item ≡ Some other → other ≢ call → line_without thread.proc.user.0 (item.Unblock thread.proc.num thread.tid call) (entries t line) ≡ entries t line
    pulse-stays other names differs = items-other pulse_call thread (Unblock thread) (reads-call thread) t lines node_of node kept has line thread.proc.user.0 (item.Unblock thread.proc.num thread.tid call)
        (other-unblock thread call other (entry_of_node t node) names differs) (λ entry at. owner-this thread.proc.user.0 (item.Unblock thread.proc.num thread.tid call) entry at)

-- what holds of no items and of the items of each line, holds of the line of each number
pub at_any : (t : Table Waiting) (P : List Queued → Type 0) → P [] → ((line : Line) → P (entries t line)) → (lines : List Line) (number : ℕ) → P (line_at (map (entries t) lines) number)
at_any t P none all [] number = none
at_any t P none all (line ∷ lines) zero = all line
at_any t P none all (line ∷ lines) (suc number) = at_any t P none all lines number

-- a pulse that names another call
module _ {answered : ℕ} (t : Table Waiting) (lines : List Line) (node_of : Owner → Option ℕ) (thread : Thread) (node : ℕ) (kept : AreListsOfTable t lines answered node_of) (has : node_of (Unblock thread) ≡ Some node) (call other number : ℕ) (names : pulse_call (entry_of_node t node).item ≡ Some other) (differs : other ≢ call) where
  pub other-stays : line_without thread.proc.user.0 (item.Unblock thread.proc.num thread.tid call) (line_at (map (entries t) lines) number) ≡ line_at (map (entries t) lines) number
  other-stays = at_any t (λ l. line_without thread.proc.user.0 (item.Unblock thread.proc.num thread.tid call) l ≡ l) refl (λ line. pulse-stays t lines node_of thread node kept line has call other names differs) lines number

  pub other-field : unblock_call (line_at (map (entries t) lines) number) thread ≢ Some call
  other-field is =
      let part : pulse_call (entry_of_node t node).item ≡ Some call = at_any t (λ l. unblock_call l thread ≡ Some call → pulse_call (entry_of_node t node).item ≡ Some call) (λ none. absurd (none_some call None refl none)) (λ line is. part-own pulse_call thread (Unblock thread) (reads-call thread) t lines node_of node kept has call line is) lines number is in
      differs (some_same other call (pulse_call (entry_of_node t node).item) names part)

-- one line changes
module _ {answered : ℕ} (old new : Table Waiting) (lines : List Line) (number : ℕ) (before after : Line) (node_of : Owner → Option ℕ) (kept : AreListsOfTable old lines answered node_of) (is : slice_get lines number ≡ Some before) (own : after.lists ≡ before.lists) (elsewhere : (list : ℕ) → (IsOwn before list → ⊥) → maps.get new.lists list ≡ maps.get old.lists list) where
  lists_stay : (other : ℕ) (line : Line) → other ≢ number → slice_get lines other ≡ Some line → SameLists old new line
  lists_stay other line differs at list its = elsewhere list (λ here. differs (kept.apart other number list (line, at, its) (before, is, here)))

  same_lines : (list : ℕ) → is_line (slice_set lines number after) list ≡ is_line lines list
  same_lines list = is_line-set before after own lines number list is

  off_line : (list : ℕ) → is_line lines list ≡ false → IsOwn before list → ⊥
  off_line list apart here = let clash : true ≡ false = sym (is_line-numbered lines number list (before, is, here)) ∙ apart in cc

  calls-changed : ((list node : ℕ) → IsIn old list node → waiting_of_node new node ≡ waiting_of_node old node) → SameCalls old new lines (slice_set lines number after) answered
  calls-changed same_waiting = same_calls old new lines (slice_set lines number after) answered same_lines kept.off_lines (record {
    lists = λ list apart. elsewhere list (off_line list apart);
    nodes = same_waiting;
  })

  changed : IsLineOf rank_of new after → ((line : Line) → IsLineOf rank_of old line → SameLists old new line → IsLineOf rank_of new line) → ((node : ℕ) → is_some (maps.get new.values node) ≡ is_some (maps.get old.values node)) → ((owner : Owner) (node : ℕ) → node_of owner ≡ Some node → node_owner (entry_of_node new node) ≡ named owner) → ((node : ℕ) → (waiting_of_node old node).load ≡ Nothing → (waiting_of_node new node).load ≡ Nothing) → ((list node : ℕ) → IsIn old list node → waiting_of_node new node ≡ waiting_of_node old node) → ((node : ℕ) → Contains (nodes_in new after) node → Contains (nodes_in old before) node ⊎ IsOwners node_of node (node_owner (entry_of_node new node))) → AreListsOfTable new (slice_set lines number after) answered node_of
  changed line others same names still same_waiting among = record {
    line = λ other found at. elim (slice_get-set lines number other after found at) [
      | inl here ↦ rw here.1 line
      | inr there ↦ others found (kept.line other found there.1) (lists_stay other found there.0 there.1)
    ];
    apart = λ one other list at also. kept.apart one other list (was one list at) (was other list also);
    answers = ap is_some (elsewhere answered (off_line answered kept.off_lines)) ∙ kept.answers;
    off_lines = same_lines answered ∙ kept.off_lines;
    there = λ owner node has. same node ∙ kept.there owner node has;
    names = names;
    once = kept.once;
    unlisted = λ node none. still node (kept.unlisted node (λ list at apart. none list (rw (ap (λ o. unwrap_or o []) (sym (elsewhere list (off_line list apart)))) at at) (same_lines list ∙ apart)));
    listed = λ list node at. elim (cases_Bool (is_own list before)) [
      | inl is ↦ let here = own_list before list is in (
        λ apart. absurd (off_line list (sym (same_lines list) ∙ apart) here),
        elim (among node (own_in new after list node (rw own here) at)) [
          | inl earlier ↦ let stood = in_own old before node earlier in same-owners old new node_of node (ap (λ w. w.queued) (same_waiting stood.0 node stood.2)) (kept.listed stood.0 node stood.2).1
          | inr it ↦ it
        ],
      )
      | inr off ↦
          let earlier : IsIn old list node = rw (ap (λ o. unwrap_or o []) (elsewhere list (not_own before list off))) at at in
          let was = kept.listed list node earlier in
          (λ apart. rw (same_waiting list node earlier) (was.0 (sym (same_lines list) ∙ apart)), same-owners old new node_of node (ap (λ w. w.queued) (same_waiting list node earlier)) was.1)
    ];
  }
    where
      was : (other list : ℕ) → IsListOf (slice_set lines number after) other list → IsListOf lines other list
      was other list of = elim (slice_get-set lines number other after of.0 of.1) [
        | inl here ↦ (before, rw here.0 is, rw (← own, ← here.1) of.2)
        | inr there ↦ (of.0, there.1, of.2)
      ]

-- an owner's free node is put into a line, and stands for another item
module _ {answered : ℕ} (old new : Table Waiting) (lines : List Line) (number : ℕ) (before after : Line) (node_of : Owner → Option ℕ) (owner : Owner) (node : ℕ) (waiting : Waiting) (kept : AreListsOfTable old lines answered node_of) (is : slice_get lines number ≡ Some before) (own : node_of owner ≡ Some node) (free : IsFree old node) (put : PutIn old new before after node waiting) where
  others_stay : (list other : ℕ) → IsIn old list other → waiting_of_node new other ≡ waiting_of_node old other
  others_stay list other at = waiting-other old new node (inserted old new _ _ put.values) other (λ same. nowhere old free list (rw same at at))

  pub calls-put : SameCalls old new lines (slice_set lines number after) answered
  calls-put = calls-changed old new lines number before after node_of kept is put.own put.lists others_stay

  here : entry_of_node new node ≡ waiting.queued
  here = entry-same old new node waiting put.values

  -- and whose it is agrees with what it stands for
  placed : (after_of : Owner → Option ℕ) → AreListsOfTable old lines answered after_of → ((one : Owner) → after_of one ≡ Some node → node_owner waiting.queued ≡ named one) → IsOwners after_of node (node_owner waiting.queued) → waiting.load ≡ Nothing → AreListsOfTable new (slice_set lines number after) answered after_of
  placed after_of then names owns nothing = changed old new lines number before after after_of then is put.own put.lists put.line
      (λ line stands lists. line-kept old new node (inserted old new _ _ put.values) line stands lists (in_no_line old line (nowhere old free)))
      (λ other. elim (eqb_tells other node) [
        | inl same ↦ rw same.1 (contains-self old new node waiting put.values ∙ sym free.there)
        | inr differs ↦ ap is_some (inserted old new node waiting put.values other differs.1)
      ])
      (λ one other has. elim (eqb_tells other node) [
        | inl same ↦ rw same.1 (ap node_owner here ∙ names one (rw same.1 at has))
        | inr differs ↦ ap node_owner (entry-other old new node (inserted old new _ _ put.values) other differs.1) ∙ then.names one other has
      ])
      (λ other was. elim (eqb_tells other node) [
        | inl same ↦ rw same.1 (ap (λ w. w.load) (waiting-same old new node waiting put.values) ∙ nothing)
        | inr differs ↦ ap (λ w. w.load) (waiting-other old new node (inserted old new _ _ put.values) other differs.1) ∙ was
      ])
      others_stay
      (λ other at. elim (put.among other at) [
        | inl earlier ↦ inl earlier
        | inr same ↦ inr (rw (same, here) owns)
      ])

  -- of its owner
  pub Kept-put : node_owner waiting.queued ≡ owner → named owner ≡ owner → waiting.load ≡ Nothing → AreListsOfTable new (slice_set lines number after) answered node_of
  Kept-put names own_name nothing = placed node_of kept (λ one has. names ∙ sym own_name ∙ ap named (kept.once one owner node has own)) (λ again. ap node_of names ∙ own) nothing

  -- or a pulse that tells of what the owner lost, with its node
  pub Kept-lost : (after_of : Owner → Option ℕ) → after_of owner ≡ None → ((other : Owner) → (other ≡ owner) ⊎ ((other ≢ owner) × (after_of other ≡ node_of other))) → named owner ≢ owner → named (node_owner waiting.queued) ≢ node_owner waiting.queued → waiting.load ≡ Nothing → AreListsOfTable new (slice_set lines number after) answered after_of
  Kept-lost after_of gone others off pulse nothing = placed after_of
      (record {
        line = kept.line;
        apart = kept.apart;
        answers = kept.answers;
        off_lines = kept.off_lines;
        there = λ one x has. kept.there one x (had one x has).1;
        names = λ one x has. kept.names one x (had one x has).1;
        once = λ one other x has also. kept.once one other x (had one x has).1 (had other x also).1;
        unlisted = kept.unlisted;
        listed = λ list x at. let was = kept.listed list x at in (was.0, still (node_owner (entry_of_node old x)) x was.1);
      })
      (λ one has. let was = had one node has in absurd (was.0 (kept.once owner one node own was.1)))
      (λ again. absurd (pulse again))
      nothing
    where
      had : (one : Owner) (x : ℕ) → after_of one ≡ Some x → (one ≢ owner) × (node_of one ≡ Some x)
      had one x has = elim (others one) [
        | inl same ↦ absurd (none_some x _ gone (rw same at has))
        | inr other ↦ (other.0, sym other.1 ∙ has)
      ]

      still : (one : Owner) (x : ℕ) → IsOwners node_of x one → IsOwners after_of x one
      still one x was own_name = elim (others one) [
        | inl same ↦ absurd (off (rw same at own_name))
        | inr other ↦ other.1 ∙ was own_name
      ]

  pub shown-put : map (entries new) (slice_set lines number after) ≡ with_line (map (entries old) lines) number (λ line. into rank line waiting.queued)
  shown-put =
      shown-set old new lines number after (λ other line differs at. entries-kept old new node (inserted old new _ _ put.values) line (lists_stay old new lines number before after node_of kept is put.own put.lists other line differs at) (in_no_line old line (nowhere old free)))
      ∙ ap (slice_set (map (entries old) lines) number) (put.entries ∙ ap (λ line. into rank line waiting.queued) (sym (line_at-shown old lines number before is)))

-- nodes leave a line
module _ {answered : ℕ} (old new : Table Waiting) (lines : List Line) (number : ℕ) (before after : Line) (change : List ℕ → List ℕ) (node_of : Owner → Option ℕ) (kept : AreListsOfTable old lines answered node_of) (is : slice_get lines number ≡ Some before) (taken : TakenOut old new before after change) where
  pub Kept-taken : ((x : ℕ) → Contains (change (nodes_in old before)) x → Contains (nodes_in old before) x) → AreListsOfTable new (slice_set lines number after) answered node_of
  Kept-taken fewer = changed old new lines number before after node_of kept is taken.own taken.elsewhere.lists taken.line
      (λ line stands lists. IsLineOf-same rank_of old new line stands lists (λ node at. rw taken.elsewhere.values refl))
      (λ node. rw taken.elsewhere.values refl)
      (λ owner node has. rw taken.elsewhere.values (kept.names owner node has))
      (λ node was. rw taken.elsewhere.values was)
      (λ list node at. rw taken.elsewhere.values refl)
      (λ node at. let rest : Contains (change (nodes_in old before)) node = rw taken.nodes at at in inl (fewer node rest))

  pub calls-taken : SameCalls old new lines (slice_set lines number after) answered
  calls-taken = calls-changed old new lines number before after node_of kept is taken.own taken.elsewhere.lists (λ list node at. rw taken.elsewhere.values refl)

  pub shown-taken : (items : List Queued → List Queued) → map (entry_of_node old) (change (nodes_in old before)) ≡ items (entries old before) → map (entries new) (slice_set lines number after) ≡ with_line (map (entries old) lines) number items
  shown-taken items same =
      let rest : entries new after ≡ items (entries old before) = rw (taken.nodes, taken.elsewhere.values) same in
      shown-set old new lines number after (λ other line differs at.
      let nodes : nodes_in new line ≡ nodes_in old line = nodes_in-same old new line (lists_stay old new lines number before after node_of kept is taken.own taken.elsewhere.lists other line differs at) in
      rw (nodes, taken.elsewhere.values) refl)
      ∙ ap (slice_set (map (entries old) lines) number) (rest ∙ ap items (sym (line_at-shown old lines number before is)))

-- the first leaves it
module _ {answered : ℕ} (old new : Table Waiting) (lines : List Line) (number : ℕ) (before after : Line) (node_of : Owner → Option ℕ) (kept : AreListsOfTable old lines answered node_of) (is : slice_get lines number ≡ Some before) (taken : TakenOut old new before after (drop 1)) where
  pub Kept-first : AreListsOfTable new (slice_set lines number after) answered node_of
  Kept-first = Kept-taken old new lines number before after (drop 1) node_of kept is taken (λ x at. contains_rest x _ at)

  pub shown-first : map (entries new) (slice_set lines number after) ≡ with_line (map (entries old) lines) number (drop 1)
  shown-first = shown-taken old new lines number before after (drop 1) node_of kept is taken (drop 1) (map-drop (entry_of_node old) _)

-- an owner that had no node gets a new one
module _ (old new : Table Waiting) (node : ℕ) (waiting : Waiting) (room : ℕ) (is : new ≡ record old { values = maps.insert old.values node waiting; room = room }) (absent : maps.get old.values node ≡ None) (contained : (list other : ℕ) → IsIn old list other → ContainsNode old other) where
  values_made : new.values ≡ maps.insert old.values node waiting
  values_made = ap (λ t. t.values) is

  lists_made : (list : ℕ) → maps.get new.lists list ≡ maps.get old.lists list
  lists_made list = ap (λ t. maps.get t.lists list) is

  not_listed : (list : ℕ) → IsIn old list node → ⊥
  not_listed list at = absent_is (maps.get old.values node) (contained list node at) absent

  was_there : (other : ℕ) → ContainsNode old other → other ≢ node
  was_there other there same = absent_is (maps.get old.values node) (rw (← same) there) absent

  pub entries-made : (line : Line) → entries new line ≡ entries old line
  entries-made line = entries-kept old new node (inserted old new _ _ values_made) line (λ list own. lists_made list) (in_no_line old line not_listed)

  pub calls-made : (lines : List Line) (answered : ℕ) → is_line lines answered ≡ false → SameCalls old new lines lines answered
  calls-made lines answered off = same_calls old new lines lines answered (λ list. refl) off (record {
    lists = λ list apart. lists_made list;
    nodes = λ list x at. waiting-other old new node (inserted old new _ _ values_made) x (was_there x (contained list x at));
  })

  pub Kept-made : {answered : ℕ} (lines : List Line) (node_of after : Owner → Option ℕ) (owner : Owner) → node_of owner ≡ None → after owner ≡ Some node → ((other : Owner) → (other ≡ owner) ⊎ ((other ≢ owner) × (after other ≡ node_of other))) → node_owner waiting.queued ≡ named owner → waiting.load ≡ Nothing → AreListsOfTable old lines answered node_of → AreListsOfTable new lines answered after
  Kept-made {answered} lines node_of after owner lacked gets others names nothing kept = record {
    line = λ number line at. line-kept old new node (inserted old new _ _ values_made) line (kept.line number line at) (λ list own. lists_made list) (in_no_line old line not_listed);
    apart = kept.apart;
    answers = ap is_some (lists_made answered) ∙ kept.answers;
    off_lines = kept.off_lines;
    there = λ one x has. elim (whose one x has) [
      | inl made ↦ rw made.1 (contains-self old new node waiting values_made)
      | inr was ↦ contains-insert old new node waiting values_made x (kept.there one x was)
    ];
    names = λ one x has. elim (whose one x has) [
      | inl made ↦ rw (made.0, made.1) (ap node_owner (entry-same old new node waiting values_made) ∙ names)
      | inr was ↦ ap node_owner (entry-other old new node (inserted old new _ _ values_made) x (was_there x (kept.there one x was))) ∙ kept.names one x was
    ];
    once = λ one other x has also. elim (whose one x has) [
      | inl made ↦ elim (whose other x also) [
        | inl again ↦ again.0 ∙ sym made.0
        | inr was ↦ absurd (was_there x (kept.there other x was) made.1)
      ]
      | inr had ↦ elim (whose other x also) [
        | inl made ↦ absurd (was_there x (kept.there one x had) made.1)
        | inr was ↦ kept.once one other x had was
      ]
    ];
    unlisted = λ x none. elim (eqb_tells x node) [
      | inl same ↦ rw same.1 (ap (λ w. w.load) (waiting-same old new node waiting values_made) ∙ nothing)
      | inr differs ↦ ap (λ w. w.load) (waiting-other old new node (inserted old new _ _ values_made) x differs.1) ∙ kept.unlisted x (λ list at. none list (rw (ap (λ o. unwrap_or o []) (sym (lists_made list))) at at))
    ];
    listed = λ list x at.
        let earlier : IsIn old list x = rw (ap (λ o. unwrap_or o []) (lists_made list)) at at in
        let was = kept.listed list x earlier in
        let same = waiting-other old new node (inserted old new _ _ values_made) x (was_there x (contained list x earlier)) in
        (rw same was.0, same-owners old new after x (ap (λ w. w.queued) same) (λ own_name. still (node_owner (entry_of_node old x)) x (was.1 own_name)));
  }
    where
      whose : (one : Owner) (x : ℕ) → after one ≡ Some x → ((one ≡ owner) × (x ≡ node)) ⊎ (node_of one ≡ Some x)
      whose one x has = elim (others one) [
        | inl same ↦ let here : after owner ≡ Some x = rw same at has in inl (same, some_same x node _ here gets)
        | inr other ↦ inr (sym other.1 ∙ has)
      ]

      still : (one : Owner) (x : ℕ) → node_of one ≡ Some x → after one ≡ Some x
      still one x has = elim (others one) [
        | inl same ↦ let here : node_of owner ≡ Some x = rw same at has in absurd (none_some x _ lacked here)
        | inr other ↦ other.1 ∙ has
      ]

-- a node that stands in no list is given back
module _ (old new : Table Waiting) (node room : ℕ) (is : new ≡ record old { values = maps.remove old.values node; room = room }) (free : IsFree old node) where
  values_freed : new.values ≡ maps.remove old.values node
  values_freed = ap (λ t. t.values) is

  lists_freed : (list : ℕ) → maps.get new.lists list ≡ maps.get old.lists list
  lists_freed list = ap (λ t. maps.get t.lists list) is

  pub entries-freed : (line : Line) → entries new line ≡ entries old line
  entries-freed line = entries-kept old new node (removed old new node values_freed) line (λ list own. lists_freed list) (in_no_line old line (nowhere old free))

  pub calls-freed : (lines : List Line) (answered : ℕ) → is_line lines answered ≡ false → SameCalls old new lines lines answered
  calls-freed lines answered off = same_calls old new lines lines answered (λ list. refl) off (record {
    lists = λ list apart. lists_freed list;
    nodes = λ list x at. waiting-other old new node (removed old new node values_freed) x (λ same. nowhere old free list (rw same at at));
  })

  module _ {answered : ℕ} (lines : List Line) (node_of : Owner → Option ℕ) (kept : AreListsOfTable old lines answered node_of) where
    -- owners keep all nodes but that one
    Kept-but : (after : Owner → Option ℕ) → ((one : Owner) (x : ℕ) → after one ≡ Some x → (node_of one ≡ Some x) × (x ≢ node)) → ((one : Owner) (x : ℕ) → node_of one ≡ Some x → x ≢ node → after one ≡ Some x) → AreListsOfTable new lines answered after
    Kept-but after had has_still = record {
      line = λ number line at. line-kept old new node (removed old new node values_freed) line (kept.line number line at) (λ list own. lists_freed list) (in_no_line old line (nowhere old free));
      apart = kept.apart;
      answers = ap is_some (lists_freed answered) ∙ kept.answers;
      off_lines = kept.off_lines;
      there = λ one x has. let was = had one x has in contains-other old new node (removed old new node values_freed) x was.1 (kept.there one x was.0);
      names = λ one x has. let was = had one x has in ap node_owner (entry-other old new node (removed old new node values_freed) x was.1) ∙ kept.names one x was.0;
      once = λ one other x has also. kept.once one other x (had one x has).0 (had other x also).0;
      unlisted = λ x none. elim (eqb_tells x node) [
        | inl same ↦ rw same.1 (ap (λ o. (unwrap_or o nobodys).load) (ap (λ m. maps.get m node) values_freed ∙ get-remove_same old.values node))
        | inr differs ↦ ap (λ w. w.load) (waiting-other old new node (removed old new node values_freed) x differs.1) ∙ kept.unlisted x (λ list at. none list (rw (ap (λ o. unwrap_or o []) (sym (lists_freed list))) at at))
      ];
      listed = λ list x at.
          let earlier : IsIn old list x = rw (ap (λ o. unwrap_or o []) (lists_freed list)) at at in
          let was = kept.listed list x earlier in
          let differs : x ≢ node = λ same. nowhere old free list (rw same at earlier) in
          let same = waiting-other old new node (removed old new node values_freed) x differs in
          (rw same was.0, same-owners old new after x (ap (λ w. w.queued) same) (λ own_name. has_still (node_owner (entry_of_node old x)) x (was.1 own_name) differs));
    }

    -- where it was nobody's
    pub Kept-freed : named (node_owner (entry_of_node old node)) ≢ node_owner (entry_of_node old node) → AreListsOfTable new lines answered node_of
    Kept-freed off = Kept-but node_of (λ one x has. (has, other one x has)) (λ one x has differs. has)
      where
        other : (one : Owner) (x : ℕ) → node_of one ≡ Some x → x ≢ node
        other one x has same =
            let names = kept.names one node (rw same at has) in
            off (ap named names ∙ named-twice one ∙ sym names)

    -- where it was an owner's, who has none any more
    pub Kept-given : (after : Owner → Option ℕ) (owner : Owner) → node_of owner ≡ Some node → after owner ≡ None → ((other : Owner) → (other ≡ owner) ⊎ ((other ≢ owner) × (after other ≡ node_of other))) → AreListsOfTable new lines answered after
    Kept-given after owner own gone others = Kept-but after
        (λ one x has. elim (others one) [
          | inl same ↦ absurd (none_some x _ gone (rw same at has))
          | inr other ↦
              let was : node_of one ≡ Some x = sym other.1 ∙ has in
              (was, λ same. other.0 (kept.once owner one node own (rw same at was)))
        ])
        (λ one x has differs. elim (others one) [
          | inl same ↦ absurd (differs (some_same x node (node_of owner) (rw same at has) own))
          | inr other ↦ other.1 ∙ has
        ])

-- nobody has a node at first, and there are no lines
pub Kept-none : (t : Table Waiting) (answered : ℕ) (node_of : Owner → Option ℕ) → t.values ≡ maps.empty → ((list : ℕ) → nodes_of t list ≡ []) → ContainsList t answered → ((owner : Owner) → node_of owner ≡ None) → AreListsOfTable t [] answered node_of
Kept-none t answered node_of values no_list answers none = record {
  line = λ number line at. absurd (none_some line None refl at);
  apart = λ one other list at also. absurd (none_some at.0 None refl at.1);
  answers = answers;
  off_lines = refl;
  there = λ owner node has. absurd (none_some node _ (none owner) has);
  names = λ owner node has. absurd (none_some node _ (none owner) has);
  once = λ owner other node has also. absurd (none_some node _ (none owner) has);
  unlisted = λ node none. ap (λ o. (unwrap_or o nobodys).load) (ap (λ m. maps.get m node) values ∙ maps.get-empty nat_cmp node);
  listed = λ list node at. absurd (nothing_in node (rw (no_list list) at at));
}
  where
    nothing_in : (node : ℕ) → Contains [] node → ⊥
    nothing_in node at = omega (arith, at.1)

-- one more line
pub Kept-line : {answered : ℕ} (old new : Table Waiting) (lines : List Line) (line : Line) (node_of : Owner → Option ℕ) → nodes_in new line ≡ [] → IsLineOf rank_of new line → ((list : ℕ) → IsOwn line list → maps.get old.lists list ≡ None) → SameElsewhere old new line → AreListsOfTable old lines answered node_of → AreListsOfTable new (lines ++ line ∷ []) answered node_of
Kept-line {answered} old new lines line node_of none stands was_new elsewhere kept = record {
  line = λ number found at. elim (slice_get-more lines line found number at) [
    | inl last ↦ rw last.1 stands
    | inr earlier ↦ IsLineOf-elsewhere rank_of old new found line (kept.line number found earlier) elsewhere (unlike number found earlier)
  ];
  apart = λ one other list at also. elim (slice_get-more lines line at.0 one at.1) [
    | inl last ↦ elim (slice_get-more lines line also.0 other also.1) [
      | inl again ↦ last.0 ∙ sym again.0
      | inr earlier ↦ absurd (unlike other also.0 earlier list also.2 (rw (← last.1) at.2))
    ]
    | inr earlier ↦ elim (slice_get-more lines line also.0 other also.1) [
      | inl last ↦ absurd (unlike one at.0 earlier list at.2 (rw (← last.1) also.2))
      | inr too ↦ kept.apart one other list (at.0, earlier, at.2) (also.0, too, also.2)
    ]
  ];
  answers = ap is_some (elsewhere.lists answered not_new) ∙ kept.answers;
  off_lines = is_line-more lines line answered ∙ rw (kept.off_lines, differs_new answered not_new) refl;
  there = rw elsewhere.values kept.there;
  names = rw elsewhere.values kept.names;
  once = kept.once;
  unlisted = λ node nowhere. rw elsewhere.values (kept.unlisted node (λ list at apart.
      let here : IsIn new list node = rw (ap (λ o. unwrap_or o []) (sym (elsewhere.lists list (not_listed list node at)))) at at in
      nowhere list here (is_line-more lines line list ∙ rw (apart, differs_new list (not_listed list node at)) refl)));
  listed = λ list node at. elim (cases_Bool (is_own list line)) [
    | inl own ↦ let here : Contains [] node = rw none at (own_in new line list node (own_list line list own) at) in absurd (omega (arith, here.1))
    | inr off ↦
        let earlier : IsIn old list node = rw (ap (λ o. unwrap_or o []) (elsewhere.lists list (not_own line list off))) at at in
        let was = kept.listed list node earlier in
        (λ apart. rw elsewhere.values (was.0 (fewer (is_line lines list) (is_own list line) (sym (is_line-more lines line list) ∙ apart))), rw elsewhere.values was.1)
  ];
}
  where
    not_new : IsOwn line answered → ⊥
    not_new here = absent_is (maps.get old.lists answered) kept.answers (was_new answered here)

    not_listed : (list node : ℕ) → IsIn old list node → IsOwn line list → ⊥
    not_listed list node at own = let here : Contains [] node = rw (ap (λ o. unwrap_or o []) (was_new list own)) at at in omega (arith, here.1)

    differs_new : (list : ℕ) → (IsOwn line list → ⊥) → is_own list line ≡ false
    differs_new list apart = elim (cases_Bool (is_own list line)) [ inl own ↦ absurd (apart (own_list line list own)) | inr off ↦ off ]

    fewer : (a b : Bool) → (a || b) ≡ false → a ≡ false
    fewer false b is = refl
    fewer true b is = cc

    unlike : (number : ℕ) (found : Line) → slice_get lines number ≡ Some found → (list : ℕ) → IsOwn found list → IsOwn line list → ⊥
    unlike number found at = apart_from_new rank_of old found line (kept.line number found at) was_new

-- where no list has a node, the lines are empty
pub shown-none : (t : Table Waiting) → ((list : ℕ) → nodes_of t list ≡ []) → (lines : List Line) → map (entries t) lines ≡ replicate (length lines) []
shown-none t none [] = refl
shown-none t none (line ∷ lines) = rw (nodes_in-none t line none, shown-none t none lines) refl

gone_by : (it : OwnItem) (thread : Thread) (line : List Queued) → (owner_in thread it ≡ Message thread → stands line thread ≡ false) → (owner_in thread it ≡ Unblock thread → unblock_call line thread ≡ None) → no_other it thread line
gone_by (item.Message process number) thread line message pulse = message refl
gone_by (item.Unblock process number call) thread line message pulse = pulse refl
gone_by (item.Disconnect process server) thread line message pulse = tt

-- the first item of a line stands there once
module _ {answered : ℕ} (t : Table Waiting) (lines : List Line) (node_of : Owner → Option ℕ) (line : Line) (kept : AreListsOfTable t lines answered node_of) where
  gone_from : (x : ℕ) (xs : List ℕ) (first : Queued) → x ∷ xs ≡ nodes_in t line → AllByRecursion (λ y. nat_eq x y ≡ false) xs → entry_of_node t x ≡ first → IsGone first (map (entry_of_node t) xs)
  gone_from x xs first nodes apart is =
      let inside : (y : ℕ) → Contains (x ∷ xs) y → IsInLine t line y = λ y at. rw (← nodes) at in
      let own : (owner : Owner) → named owner ≡ owner → node_owner first ≡ owner → node_of owner ≡ Some x = λ owner own_name owns. owners-in t lines node_of kept line x (inside x (contains_first x xs)) owner own_name (ap node_owner is ∙ owns) in
      gone_by first.item (sender first) (map (entry_of_node t) xs)
      (λ message. gone-own as_message (sender first) (Message (sender first)) (reads-message (sender first)) t lines node_of x kept (own (Message (sender first)) refl message) line xs (λ y at. inside y (contains_later x y xs at)) (λ at. differs_from x x xs apart at refl))
      (λ pulse. none_of _ (gone-own pulse_call (sender first) (Unblock (sender first)) (reads-call (sender first)) t lines node_of x kept (own (Unblock (sender first)) refl pulse) line xs (λ y at. inside y (contains_later x y xs at)) (λ at. differs_from x x xs apart at refl)))

  gone_first : (nodes : List ℕ) (first : Queued) → nodes ≡ nodes_in t line → IsDistinct nat_eq nodes → slice_get (map (entry_of_node t) nodes) 0 ≡ Some first → IsGone first (drop 1 (map (entry_of_node t) nodes))
  unfolding IsDistinct
  gone_first [] first same distinct is = absurd (none_some first None refl is)
  gone_first (x ∷ xs) first same distinct is = gone_from x xs first same distinct.0 (same_Some (entry_of_node t x) first is)

  -- and the node of its owner stands for it, where that is a thread
  pub first-owned : (first : Queued) → Some first ≡ slice_get (entries t line) 0 → (owner : Owner) → named owner ≡ owner → node_owner first ≡ owner → (node : ℕ) × (node_of owner ≡ Some node)
  first-owned first is owner own_name owns = of (nodes_in t line) refl (sym is)
    where
      of : (nodes : List ℕ) → nodes ≡ nodes_in t line → slice_get (map (entry_of_node t) nodes) 0 ≡ Some first → (node : ℕ) × (node_of owner ≡ Some node)
      of [] same is = absurd (none_some first None refl is)
      of (x ∷ xs) same is =
          let inside : IsInLine t line x = rw (← same) (contains_first x xs) in
          (x, owners-in t lines node_of kept line x inside owner own_name (ap node_owner (same_Some (entry_of_node t x) first is) ∙ owns))

  pub gone-if : (first : Option Queued) → IsDistinct nat_eq (nodes_in t line) → first ≡ slice_get (entries t line) 0 → IfSome first (λ taken. IsGone taken (drop 1 (entries t line)))
  gone-if None distinct is = tt
  gone-if (Some first) distinct is = gone_first (nodes_in t line) first refl distinct (sym is)
