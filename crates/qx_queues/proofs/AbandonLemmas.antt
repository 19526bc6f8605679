-- The calls of a process that wait, by the nodes of its threads: whether there is one, and what they are once the process has ended.
use Rattle.std.proofs.Common.{◌≡◌, inl, inr, ℕ, zero, suc, ◌+◌, ◌<◌, ◌==◌, ◌&&◌, ◌||◌, if◌then◌else◌, cond, get_or, length, take, Bool, true, false, List, [], ◌∷◌, IfSome, Option, Some, None, is_some, map, option_map, unwrap_or, refl, sym, ◌∙◌, ap}
use Rattle.std.specs.FinMap as maps
use Rattle.std.specs.List.{list_any}
use Rattle.std.proofs.lemmas.Bool.{cases_Bool}
use Rattle.std.proofs.lemmas.Bool.Decides.{eqb_tells}
use Rattle.std.proofs.lemmas.List.Folds.{list_any_more}
use Rattle.std.proofs.lemmas.Option.{same_Some}
use Rattle.std.proofs.lemmas.Simd.{map-map}
use Rattle.qx_types.specs.declared.names.Proc.{Proc}
use Rattle.qx_types.specs.declared.names.Thread.{Thread}
use Rattle.qx_lists.proofs.MapLemmas.{get-insert_other, get-insert_same, same_map}
use Rattle.qx_lists.proofs.RingLemmas.{is_some-option_map}
use Rattle.qx_lists.specs.Table.{Table, ContainsNode, IsIn, nodes_of, with_value}
use Rattle.qx_lines.specs.declared.Line.{Line}
use Rattle.qx_isolation.specs.Rows.{row_at}
use Rattle.qx_isolation.specs.declared.rows.Queued.{Queued}
use Rattle.qx_machine.specs.declared.rows.WaitingCall.{WaitingCall}
use Rattle.qx_queues.specs.declared.nodes.ThreadNodes.{ThreadNodes}
use Rattle.qx_queues.specs.declared.nodes.UserNodes.{UserNodes}
use Rattle.qx_queues.specs.inner.Kept.{Abandoned, AreListsOfTable, Carries, KnowsPulses, call_at, entries, entry_of_node, given_at, gone_if, is_line, is_message_node, is_message_of, is_pipes, nobodys, users_call_carried, waiting_lists, waiting_of_node, waits_with}
use Rattle.qx_queues.specs.Kept.{HasLoad}
use Rattle.qx_queues.specs.Nodes.{Message, node_of, process_at}
use Rattle.qx_queues.specs.Queues.{UsersCall, abandoned_by, caller, each_changed, has_call_of, is_same_proc, with_abandoned}
use Rattle.qx_queues.specs.Waiting.{Answered, Load, Nothing, Waiting, Waits, carried, carrying}
use Rattle.qx_queues.specs.inner.Waiting.{given_in, given_of, gone_load, with_gone_call}
use Rattle.qx_queues.proofs.BesideLemmas.{get-each_changed, get-waiting_lists, nodes_waiting, same_mapped}
use Rattle.qx_queues.proofs.CallLemmas.{Kept-beside, shown-beside, value_of}
use Rattle.qx_queues.proofs.EntryLemmas.{any-there, map-agree, or_false, or_true, owned_thread}
use Rattle.qx_queues.proofs.KeptLemmas.{waits-owner}
use Rattle.qx_queues.proofs.NodesLemmas.{is_same_proc-self, is_same_proc-same}
use Rattle.qx_queues.proofs.PresenceLemmas.{same_queues}
use Rattle.qx_queues.proofs.PulseLemmas.{KnowsPulses-same}
use Rattle.qx_queues.proofs.TableLemmas.{none_some}
use Rattle.qx_queues.proofs.WaitLemmas.{caller-owns, carries-call, found}

-- ---- one of numbered rows

module _ {A : Type 0} (test : Option A → Bool) where
  -- a row that passes a test, which none passes that is not there
  pub record Row (rows : List (Option A)) : Type 0 where
    pub number : ℕ
    pub row : A
    pub at : row_at rows number ≡ Some row
    pub is : test (Some row) ≡ true

  pub any-row : test None ≡ false → (rows : List (Option A)) → list_any test rows ≡ true → Row rows
  any-row none [] some = absurd (cc)
  any-row none (None ∷ rows) some = let later = any-row none rows (rw none at some) in record { number = suc later.number; row = later.row; at = later.at; is = later.is }
  any-row none (Some row ∷ rows) some = elim (cases_Bool (test (Some row))) [
    | inl is ↦ record { number = 0; row = row; at = refl; is = is }
    | inr not ↦ let later = any-row none rows (rw not at some) in record { number = suc later.number; row = later.row; at = later.at; is = later.is }
  ]

  pub row-any : (rows : List (Option A)) (number : ℕ) (row : A) → row_at rows number ≡ Some row → test (Some row) ≡ true → list_any test rows ≡ true
  row-any [] number row at is = absurd (none_some row None refl at)
  row-any (first ∷ rows) zero row at is = rw (ap test at ∙ is) refl
  row-any (first ∷ rows) (suc number) row at is = rw (row-any rows number row at is) (or_true (test first))

-- the node that is one of these
message_is : (node : ℕ) (own : ThreadNodes) → is_message_node node (Some own) ≡ true → own.message ≡ node
message_is node own is = elim (eqb_tells own.message node) [
  | inl same ↦ same.1
  | inr differs ↦ let clash : false ≡ true = sym differs.0 ∙ is in absurd (cc)
]

message_self : (own : ThreadNodes) → is_message_node own.message (Some own) ≡ true
message_self own = elim (eqb_tells own.message own.message) [
  | inl same ↦ same.0
  | inr differs ↦ absurd (differs.1 refl)
]

carries-some : (load : Load) → HasLoad false load → is_some (carried load) ≡ true
carries-some Nothing has = absurd has
carries-some (Waits call) has = refl
carries-some (Answered given) has = absurd has

some-carries : (load : Load) → is_some (carried load) ≡ true → HasLoad true load → ⊥
some-carries Nothing some has = has
some-carries (Waits call) some has = has
some-carries (Answered given) some has = let clash : false ≡ true = some in cc

some-nothing : (load : Load) → is_some (carried load) ≡ true → load ≡ Nothing → ⊥
some-nothing load some nothing = let clash : false ≡ true = ap (λ l. is_some (carried l)) (sym nothing) ∙ some in cc

-- ---- one thread after another

module _ (old mid : Table Waiting) (threads : List (Option ThreadNodes)) (i : ℕ) (before : Abandoned old mid (take i threads)) (within : i < length threads) where
  -- one more
  more : (node : ℕ) → is_message_of (take (i + 1) threads) node ≡ (is_message_of (take i threads) node || is_message_node node (get_or threads i None))
  more node = list_any_more (is_message_node node) threads i None within

  same_but : (new : Table Waiting) (node : ℕ) → maps.get new.values node ≡ maps.get mid.values node → is_message_node node (get_or threads i None) ≡ false → maps.get new.values node ≡ option_map (gone_if (is_message_of (take (i + 1) threads) node)) (maps.get old.values node)
  same_but new node same off = same ∙ before.values node ∙ ap (λ b. option_map (gone_if b) (maps.get old.values node)) (sym (more node ∙ ap (λ b. is_message_of (take i threads) node || b) off ∙ or_false (is_message_of (take i threads) node)))

  -- that has no nodes
  pub Abandoned-none : get_or threads i None ≡ None → Abandoned old mid (take (i + 1) threads)
  Abandoned-none none = record {
    values = λ node. same_but mid node refl (ap (is_message_node node) none);
    lists = before.lists;
    room = before.room;
  }

  -- that has some
  module _ (new : Table Waiting) (own : ThreadNodes) (some : get_or threads i None ≡ Some own) (waiting : Waiting) (was : maps.get mid.values own.message ≡ Some waiting) (is : new ≡ with_value mid own.message (with_gone_call waiting)) where
    twice : (b : Bool) (o : Option Waiting) → option_map (gone_if b) o ≡ Some waiting → Some (with_gone_call waiting) ≡ option_map (gone_if true) o
    twice b None at = absurd (none_some waiting None refl at)
    twice b (Some first) at = ap (λ w. Some (with_gone_call w)) (sym (same_Some (gone_if b first) waiting at)) ∙ ap Some (again b)
      where
        load_again : (load : Load) → gone_load (gone_load load) ≡ gone_load load
        load_again Nothing = refl
        load_again (Waits call) = refl
        load_again (Answered given) = refl

        again : (b : Bool) → with_gone_call (gone_if b first) ≡ with_gone_call first
        again false = refl
        again true = ap (carrying first.queued) (load_again first.load)

    pub Abandoned-one : Abandoned old new (take (i + 1) threads)
    Abandoned-one = record {
      values = λ node. elim (eqb_tells own.message node) [
        | inl same ↦
            let told : is_message_of (take (i + 1) threads) node ≡ true = more node ∙ ap (λ b. is_message_of (take i threads) node || b) (ap (is_message_node node) some ∙ same.0) ∙ or_true (is_message_of (take i threads) node) in
            ap (λ t. maps.get t.values node) is
            ∙ ap (maps.get (with_value mid own.message (with_gone_call waiting)).values) (sym same.1)
            ∙ get-insert_same mid.values own.message (with_gone_call waiting)
            ∙ twice (is_message_of (take i threads) node) (maps.get old.values node) (sym (before.values node) ∙ ap (maps.get mid.values) (sym same.1) ∙ was)
            ∙ ap (λ b. option_map (gone_if b) (maps.get old.values node)) (sym told)
        | inr differs ↦ same_but new node (ap (λ t. maps.get t.values node) is ∙ get-insert_other mid.values own.message (with_gone_call waiting) node (λ same. differs.1 (sym same))) (ap (is_message_node node) some ∙ differs.0)
      ];
      lists = ap (λ t. t.lists) is ∙ before.lists;
      room = ap (λ t. t.room) is ∙ before.room;
    }

-- ---- whose message nodes

module _ {answered : ℕ} (t : Table Waiting) (lines : List Line) (nodes : List UserNodes) (kept : AreListsOfTable t lines answered (node_of nodes)) (proc : Proc) (threads : List (Option ThreadNodes)) (own : (number : ℕ) → row_at threads number ≡ row_at (process_at nodes proc).threads number) where
  abbrev thread_at : ℕ → Thread
  thread_at number = record { proc = proc; tid = number }

  owned : (number : ℕ) (row : ThreadNodes) → row_at threads number ≡ Some row → node_of nodes (Message (thread_at number)) ≡ Some row.message
  owned number row at = ap (option_map (λ own. own.message)) (sym (own number) ∙ at)

  pub messages-there : (number : ℕ) → IfSome (row_at threads number) (λ own. ContainsNode t own.message)
  messages-there number = of (row_at threads number) refl
    where
      of : (o : Option ThreadNodes) → row_at threads number ≡ o → IfSome o (λ own. ContainsNode t own.message)
      of None at = tt
      of (Some row) at = kept.there (Message (thread_at number)) row.message (owned number row at)

  -- a thread's message node is among those of the process exactly if the thread is the process'
  message-of : (node : ℕ) (thread : Thread) → node_of nodes (Message thread) ≡ Some node → is_message_of threads node ≡ is_same_proc thread.proc proc
  message-of node thread has = elim (cases_Bool (is_message_of threads node)) [
    | inl is ↦
        let row = any-row (is_message_node node) refl threads is in
        let mine : node_of nodes (Message (thread_at row.number)) ≡ Some node = owned row.number row.row row.at ∙ ap Some (message_is node row.row row.is) in
        let same : thread.proc ≡ proc = ap (λ owner. (owned_thread owner thread).proc) (kept.once (Message (thread_at row.number)) (Message thread) node mine has) in
        is ∙ sym (ap (λ p. is_same_proc p proc) same ∙ is_same_proc-self proc)
    | inr not ↦ elim (cases_Bool (is_same_proc thread.proc proc)) [
      | inr apart ↦ not ∙ sym apart
      | inl is ↦
          let here : node_of nodes (Message (thread_at thread.tid)) ≡ Some node = ap (λ p. node_of nodes (Message (record { proc = p; tid = thread.tid }))) (sym (is_same_proc-same thread.proc proc is)) ∙ has in
          let clash : true ≡ false = sym (among (row_at threads thread.tid) refl (ap (option_map (λ own. own.message)) (own thread.tid) ∙ here)) ∙ not in
          absurd (cc)
    ]
  ]
    where
      among : (o : Option ThreadNodes) → row_at threads thread.tid ≡ o → option_map (λ own. own.message) o ≡ Some node → is_message_of threads node ≡ true
      among None at is = absurd (none_some node None refl is)
      among (Some row) at is = let same : row.message ≡ node = cc in row-any (is_message_node node) threads thread.tid row at (rw (← same) (message_self row))

  -- ---- whether a call waits

  abbrev is_own : UsersCall → Bool
  is_own call = is_same_proc (caller call).proc proc

  none-waits : list_any (waits_with t) threads ≡ false → (list : ℕ) → has_call_of (unwrap_or (maps.get (waiting_lists t lines answered) list) []) proc ≡ false
  none-waits none list = elim (cases_Bool (has_call_of (unwrap_or (maps.get (waiting_lists t lines answered) list) []) proc)) [
    | inr not ↦ not
    | inl some ↦
        let one = found t lines (node_of nodes) kept list is_own some in
        let row = any-row (is_message_node one.node) refl threads (message-of one.node (caller (call_at t one.node)) one.own ∙ one.is) in
        let waits : waits_with t (Some row.row) ≡ true = ap (λ node. is_some (carried (waiting_of_node t node).load)) (message_is one.node row.row row.is) ∙ carries-some _ one.carries in
        let clash : true ≡ false = sym (row-any (waits_with t) threads row.number row.row row.at waits) ∙ none in
        absurd (cc)
  ]

  some-waits : ((list : ℕ) → has_call_of (unwrap_or (maps.get (waiting_lists t lines answered) list) []) proc ≡ false) → list_any (waits_with t) threads ≡ false
  some-waits none = elim (cases_Bool (list_any (waits_with t) threads)) [
    | inr not ↦ not
    | inl some ↦ let row = any-row (waits_with t) refl threads some in absurd (some-nothing _ row.is (kept.unlisted row.row.message (off row)))
  ]
    where
      off : (row : Row (waits_with t) threads) (list : ℕ) → IsIn t list row.row.message → is_line lines list ≡ false → ⊥
      off row list at apart =
          let node = row.row.message in
          let carries : Carries (list == answered) (waiting_of_node t node) = (kept.listed list node at).0 apart in
          elim (eqb_tells list answered) [
            | inl same ↦ let now : Carries true (waiting_of_node t node) = rw same.0 at carries in some-carries (waiting_of_node t node).load row.is now.load
            | inr differs ↦
                let now : Carries false (waiting_of_node t node) = rw differs.0 at carries in
                let owner : Message (caller (call_at t node)) ≡ Message (thread_at row.number) = sym (waits-owner (waiting_of_node t node) now) ∙ kept.names (Message (thread_at row.number)) node (owned row.number row.row row.at) in
                let is : is_own (call_at t node) ≡ true = ap (λ other. is_same_proc (owned_thread other (thread_at row.number)).proc proc) owner ∙ is_same_proc-self proc in
                let shown : unwrap_or (maps.get (waiting_lists t lines answered) list) [] ≡ map (call_at t) (nodes_of t list) = nodes_waiting t lines answered list differs.0 apart in
                let clash : true ≡ false = sym (ap (list_any is_own) shown ∙ any-there is_own (call_at t) (nodes_of t list) node at is) ∙ none list in
                cc
          ]

  pub waits-told : (b : Bool) → b ≡ list_any (waits_with t) threads → (b ≡ false → (list : ℕ) → has_call_of (unwrap_or (maps.get (waiting_lists t lines answered) list) []) proc ≡ false) × (((list : ℕ) → has_call_of (unwrap_or (maps.get (waiting_lists t lines answered) list) []) proc ≡ false) → b ≡ false)
  waits-told b is = (λ not. none-waits (sym is ∙ not), λ none. is ∙ some-waits none)

  -- ---- once the process has ended

  module _ (new : Table Waiting) (gone : Abandoned t new threads) where
    waiting-then : (node : ℕ) → waiting_of_node new node ≡ gone_if (is_message_of threads node) (waiting_of_node t node)
    waiting-then node = ap (λ o. unwrap_or o nobodys) (gone.values node) ∙ of (is_message_of threads node) (maps.get t.values node)
      where
        of : (b : Bool) (o : Option Waiting) → unwrap_or (option_map (gone_if b) o) nobodys ≡ gone_if b (unwrap_or o nobodys)
        of true None = refl
        of false None = refl
        of true (Some waiting) = refl
        of false (Some waiting) = refl

    lists_then : (list : ℕ) → maps.get new.lists list ≡ maps.get t.lists list
    lists_then list = ap (λ l. maps.get l list) gone.lists

    -- what is the same of all nodes
    same_read : {B : Type 0} (read : Waiting → B) → ((b : Bool) (waiting : Waiting) → read (gone_if b waiting) ≡ read waiting) → (node : ℕ) → read (waiting_of_node new node) ≡ read (waiting_of_node t node)
    same_read read same node = ap read (waiting-then node) ∙ same (is_message_of threads node) (waiting_of_node t node)

    same_entries : (node : ℕ) → entry_of_node new node ≡ entry_of_node t node
    same_entries = same_read (λ w. w.queued) of
      where
        of : (b : Bool) (waiting : Waiting) → (gone_if b waiting).queued ≡ waiting.queued
        of true waiting = refl
        of false waiting = refl

    same_given : (node : ℕ) → given_at new node ≡ given_at t node
    same_given = same_read given_of of
      where
        in_load : (load : Load) → given_in (gone_load load) ≡ given_in load
        in_load Nothing = refl
        in_load (Waits call) = refl
        in_load (Answered given) = refl

        of : (b : Bool) (waiting : Waiting) → given_of (gone_if b waiting) ≡ given_of waiting
        of true waiting = in_load waiting.load
        of false waiting = refl

    carries-gone : (b is_answered : Bool) (waiting : Waiting) → Carries is_answered waiting → Carries is_answered (gone_if b waiting)
    carries-gone false is_answered waiting carries = carries
    carries-gone true is_answered waiting carries = of is_answered waiting.queued waiting.load carries
      where
        of : (is_answered : Bool) (queued : Queued) (load : Load) → Carries is_answered (carrying queued load) → Carries is_answered (carrying queued (gone_load load))
        of is_answered queued Nothing carries = carries
        of true queued (Waits call) carries = absurd carries.load
        of false queued (Waits call) carries = record { own = carries.own; load = tt }
        of is_answered queued (Answered given) carries = carries

    pub Kept-abandoned : AreListsOfTable new lines answered (node_of nodes)
    Kept-abandoned = Kept-beside t new lines (node_of nodes) kept (λ list is. lists_then list) same_entries
        (ap is_some (lists_then answered) ∙ kept.answers)
        (λ node. ap is_some (gone.values node) ∙ is_some-option_map (gone_if (is_message_of threads node)) (maps.get t.values node))
        (λ node none. ap (λ w. w.load) (waiting-then node) ∙ still (is_message_of threads node) (waiting_of_node t node) (kept.unlisted node (λ list at. none list (rw (ap (λ o. unwrap_or o []) (sym (lists_then list))) at at))))
        (λ list node apart at.
        let earlier : IsIn t list node = rw (ap (λ o. unwrap_or o []) (lists_then list)) at at in
        let was = kept.listed list node earlier in
        (rw (waiting-then node) (carries-gone (is_message_of threads node) (list == answered) (waiting_of_node t node) (was.0 apart)), was.1))
      where
        still : (b : Bool) (waiting : Waiting) → waiting.load ≡ Nothing → (gone_if b waiting).load ≡ Nothing
        still true waiting is = ap gone_load is
        still false waiting is = is

    shown_then : map (entries new) lines ≡ map (entries t) lines
    shown_then = shown-beside t new lines (node_of nodes) kept (λ list is. lists_then list) same_entries

    pub pulses-abandoned : (asked : Thread → Option ℕ) → KnowsPulses (map (entries t) lines) asked → KnowsPulses (map (entries new) lines) asked
    pulses-abandoned asked was = KnowsPulses-same _ _ asked asked shown_then (λ thread. refl) was

    -- a call that waits, by whose it is
    call-gone : (waiting : Waiting) → HasLoad false waiting.load → users_call_carried (gone_if (is_own (users_call_carried waiting)) waiting) ≡ abandoned_by proc (users_call_carried waiting)
    call-gone waiting has = of waiting.queued waiting.load has
      where
        by : (queued : Queued) (call : WaitingCall) (user process : Bool) → users_call_carried (gone_if (user && process) (carrying queued (Waits call))) ≡ (if user then record { user = queued.user.0; call = if process then record call { is_gone = true } else call } else record { user = queued.user.0; call = call })
        by queued call true true = refl
        by queued call true false = refl
        by queued call false process = refl

        of : (queued : Queued) (load : Load) → HasLoad false load → users_call_carried (gone_if (is_own (users_call_carried (carrying queued load))) (carrying queued load)) ≡ abandoned_by proc (users_call_carried (carrying queued load))
        of queued Nothing has = absurd has
        of queued (Waits call) has = by queued call (queued.user.0 == proc.user.0) (call.process == proc.num)
        of queued (Answered given) has = absurd has

    waiting_then : waiting_lists new lines answered ≡ each_changed (abandoned_by proc) (waiting_lists t lines answered)
    waiting_then = same_map _ _ (λ list. get-waiting_lists new lines answered list ∙ at_list list ∙ sym (get-each_changed (abandoned_by proc) (waiting_lists t lines answered) list ∙ ap (option_map (map (abandoned_by proc))) (get-waiting_lists t lines answered list)))
      where
        joined : (o : Option (List ℕ)) → option_map (map (λ node. abandoned_by proc (call_at t node))) o ≡ option_map (map (abandoned_by proc)) (option_map (map (call_at t)) o)
        joined None = refl
        joined (Some all) = ap Some (sym (map-map (abandoned_by proc) (call_at t) all))

        at_node : (list : ℕ) → is_pipes lines answered list ≡ true → (node : ℕ) → IsIn t list node → call_at new node ≡ abandoned_by proc (call_at t node)
        at_node list pipes node at =
            ap users_call_carried (waiting-then node)
            ∙ ap (λ b. users_call_carried (gone_if b (waiting_of_node t node))) (message-of node (caller (call_at t node)) (caller-owns t lines (node_of nodes) kept list pipes node at))
            ∙ call-gone (waiting_of_node t node) (carries-call t lines (node_of nodes) kept list pipes node at).load

        at_list : (list : ℕ) → option_map (map (call_at new)) (cond (is_pipes lines answered list) (maps.get new.lists list) None) ≡ option_map (map (abandoned_by proc)) (option_map (map (call_at t)) (cond (is_pipes lines answered list) (maps.get t.lists list) None))
        at_list list = elim (cases_Bool (is_pipes lines answered list)) [
          | inr off ↦ rw off refl
          | inl pipes ↦ rw (pipes, lists_then list) (same_mapped (call_at new) (λ node. abandoned_by proc (call_at t node)) (maps.get t.lists list) (at_node list pipes) ∙ joined (maps.get t.lists list))
        ]

    pub value-abandoned : value_of new lines answered nodes ≡ with_abandoned (value_of t lines answered nodes) proc
    value-abandoned = same_queues shown_then refl refl refl gone.room waiting_then
        (ap (λ o. map (given_at new) (unwrap_or o [])) (lists_then answered) ∙ map-agree (given_at new) (given_at t) (nodes_of t answered) (λ node at. same_given node))
