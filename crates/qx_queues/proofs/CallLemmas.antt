-- The invariant, as the lists that are no line's change and what their nodes carry.
use Rattle.std.proofs.Common.{◌≡◌, ◌≢◌, inl, inr, ℕ, ◌==◌, true, false, List, [], ◌∷◌, ◌++◌, length, Contains, Option, Some, None, map, option_map, unwrap_or, is_some, refl, sym, ◌∙◌, ap, ap₂, arith}
use Rattle.std.specs.FinMap as maps
use Rattle.std.proofs.lemmas.Bool.{cases_Bool}
use Rattle.std.proofs.lemmas.Bool.Decides.{eqb_tells}
use Rattle.std.proofs.lemmas.List.{map-append}
use Rattle.std.proofs.lemmas.List.Elements.{Contains-push_cases}
use Rattle.qx_types.specs.declared.names.Thread.{Thread}
use Rattle.qx_lists.specs.Table.{Table, ContainsList, ContainsNode, IsFree, IsIn, nodes_of, with_nodes, with_value, without}
use Rattle.qx_lists.proofs.MapLemmas.{get-insert_other, get-insert_same, get-remove_other, get-remove_same, same_map}
use Rattle.qx_lists.proofs.ListLemmas.{absent_without, contains_cases, contains_first, contains_later, contains_without, without_keeps}
use Rattle.qx_lines.specs.declared.Line.{Line}
use Rattle.qx_lines.specs.Line.{nodes_in}
use Rattle.qx_lines.proofs.LineFacts.{IsLineOf-same, nodes_in-same}
use Rattle.qx_machine.specs.Machine.{rank}
use Rattle.qx_queues.specs.inner.Kept.{Carries, AreListsOfTable, IsOwners, KnowsPulses, Moved, answered_calls, call_at, entries, entry_of_node, given_at, is_line, is_own, is_pipes, nobodys, node_owner, users_call_carried, waiting_of_node, waiting_lists}
use Rattle.qx_queues.specs.Queues.{Queues, UsersAnswer, with_waiting, without_list}
use Rattle.qx_queues.specs.Waiting.{Load, Nothing, Waiting, carrying, idle, rank_of}
use Rattle.qx_queues.specs.inner.Waiting.{given_of}
use Rattle.qx_queues.specs.declared.nodes.UserNodes.{UserNodes}
use Rattle.qx_queues.specs.Nodes.{Owner, servers_of, threads_of}
use Rattle.qx_queues.proofs.BesideLemmas.{get-waiting_lists, is_line-numbered, line_of, pipes_apart, same_mapped, same_waiting}
use Rattle.qx_queues.proofs.EntryLemmas.{map-agree, or_true}
use Rattle.qx_queues.proofs.KeptLemmas.{same-owners}
use Rattle.qx_queues.proofs.PresenceLemmas.{same_queues}
use Rattle.qx_queues.proofs.TableLemmas.{SameLists, absent_is, contains-self, entry-other, entry-same, inserted, nowhere, rank_at-entry, waiting-other, waiting-same}

-- the lines stay as they are, and so does whose each node is
module _ {answered : ℕ} (old new : Table Waiting) (lines : List Line) (node_of : Owner → Option ℕ) (kept : AreListsOfTable old lines answered node_of) (line_lists : (list : ℕ) → is_line lines list ≡ true → maps.get new.lists list ≡ maps.get old.lists list) (same_entries : (node : ℕ) → entry_of_node new node ≡ entry_of_node old node) where
  pub Kept-beside : ContainsList new answered → ((node : ℕ) → is_some (maps.get new.values node) ≡ is_some (maps.get old.values node)) → ((node : ℕ) → ((list : ℕ) → IsIn new list node → is_line lines list ≡ false → ⊥) → (waiting_of_node new node).load ≡ Nothing) → ((list node : ℕ) → is_line lines list ≡ false → IsIn new list node → Carries (list == answered) (waiting_of_node new node) × IsOwners node_of node (node_owner (entry_of_node old node))) → AreListsOfTable new lines answered node_of
  Kept-beside answers same nothing carries = record {
    line = λ number line at. IsLineOf-same rank_of old new line (kept.line number line at) (λ list own. line_lists list (is_line-numbered lines number list (line, at, own))) (λ node in_line. rank_at-entry new node ∙ ap rank (same_entries node) ∙ sym (rank_at-entry old node));
    apart = kept.apart;
    answers = answers;
    off_lines = kept.off_lines;
    there = λ owner node has. same node ∙ kept.there owner node has;
    names = λ owner node has. ap node_owner (same_entries node) ∙ kept.names owner node has;
    once = kept.once;
    unlisted = nothing;
    listed = λ list node at. elim (cases_Bool (is_line lines list)) [
      | inl is ↦
          let earlier : IsIn old list node = rw (ap (λ o. unwrap_or o []) (line_lists list is)) at at in
          (λ apart. let clash : true ≡ false = sym is ∙ apart in absurd (cc), same-owners old new node_of node (same_entries node) (kept.listed list node earlier).1)
      | inr apart ↦ let now = carries list node apart at in (λ again. now.0, same-owners old new node_of node (same_entries node) now.1)
    ];
  }

  pub shown-beside : map (entries new) lines ≡ map (entries old) lines
  shown-beside = all lines (λ list is. is)
    where
      later : (line : Line) (some : List Line) (list : ℕ) → is_line some list ≡ true → is_line (line ∷ some) list ≡ true
      later line some list is = rw is (or_true (is_own list line))

      all : (some : List Line) → ((list : ℕ) → is_line some list ≡ true → is_line lines list ≡ true) → map (entries new) some ≡ map (entries old) some
      all [] within = refl
      all (line ∷ some) within =
          let lists : SameLists old new line = λ list own. line_lists list (within list (is_line-numbered (line ∷ some) 0 list (line, refl, own))) in
          let same : entries new line ≡ entries old line = ap (map (entry_of_node new)) (nodes_in-same old new line lists) ∙ map-agree (entry_of_node new) (entry_of_node old) (nodes_in old line) (λ node at. same_entries node) in
          rw (same, all some (λ list is. within list (later line some list is))) refl

contains_last : (xs : List ℕ) (x : ℕ) → Contains (xs ++ x ∷ []) x
contains_last [] x = contains_first x []
contains_last (y ∷ ys) x = contains_later y x (ys ++ x ∷ []) (contains_last ys x)

contains_before : (xs : List ℕ) (x y : ℕ) → Contains xs y → Contains (xs ++ x ∷ []) y
contains_before [] x y at = contains_later x y [] at
contains_before (z ∷ zs) x y at = elim (contains_cases z y zs at) [
  | inl first ↦ rw first (contains_first z (zs ++ x ∷ []))
  | inr later ↦ contains_later z y (zs ++ x ∷ []) (contains_before zs x y later)
]

pub equal_itself : (n : ℕ) → (n == n) ≡ true
equal_itself n = elim (eqb_tells n n) [ inl same ↦ same.0 | inr differs ↦ absurd (differs.1 refl) ]

pub differs_of : (list answered : ℕ) → list ≢ answered → (list == answered) ≡ false
differs_of list answered apart = elim (eqb_tells list answered) [ inl same ↦ absurd (apart same.1) | inr other ↦ other.0 ]

abbrev pub value_of : Table Waiting → List Line → ℕ → List UserNodes → Queues
value_of t lines answered own = record { lines = map (entries t) lines; threads = threads_of own; servers = servers_of own; users = length own; room = t.room; pipes = waiting_lists t lines answered; answered = answered_calls t answered }

-- a list that is no line's has other nodes, or is gone
module _ {answered : ℕ} (old new : Table Waiting) (lines : List Line) (node_of : Owner → Option ℕ) (list : ℕ) (nodes : Option (List ℕ)) (kept : AreListsOfTable old lines answered node_of) (moved : Moved old new list nodes) (off : is_line lines list ≡ false) where
  line_lists : (other : ℕ) → is_line lines other ≡ true → maps.get new.lists other ≡ maps.get old.lists other
  line_lists other is = moved.lists other (λ same. let clash : true ≡ false = sym is ∙ ap (is_line lines) same ∙ off in cc)

  -- what stands neither there nor in another list carries nothing
  abbrev pub NothingElse : Type 0
  NothingElse = (node : ℕ) → (Contains (unwrap_or nodes []) node → ⊥) → ((IsIn old list node → ⊥) → (waiting_of_node old node).load ≡ Nothing) → (waiting_of_node new node).load ≡ Nothing

  pub Kept-moved : (list ≡ answered → is_some nodes ≡ true) → NothingElse → ((node : ℕ) → Contains (unwrap_or nodes []) node → Carries (list == answered) (waiting_of_node new node) × IsOwners node_of node (node_owner (entry_of_node old node))) → AreListsOfTable new lines answered node_of
  Kept-moved there nothing carries = Kept-beside old new lines node_of kept line_lists moved.entries answers moved.there unlisted (λ other node apart at. elim (eqb_tells other list) [
    | inl same ↦ let here : Contains (unwrap_or nodes []) node = rw (same.1, moved.here) at at in rw same.1 (carries node here)
    | inr differs ↦
        let earlier : IsIn old other node = rw (ap (λ o. unwrap_or o []) (moved.lists other differs.1)) at at in
        let was = kept.listed other node earlier in
        (rw (moved.stays other node differs.1 earlier) (was.0 apart), was.1)
  ])
    where
      answers : ContainsList new answered
      answers = elim (eqb_tells answered list) [
        | inl same ↦ rw (same.1, moved.here) (there (sym same.1))
        | inr differs ↦ ap is_some (moved.lists answered differs.1) ∙ kept.answers
      ]

      unlisted : (node : ℕ) → ((other : ℕ) → IsIn new other node → is_line lines other ≡ false → ⊥) → (waiting_of_node new node).load ≡ Nothing
      unlisted node none = nothing node
          (λ at. none list (rw (ap (λ o. unwrap_or o []) (sym moved.here)) at at) off)
          (λ left. kept.unlisted node (λ other at apart. elim (eqb_tells other list) [
            | inl same ↦ left (rw same.1 at at)
            | inr differs ↦ none other (rw (ap (λ o. unwrap_or o []) (sym (moved.lists other differs.1))) at at) apart
          ]))

  pub shown-moved : map (entries new) lines ≡ map (entries old) lines
  shown-moved = shown-beside old new lines node_of kept line_lists moved.entries

  pub pulses-moved : (asked : Thread → Option ℕ) → KnowsPulses (map (entries old) lines) asked → KnowsPulses (map (entries new) lines) asked
  pulses-moved asked was = rw shown-moved was

  -- other calls wait there, or none any more, and the same are answered
  module _ (apart : list ≢ answered) where
    waiting_here : maps.get (waiting_lists new lines answered) list ≡ option_map (map (call_at new)) nodes
    waiting_here = get-waiting_lists new lines answered list ∙ rw (differs_of list answered apart, off, moved.here) refl

    waiting_others : (other : ℕ) → other ≢ list → maps.get (waiting_lists new lines answered) other ≡ maps.get (waiting_lists old lines answered) other
    waiting_others other differs = get-waiting_lists new lines answered other ∙ elim (cases_Bool (is_pipes lines answered other)) [
      | inr not ↦ rw not (sym (get-waiting_lists old lines answered other ∙ rw not refl))
      | inl is ↦
          rw (is, moved.lists other differs) (same_mapped (call_at new) (call_at old) (maps.get old.lists other) (λ node at. ap users_call_carried (moved.stays other node differs at))
          ∙ sym (get-waiting_lists old lines answered other ∙ rw is refl))
    ]

    pub waiting-moved : (some : List ℕ) → nodes ≡ Some some → waiting_lists new lines answered ≡ maps.insert (waiting_lists old lines answered) list (map (call_at new) some)
    waiting-moved some is = same_map _ _ (λ other. elim (eqb_tells other list) [
      | inl same ↦ rw same.1 (waiting_here ∙ rw is (sym (get-insert_same (waiting_lists old lines answered) list (map (call_at new) some))))
      | inr differs ↦ waiting_others other differs.1 ∙ sym (get-insert_other (waiting_lists old lines answered) list (map (call_at new) some) other differs.1)
    ])

    pub waiting-gone : nodes ≡ None → waiting_lists new lines answered ≡ maps.remove (waiting_lists old lines answered) list
    waiting-gone gone = same_map _ _ (λ other. elim (eqb_tells other list) [
      | inl same ↦ rw same.1 (waiting_here ∙ rw gone (sym (get-remove_same (waiting_lists old lines answered) list)))
      | inr differs ↦ waiting_others other differs.1 ∙ sym (get-remove_other (waiting_lists old lines answered) list other differs.1)
    ])

    pub answered-moved : answered_calls new answered ≡ answered_calls old answered
    answered-moved =
        let differs : answered ≢ list = λ same. apart (sym same) in
        ap (λ o. map (given_at new) (unwrap_or o [])) (moved.lists answered differs)
        ∙ map-agree (given_at new) (given_at old) (nodes_of old answered) (λ node at. ap given_of (moved.stays answered node differs at))

    -- the value then
    module _ (own : List UserNodes) where
      pub value-moved : (some : List ℕ) → nodes ≡ Some some → value_of new lines answered own ≡ with_waiting (value_of old lines answered own) list (map (call_at new) some)
      value-moved some is = same_queues shown-moved refl refl refl moved.room (waiting-moved some is) answered-moved

      pub value-gone : nodes ≡ None → value_of new lines answered own ≡ without_list (value_of old lines answered own) list
      value-gone gone = same_queues shown-moved refl refl refl moved.room (waiting-gone gone) answered-moved

-- others are answered, and the same wait
module _ {answered : ℕ} (old new : Table Waiting) (lines : List Line) (node_of : Owner → Option ℕ) (nodes : List ℕ) (kept : AreListsOfTable old lines answered node_of) (moved : Moved old new answered (Some nodes)) where
  pub value-answered : (own : List UserNodes) (calls : List UsersAnswer) → map (given_at new) nodes ≡ calls → value_of new lines answered own ≡ record (value_of old lines answered own) { answered = calls }
  value-answered own calls is = same_queues (shown-moved old new lines node_of answered (Some nodes) kept moved kept.off_lines) refl refl refl moved.room
      (same_waiting old new lines lines answered (λ list. refl) (λ list pipes. moved.lists list (pipes_apart lines answered list pipes).1) (λ list node pipes at. moved.stays list node (pipes_apart lines answered list pipes).1 at))
      (ap (λ o. map (given_at new) (unwrap_or o [])) moved.here ∙ is)

-- one list gets other nodes, and one node, which stands in no other list, carries something else
module _ (old new : Table Waiting) (list node : ℕ) (nodes : List ℕ) (load : Load) (is : new ≡ with_value (with_nodes old list nodes) node (carrying (entry_of_node old node) load)) (there : ContainsNode old node) where
  values_are : new.values ≡ maps.insert old.values node (carrying (entry_of_node old node) load)
  values_are = ap (λ t. t.values) is

  pub stays-other : (other : ℕ) → other ≢ node → waiting_of_node new other ≡ waiting_of_node old other
  stays-other = waiting-other old new node (inserted old new _ _ values_are)

  pub carries-then : waiting_of_node new node ≡ carrying (entry_of_node old node) load
  carries-then = waiting-same old new node _ values_are

  pub Moved-one : ((other : ℕ) → other ≢ list → IsIn old other node → ⊥) → Moved old new list (Some nodes)
  Moved-one alone = record {
    here = rw is (get-insert_same old.lists list nodes);
    lists = λ other differs. rw is (get-insert_other old.lists list nodes other differs);
    stays = λ other one differs at. stays-other one (λ same. alone other differs (rw same at at));
    there = λ one. elim (eqb_tells one node) [
      | inl same ↦ rw same.1 (contains-self old new node _ values_are ∙ sym there)
      | inr differs ↦ ap is_some (inserted old new node _ values_are one differs.1)
    ];
    entries = λ one. elim (eqb_tells one node) [
      | inl same ↦ rw same.1 (entry-same old new node _ values_are)
      | inr differs ↦ entry-other old new node (inserted old new _ _ values_are) one differs.1
    ];
    room = ap (λ t. t.room) is;
  }

-- only a list comes or goes in which nothing stands
pub nothing-changed : (old new : Table Waiting) (list : ℕ) → new.values ≡ old.values → nodes_of old list ≡ [] → (node : ℕ) → ((IsIn old list node → ⊥) → (waiting_of_node old node).load ≡ Nothing) → (waiting_of_node new node).load ≡ Nothing
nothing-changed old new list values empty node was = ap (λ m. (unwrap_or (maps.get m node) nobodys).load) values ∙ was (λ at. let none : Contains [] node = rw empty at at in omega (arith, none.1))

-- a node leaves its list, and carries nothing any more
module _ {answered : ℕ} (old new : Table Waiting) (lines : List Line) (node_of : Owner → Option ℕ) (list node : ℕ) (kept : AreListsOfTable old lines answered node_of) (is : new ≡ with_value (with_nodes old list (without node (nodes_of old list))) node (idle (entry_of_node old node))) (at : IsIn old list node) (there : ContainsNode old node) (apart : (one two node : ℕ) → IsIn old one node → IsIn old two node → one ≡ two) where
  pub Moved-out : Moved old new list (Some (without node (nodes_of old list)))
  Moved-out = Moved-one old new list node (without node (nodes_of old list)) Nothing is there (λ other differs in_other. differs (apart other list node in_other at))

  stays_left : (other : ℕ) → Contains (without node (nodes_of old list)) other → waiting_of_node new other ≡ waiting_of_node old other
  stays_left other left = stays-other old new list node _ Nothing is there other (λ same. absent_without node (nodes_of old list) (rw same at left))

  pub Kept-out : is_line lines list ≡ false → AreListsOfTable new lines answered node_of
  Kept-out off = Kept-moved old new lines node_of list _ kept Moved-out off (λ same. refl) nothing_else (λ other left.
      let was = kept.listed list other (contains_without node other (nodes_of old list) left) in
      (rw (stays_left other left) (was.0 off), was.1))
    where
      nothing_else : (other : ℕ) → (Contains (without node (nodes_of old list)) other → ⊥) → ((IsIn old list other → ⊥) → (waiting_of_node old other).load ≡ Nothing) → (waiting_of_node new other).load ≡ Nothing
      nothing_else other left was = elim (eqb_tells other node) [
        | inl same ↦ rw same.1 (ap (λ w. w.load) (carries-then old new list node _ Nothing is there))
        | inr differs ↦ ap (λ w. w.load) (stays-other old new list node _ Nothing is there other differs.1) ∙ was (λ at. left (without_keeps node other (nodes_of old list) at differs.1))
      ]

  pub left-out : {B : Type 0} (read : Waiting → B) → map (λ other. read (waiting_of_node new other)) (without node (nodes_of old list)) ≡ map (λ other. read (waiting_of_node old other)) (without node (nodes_of old list))
  left-out read = map-agree _ _ _ (λ other left. ap read (stays_left other left))

-- a free node of a thread's messages comes last into a list, and carries a call of the thread
module _ {answered : ℕ} (old new : Table Waiting) (lines : List Line) (node_of : Owner → Option ℕ) (list node : ℕ) (load : Load) (kept : AreListsOfTable old lines answered node_of) (is : new ≡ with_value (with_nodes old list (nodes_of old list ++ node ∷ [])) node (carrying (entry_of_node old node) load)) (free : IsFree old node) where
  pub Moved-in : Moved old new list (Some (nodes_of old list ++ node ∷ []))
  Moved-in = Moved-one old new list node (nodes_of old list ++ node ∷ []) load is free.there (λ other differs in_other. nowhere old free other in_other)

  stays_before : (other : ℕ) → IsIn old list other → waiting_of_node new other ≡ waiting_of_node old other
  stays_before other before = stays-other old new list node _ load is free.there other (λ same. nowhere old free list (rw same at before))

  pub Kept-in : is_line lines list ≡ false → Carries (list == answered) (carrying (entry_of_node old node) load) → node_of (node_owner (entry_of_node old node)) ≡ Some node → AreListsOfTable new lines answered node_of
  Kept-in off carries own = Kept-moved old new lines node_of list _ kept Moved-in off (λ same. refl) nothing_else (λ other now. elim (Contains-push_cases (nodes_of old list) node other now) [
    | inl before ↦ let was = kept.listed list other before in (rw (stays_before other before) (was.0 off), was.1)
    | inr same ↦ rw (← same) (rw (carries-then old new list node _ load is free.there) carries, λ own_name. own)
  ])
    where
      nothing_else : (other : ℕ) → (Contains (nodes_of old list ++ node ∷ []) other → ⊥) → ((IsIn old list other → ⊥) → (waiting_of_node old other).load ≡ Nothing) → (waiting_of_node new other).load ≡ Nothing
      nothing_else other absent was = elim (eqb_tells other node) [
        | inl same ↦ absurd (absent (rw same.1 (contains_last (nodes_of old list) node)))
        | inr differs ↦ ap (λ w. w.load) (stays-other old new list node _ load is free.there other differs.1) ∙ was (λ at. absent (contains_before (nodes_of old list) node other at))
      ]

  pub more-in : {B : Type 0} (read : Waiting → B) → map (λ other. read (waiting_of_node new other)) (nodes_of old list ++ node ∷ []) ≡ map (λ other. read (waiting_of_node old other)) (nodes_of old list) ++ read (carrying (entry_of_node old node) load) ∷ []
  more-in read =
      map-append (λ other. read (waiting_of_node new other)) (nodes_of old list) (node ∷ [])
      ∙ ap₂ (λ before last. before ++ last ∷ []) (map-agree _ _ _ (λ other before. ap read (stays_before other before))) (ap read (carries-then old new list node _ load is free.there))

-- a list that was not there is no line's and not that of the answered nodes
pub list-new : {answered : ℕ} (old : Table Waiting) (lines : List Line) (node_of : Owner → Option ℕ) → AreListsOfTable old lines answered node_of → (list : ℕ) → maps.get old.lists list ≡ None → (is_line lines list ≡ false) × (list ≢ answered)
list-new {answered} old lines node_of kept list fresh = (
  elim (cases_Bool (is_line lines list)) [
    | inr off ↦ off
    | inl is ↦
        let of = line_of lines list is in
        absurd (absent_is (maps.get old.lists list) ((kept.line of.0 of.1.0 of.1.1).there list of.1.2) fresh)
  ],
  λ same. absent_is (maps.get old.lists answered) kept.answers (rw (← same) fresh),
)
