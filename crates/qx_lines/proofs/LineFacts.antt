-- What a caller of a line's calls uses, and how the line stands as one of its lists gets other nodes.
use Rattle.std.proofs.Common.{true, false, inl, inr, None, Contains, ◌≢◌, is_some, Some, unwrap_or, option_map, ◌≡◌, ◌⊎◌, ℕ, ◌+◌, ◌<◌, ◌≤◌, List, [], ◌∷◌, ◌++◌, nat_eq, slice_get, get_or, length, length-append, drop, refl, sym, ◌∙◌, ap, subst, arith}
use Rattle.std.specs.FinMap as map
use Rattle.std.specs.List.{IsDistinct}
use Rattle.std.specs.Ordering.{nat_cmp}
use Rattle.std.proofs.lemmas.Grind.{StandsIn}
use Rattle.std.proofs.lemmas.List.Elements.{Contains-get_or}
use Rattle.std.proofs.lemmas.Bool.Decides.{eqb_tells}
use Rattle.qx_lists.specs.Table.{Table, ContainsNode, IsFree, IsIn, StandsNowhere, nodes_of, with_nodes, without}
use Rattle.qx_lists.proofs.TableFacts.{nodes_of-with_nodes_same, kept_there, table_facts}
use Rattle.qx_lists.proofs.ListLemmas.{apart_from_distinct, avoids_from, contains_cases, contains_later, distinct_from_apart, length-keys, nowhere_from, stands_nowhere}
use Rattle.qx_lists.proofs.PathLemmas.{IsApart}
use Rattle.qx_lists.proofs.MapLemmas.{get-insert_other, get-remove_other}
use Rattle.qx_isolation.specs.Lines.{into}
use Rattle.qx_lines.specs.declared.Line.{Line}
use Rattle.qx_lines.specs.declared.marks.TheConstants.{PRIORITIES}
use Rattle.qx_lines.specs.Line.{AreApart, AreMarked, AreRanked, IsInLine, IsLineOf, IsOwn, SameElsewhere, item_count, nodes_in, rank_at}
use Rattle.qx_lines.specs.inner.Line.{list_of, IsRemarked}
use Rattle.qx_lines.specs.Marks.{is_marked}
use Rattle.qx_lines.specs.inner.Marks.{IsHighest}
use Rattle.qx_lines.proofs.BucketLemmas.{above, below, apart_last_first, contains_above, contains_below, contains_last_first, into-between, last_first-changed, last_first-contains, last_first-none, last_first-same, last_first-split, rest-joined, without-between}
use Rattle.qx_lines.proofs.NewLemmas.{get_or_any}
use Rattle.qx_lines.proofs.NodeLemmas.{contains_into, into_keeps, length-into}

-- what it is that a line's lists are apart, its nodes in the lists of their priorities, and its priorities marked
pub list_once : (lists : List ℕ) → AreApart lists → (one other : ℕ) → one < length lists → other < length lists → get_or lists one 0 ≡ get_or lists other 0 → one ≡ other
unfolding AreApart
list_once lists apart = apart

module _ {T : Type 0} (rank : T → ℕ) (t : Table T) (own : List ℕ) where
  pub ranked_at : AreRanked rank t.values t.lists own → (priority node : ℕ) → priority < length own → Contains (nodes_of t (get_or own priority 0)) node → rank_at rank t node ≡ priority
  unfolding AreRanked
  ranked_at ranked = ranked

  pub ranked_from : ((priority node : ℕ) → priority < length own → Contains (nodes_of t (get_or own priority 0)) node → rank_at rank t node ≡ priority) → AreRanked rank t.values t.lists own
  unfolding AreRanked
  ranked_from ranked = ranked

module _ {T : Type 0} (words : List ℕ) (t : Table T) (own : List ℕ) where
  pub marked_at : AreMarked words t.lists own → (priority : ℕ) → priority < length own → is_marked words priority ≡ is_some (slice_get (nodes_of t (get_or own priority 0)) 0)
  unfolding AreMarked
  marked_at marked = marked

  pub marked_from : ((priority : ℕ) → priority < length own → is_marked words priority ≡ is_some (slice_get (nodes_of t (get_or own priority 0)) 0)) → AreMarked words t.lists own
  unfolding AreMarked
  marked_from marked = marked

pub in_none : (node : ℕ) (nodes : List ℕ) → nodes ≡ [] → Contains nodes node → ⊥
in_none node nodes none at = let clash : Contains [] node = subst (λ ns. Contains ns node) none at in omega (arith, clash.1)

none_where : (nodes : List ℕ) → is_some (slice_get nodes 0) ≡ false → nodes ≡ []
none_where [] is = refl
none_where (x ∷ nodes) is = let clash : true ≡ false = is in absurd (cc)

pub some_where : (nodes : List ℕ) → is_some (slice_get nodes 0) ≡ true → slice_get nodes 0 ≡ None → ⊥
some_where [] some none = let clash : false ≡ true = some in cc
some_where (x ∷ nodes) some none = let clash : Some x ≡ None = none in cc

-- what a line tells of its nodes
module _ {T : Type 0} (rank : T → ℕ) (t : Table T) (line : Line) (stands : IsLineOf rank t line) where
  -- a node stands in the list of its priority
  pub in_own_list : (node : ℕ) → IsInLine t line node → (rank_at rank t node < length line.lists) × IsIn t (list_of line (rank_at rank t node)) node
  in_own_list node at =
      let found = contains_last_first (nodes_of t) line.lists node at in
      let same : rank_at rank t node ≡ found.0 = ranked_at rank t line.lists stands.ranked found.0 node found.1 found.2 in
      (omega (arith, same, found.1), subst (λ priority. IsIn t (list_of line priority) node) (sym same) found.2)

  above_is_higher : (priority node : ℕ) → Contains (above (nodes_of t) line.lists priority) node → priority < rank_at rank t node
  above_is_higher priority node at =
      let found = contains_above (nodes_of t) line.lists priority node at in
      let same = ranked_at rank t line.lists stands.ranked found.0 node found.2 found.3 in
      omega (arith, same, found.1)

  below_is_lower : (priority node : ℕ) → priority < length line.lists → Contains (below (nodes_of t) line.lists priority) node → rank_at rank t node < priority
  below_is_lower priority node within at =
      let found = contains_below (nodes_of t) line.lists priority node within at in
      let same = ranked_at rank t line.lists stands.ranked found.0 node (omega (arith, found.1)) found.2 in
      omega (arith, same, found.1)

  -- where no priority is marked, no node is there; and nodes of the highest that is marked stand in front
  pub nodes_in-none : ((priority : ℕ) → is_marked line.marks.words priority ≡ false) → nodes_in t line ≡ []
  nodes_in-none none = last_first-none (nodes_of t) line.lists (λ i within. none_where (nodes_of t (list_of line i)) (sym (marked_at line.marks.words t line.lists stands.marked i within) ∙ none i))

  pub nodes_in-highest : (priority : ℕ) → priority < length line.lists → ((higher : ℕ) → priority < higher → is_marked line.marks.words higher ≡ false) → nodes_in t line ≡ nodes_of t (list_of line priority) ++ below (nodes_of t) line.lists priority
  nodes_in-highest priority within none =
      let empty : above (nodes_of t) line.lists priority ≡ [] = by_nodes (above (nodes_of t) line.lists priority) (λ node at.
      let found = contains_above (nodes_of t) line.lists priority node at in
      let nothing : nodes_of t (list_of line found.0) ≡ [] = none_where (nodes_of t (list_of line found.0)) (sym (marked_at line.marks.words t line.lists stands.marked found.0 found.2) ∙ none found.0 found.1) in
      in_none node (nodes_of t (list_of line found.0)) nothing found.3) in
      last_first-split (nodes_of t) line.lists priority within ∙ ap (λ front. front ++ (nodes_of t (list_of line priority) ++ below (nodes_of t) line.lists priority)) empty
    where
      by_nodes : (nodes : List ℕ) → ((node : ℕ) → Contains nodes node → ⊥) → nodes ≡ []
      by_nodes [] none = refl
      by_nodes (x ∷ nodes) none = absurd (none x (0, omega arith, refl))

  -- the highest priority that is marked has the first node
  module _ (priority : ℕ) (highest : IsHighest line.marks.words PRIORITIES priority) where
    pub highest_within : priority < length line.lists
    highest_within = omega (arith, highest.within, stands.whole)

    pub highest_some : slice_get (nodes_of t (list_of line priority)) 0 ≡ None → ⊥
    highest_some = some_where (nodes_of t (list_of line priority)) (sym (marked_at line.marks.words t line.lists stands.marked priority highest_within) ∙ highest.marked)

    pub first_is : slice_get (nodes_of t (list_of line priority)) 0 ≡ slice_get (nodes_in t line) 0
    first_is = by_nodes (nodes_of t (list_of line priority)) (below (nodes_of t) line.lists priority) highest_some ∙ ap (λ nodes. slice_get nodes 0) (sym (nodes_in-highest priority highest_within highest.highest))
      where
        by_nodes : (here back : List ℕ) → (slice_get here 0 ≡ None → ⊥) → slice_get here 0 ≡ slice_get (here ++ back) 0
        by_nodes [] back some = absurd (some refl)
        by_nodes (x ∷ here) back some = refl

  nodes_in-apart : ((list : ℕ) → IsDistinct nat_eq (nodes_of t list)) → IsApart (nodes_in t line)
  nodes_in-apart distinct = apart_last_first (nodes_of t) line.lists (λ i within. apart_from_distinct (nodes_of t (list_of line i)) (distinct (list_of line i)))
      (λ i j node in_i in_j at_i at_j. sym (ranked_at rank t line.lists stands.ranked i node in_i at_i) ∙ ranked_at rank t line.lists stands.ranked j node in_j at_j)

  -- no node stands in the line twice
  pub nodes_in-distinct : ((list : ℕ) → IsDistinct nat_eq (nodes_of t list)) → IsDistinct nat_eq (nodes_in t line)
  nodes_in-distinct distinct = distinct_from_apart (nodes_in t line) (nodes_in-apart distinct)

  -- a node that stands in the line is there
  pub in_line_there : ((list node : ℕ) → IsIn t list node → ContainsNode t node) → (node : ℕ) → IsInLine t line node → ContainsNode t node
  in_line_there there node at = let own = in_own_list node at in there (list_of line (rank_at rank t node)) node own.1

  -- there are fewer nodes in the line than nodes, where one is in no list
  pub nodes_in-room : ((list : ℕ) → IsDistinct nat_eq (nodes_of t list)) → ((list node : ℕ) → IsIn t list node → ContainsNode t node) → (node : ℕ) → IsFree t node → length (nodes_in t line) + 1 ≤ map.len t.values
  nodes_in-room distinct there node free = let more = length-keys t.values (node ∷ nodes_in t line) (
    avoids_from (Some node) (nodes_in t line) (λ x at same. let equal : x ≡ node = cc in
        let own = in_own_list x at in
        stands_nowhere t.lists node free.in_no_list (list_of line (rank_at rank t x)) (subst (IsIn t (list_of line (rank_at rank t x))) equal own.1)),
    nodes_in-apart distinct,
  )
      (λ x at. elim (contains_cases node x (nodes_in t line) at) [
        | inl same ↦ subst (ContainsNode t) (sym same) free.there
        | inr inside ↦ in_line_there there x inside
      ]) in omega (arith, more)

-- one of the line's lists gets other nodes
module _ {T : Type 0} (rank : T → ℕ) (t new : Table T) (line : Line) (stands : IsLineOf rank t line) (priority : ℕ) (within : priority < length line.lists) (nodes : List ℕ) (is : new ≡ with_nodes t (list_of line priority) nodes) where
  pub nodes_here : nodes_of new (list_of line priority) ≡ nodes
  nodes_here = ap (λ table. nodes_of table (list_of line priority)) is ∙ nodes_of-with_nodes_same t (list_of line priority) nodes

  lists_elsewhere : (list : ℕ) → list ≢ list_of line priority → map.get new.lists list ≡ map.get t.lists list
  lists_elsewhere list differs = ap (λ table. map.get table.lists list) is ∙ get-insert_other t.lists (list_of line priority) nodes list differs

  others : (i : ℕ) → i < length line.lists → i ≢ priority → nodes_of new (list_of line i) ≡ nodes_of t (list_of line i)
  others i inside differs = ap (λ o. unwrap_or o []) (lists_elsewhere (list_of line i) (λ same. differs (list_once line.lists stands.apart i priority inside within same)))

  pub nodes_in-changed : (after : Line) → after.lists ≡ line.lists → nodes_in new after ≡ above (nodes_of t) line.lists priority ++ (nodes ++ below (nodes_of t) line.lists priority)
  nodes_in-changed after same =
      ap (λ lists. nodes_in new (record line { lists = lists })) same
      ∙ last_first-changed (nodes_of t) (nodes_of new) line.lists priority within others
      ∙ ap (λ here. above (nodes_of t) line.lists priority ++ (here ++ below (nodes_of t) line.lists priority)) nodes_here

  nodes_in-was : nodes_in t line ≡ above (nodes_of t) line.lists priority ++ (nodes_of t (list_of line priority) ++ below (nodes_of t) line.lists priority)
  nodes_in-was = last_first-split (nodes_of t) line.lists priority within

  pub elsewhere-changed : SameElsewhere t new line
  elsewhere-changed = record {
    values = ap (λ table. table.values) is;
    room = ap (λ table. table.room) is;
    lists = λ list not_own. lists_elsewhere list (λ same. not_own (subst (IsOwn line) (sym same) (Contains-get_or line.lists priority 0 within)));
  }

  same_rank : (node : ℕ) → rank_at rank new node ≡ rank_at rank t node
  same_rank node = ap (λ table. rank_at rank table node) is

  pub line-changed : (after : Line) → after.lists ≡ line.lists → item_count after ≡ length (nodes_in new after) → is_marked after.marks.words priority ≡ is_some (slice_get nodes 0) → ((other : ℕ) → other ≢ priority → is_marked after.marks.words other ≡ is_marked line.marks.words other) → ((node : ℕ) → Contains nodes node → rank_at rank t node ≡ priority) → IsLineOf rank new after
  line-changed after same counted set unset ranks = record {
    whole = ap length same ∙ stands.whole;
    there = λ list own. ap (λ table. is_some (map.get table.lists list)) is ∙ (kept_there t.lists (list_of line priority) nodes list (stands.there list (subst (λ lists. Contains lists list) same own))).1;
    apart = subst AreApart (sym same) stands.apart;
    counted = counted;
    marked = subst (AreMarked after.marks.words new.lists) (sym same) (marked_from after.marks.words new line.lists (λ at inside. elim (eqb_tells at priority) [
      | inl here ↦ subst (λ p. is_marked after.marks.words p ≡ is_some (slice_get (nodes_of new (list_of line p)) 0)) (sym here.1) (set ∙ ap (λ ns. is_some (slice_get ns 0)) (sym nodes_here))
      | inr apart ↦ unset at apart.1 ∙ marked_at line.marks.words t line.lists stands.marked at inside ∙ ap (λ ns. is_some (slice_get ns 0)) (sym (others at inside apart.1))
    ]));
    ranked = subst (AreRanked rank new.values new.lists) (sym same) (ranked_from rank new line.lists (λ at node inside stands_at. same_rank node ∙ elim (eqb_tells at priority) [
      | inl here ↦ ranks node (subst (λ ns. Contains ns node) nodes_here (subst (λ p. IsIn new (list_of line p) node) here.1 stands_at)) ∙ sym here.1
      | inr apart ↦ ranked_at rank t line.lists stands.ranked at node inside (subst (λ ns. Contains ns node) (others at inside apart.1) stands_at)
    ]));
  }

  -- where the priority is marked anew, after nodes went
  pub line-remarked : (marked : Line) (len : ℕ) → IsRemarked line marked priority (is_some (slice_get (nodes_of new (list_of line priority)) 0)) → len ≡ length (nodes_in new (record { lists = marked.lists; marks = marked.marks; len = len })) → ((node : ℕ) → Contains nodes node → IsIn t (list_of line priority) node) → IsLineOf rank new (record { lists = marked.lists; marks = marked.marks; len = len })
  line-remarked marked len marks counted fewer =
      line-changed (record { lists = marked.lists; marks = marked.marks; len = len }) marks.lists counted (marks.set ∙ ap (λ ns. is_some (slice_get ns 0)) nodes_here) marks.others
      (λ node at. ranked_at rank t line.lists stands.ranked priority node within (fewer node at))

  -- a node of that priority comes last in it
  pub nodes_in-put : (after : Line) (node : ℕ) → after.lists ≡ line.lists → nodes ≡ nodes_of t (list_of line priority) ++ node ∷ [] → priority ≡ rank_at rank t node → nodes_in new after ≡ into (rank_at rank t) (nodes_in t line) node
  nodes_in-put after node same put own =
      nodes_in-changed after same
      ∙ ap (λ here. above (nodes_of t) line.lists priority ++ (here ++ below (nodes_of t) line.lists priority)) put
      ∙ into-between (rank_at rank t) (above (nodes_of t) line.lists priority) (nodes_of t (list_of line priority)) (below (nodes_of t) line.lists priority) node
      (λ x at. let higher = above_is_higher rank t line stands priority x at in omega (arith, higher, own))
      (λ x at. let equal = ranked_at rank t line.lists stands.ranked priority x within at in omega (arith, equal, own))
      (λ x at. let lower = below_is_lower rank t line stands priority x within at in omega (arith, lower, own))
      ∙ ap (λ line. into (rank_at rank t) line node) (sym nodes_in-was)

  -- a node of that priority goes
  pub nodes_in-removed : (after : Line) (node : ℕ) → after.lists ≡ line.lists → nodes ≡ without node (nodes_of t (list_of line priority)) → priority ≡ rank_at rank t node → nodes_in new after ≡ without node (nodes_in t line)
  nodes_in-removed after node same gone own =
      nodes_in-changed after same
      ∙ ap (λ here. above (nodes_of t) line.lists priority ++ (here ++ below (nodes_of t) line.lists priority)) gone
      ∙ without-between node (above (nodes_of t) line.lists priority) (nodes_of t (list_of line priority)) (below (nodes_of t) line.lists priority)
      (λ at. let higher = above_is_higher rank t line stands priority node at in omega (arith, higher, own))
      (λ at. let lower = below_is_lower rank t line stands priority node within at in omega (arith, lower, own))
      ∙ ap (without node) (sym nodes_in-was)

  -- the first node of the highest priority that has any goes
  pub nodes_in-taken : (after : Line) (node : ℕ) → after.lists ≡ line.lists → nodes ≡ drop 1 (nodes_of t (list_of line priority)) → slice_get (nodes_of t (list_of line priority)) 0 ≡ Some node → ((higher : ℕ) → priority < higher → is_marked line.marks.words higher ≡ false) → nodes_in new after ≡ drop 1 (nodes_in t line)
  nodes_in-taken after node same rest first none =
      let here = nodes_of t (list_of line priority) in
      let back = below (nodes_of t) line.lists priority in
      let whole = nodes_in-highest rank t line stands priority within none in
      let empty : above (nodes_of t) line.lists priority ≡ [] = front_none (above (nodes_of t) line.lists priority) (here ++ back) (sym nodes_in-was ∙ whole) in
      nodes_in-changed after same ∙ ap (λ ns. above (nodes_of t) line.lists priority ++ (ns ++ back)) rest ∙ ap (λ front. front ++ (drop 1 here ++ back)) empty ∙ rest-joined here back node first ∙ ap (drop 1) (sym whole)
    where
      front_none : (front back : List ℕ) → front ++ back ≡ back → front ≡ []
      front_none [] back same = refl
      front_none (x ∷ front) back same = let longer = ap length same in absurd (omega (arith, length-append (x ∷ front) back, longer))

-- a line stays one where its own lists and the priorities of its nodes stay
pub IsLineOf-same : {T : Type 0} (rank : T → ℕ) (t new : Table T) (line : Line) → IsLineOf rank t line → ((list : ℕ) → IsOwn line list → map.get new.lists list ≡ map.get t.lists list) → ((node : ℕ) → IsInLine t line node → rank_at rank new node ≡ rank_at rank t node) → IsLineOf rank new line
IsLineOf-same rank t new line stands same_lists same_ranks =
    let same : (i : ℕ) → i < length line.lists → nodes_of new (list_of line i) ≡ nodes_of t (list_of line i) = λ i within. ap (λ o. unwrap_or o []) (same_lists (list_of line i) (Contains-get_or line.lists i 0 within)) in
    record {
      whole = stands.whole;
      there = λ list own. ap is_some (same_lists list own) ∙ stands.there list own;
      apart = stands.apart;
      counted = stands.counted ∙ ap length (sym (last_first-same (nodes_of t) (nodes_of new) line.lists same));
      marked = marked_from line.marks.words new line.lists (λ i within. marked_at line.marks.words t line.lists stands.marked i within ∙ ap (λ ns. is_some (slice_get ns 0)) (sym (same i within)));
      ranked = ranked_from rank new line.lists (λ i node within at.
          let was : IsIn t (list_of line i) node = subst (λ ns. Contains ns node) (same i within) at in
          same_ranks node (last_first-contains (nodes_of t) line.lists i node within was) ∙ ranked_at rank t line.lists stands.ranked i node within was);
    }

-- a line keeps its nodes where its own lists stay
pub nodes_in-same : {T : Type 0} (t new : Table T) (line : Line) → ((list : ℕ) → IsOwn line list → map.get new.lists list ≡ map.get t.lists list) → nodes_in new line ≡ nodes_in t line
nodes_in-same t new line same = last_first-same (nodes_of t) (nodes_of new) line.lists (λ i within. ap (λ o. unwrap_or o []) (same (list_of line i) (Contains-get_or line.lists i 0 within)))

-- a line stays one as another line changes
pub IsLineOf-elsewhere : {T : Type 0} (rank : T → ℕ) (t new : Table T) (line other : Line) → IsLineOf rank t line → SameElsewhere t new other → ((list : ℕ) → IsOwn line list → IsOwn other list → ⊥) → IsLineOf rank new line
IsLineOf-elsewhere rank t new line other stands same apart =
    IsLineOf-same rank t new line stands (λ list own. same.lists list (apart list own)) (λ node at. ap (λ values. unwrap_or (option_map rank (map.get values node)) 0) same.values)

-- a new line has no list of one that was there
pub apart_from_new : {T : Type 0} (rank : T → ℕ) (t : Table T) (line new : Line) → IsLineOf rank t line → ((list : ℕ) → IsOwn new list → map.get t.lists list ≡ None) → (list : ℕ) → IsOwn line list → IsOwn new list → ⊥
apart_from_new rank t line new stands absent list own own_new =
    let there : is_some (map.get t.lists list) ≡ true = stands.there list own in
    let clash : false ≡ true = ap is_some (sym (absent list own_new)) ∙ there in
    cc

-- the line's nodes keep their priorities as a node in no list comes or goes
module _ {T : Type 0} (rank : T → ℕ) (values : map.FinMap nat_cmp T) (lists : map.FinMap nat_cmp (List ℕ)) (own : List ℕ) (node : ℕ) where
  same_ranks : (new : map.FinMap nat_cmp T) → ((other : ℕ) → other ≢ node → map.get new other ≡ map.get values other) → AreRanked rank values lists own → StandsNowhere lists node → AreRanked rank new lists own
  unfolding AreRanked
  same_ranks new same ranked nowhere priority other within at =
      ap (λ o. unwrap_or (option_map rank o) 0) (same other (λ is. stands_nowhere lists node nowhere (get_or own priority 0) (subst (Contains (unwrap_or (map.get lists (get_or own priority 0)) [])) is at))) ∙ ranked priority other within at

  pub ranked-new_node : (value : T) → AreRanked rank values lists own → StandsNowhere lists node → AreRanked rank (map.insert values node value) lists own
  ranked-new_node value = same_ranks (map.insert values node value) (λ other differs. get-insert_other values node value other differs)

  pub ranked-free_node : AreRanked rank values lists own → StandsNowhere lists node → AreRanked rank (map.remove values node) lists own
  ranked-free_node = same_ranks (map.remove values node) (λ other differs. get-remove_other values node other differs)

own_or_not : (lists : List ℕ) (list : ℕ) → Contains lists list ⊎ (Contains lists list → ⊥)
own_or_not [] list = inr (λ at. omega (arith, at.1))
own_or_not (own ∷ lists) list = elim (eqb_tells list own) [
  | inl same ↦ inl (0, omega arith, sym same.1)
  | inr differs ↦ elim (own_or_not lists list) [
    | inl later ↦ inl (contains_later own list lists later)
    | inr absent ↦ inr (λ at. elim (contains_cases own list lists at) [ inl here ↦ differs.1 here | inr later ↦ absent later ])
  ]
]

-- a node stays in no list as a line changes, where it is not put there
pub nowhere-line : {T : Type 0} (t new : Table T) (line after : Line) (node : ℕ) → StandsNowhere t.lists node → SameElsewhere t new line → after.lists ≡ line.lists → (IsInLine new after node → ⊥) → StandsNowhere new.lists node
nowhere-line t new line after node nowhere same own absent = nowhere_from new.lists node (λ list at. elim (own_or_not after.lists list) [
  | inl has ↦ absent (last_first-contains (nodes_of new) after.lists has.0 node has.1 (subst (λ l. IsIn new l node) (sym has.2 ∙ get_or_any after.lists has.0 0 list has.1) at))
  | inr has_not ↦ stands_nowhere t.lists node nowhere list (subst (λ o. Contains (unwrap_or o []) node) (same.lists list (λ has. has_not (subst (λ lists. Contains lists list) (sym own) has))) at)
])

-- a node that stands in a line. The index is the premises', for `grind`
module _ (rank : ℕ → ℕ) (nodes : List ℕ) (node : ℕ) where
  pub in_put : StandsIn (into rank nodes node) node
  in_put = (refl, contains_into rank nodes node)

  pub in_put_still : (k other : ℕ) → k < length nodes → other ≡ get_or nodes k other → StandsIn (into rank nodes node) other
  in_put_still k other within is = (refl, into_keeps rank nodes node other (k, within, sym is))

pub ruleset line_facts = (table_facts, ranked-new_node, ranked-free_node, in_put, in_put_still, length-into, nowhere-line)
