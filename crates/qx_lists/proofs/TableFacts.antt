-- What a caller of a table's calls uses: which lists and nodes are there, which nodes are free and which stand in a list, as one entry changes.
use Rattle.std.proofs.Common.{◌≡◌, ◌≢◌, inl, inr, ℕ, true, List, [], ◌∷◌, ◌++◌, Contains, Some, slice_get, get_or, length, ◌<◌, is_some, unwrap_or, drop, refl, sym, ◌∙◌, ap, arith}
use Rattle.std.specs.FinMap as map
use Rattle.std.specs.Ordering.{nat_cmp}
use Rattle.std.proofs.lemmas.Grind.{StandsIn}
use Rattle.std.proofs.lemmas.Bool.Decides.{eqb_tells}
use Rattle.std.proofs.lemmas.List.Elements.{Contains-append_left, Contains-push, Contains-push_cases}
use Rattle.qx_lists.specs.Table.{Table, ContainsList, StandsNowhere, next_after, nodes_of, put_before, with_nodes, without}
use Rattle.qx_lists.proofs.MapLemmas.{get-insert_same, get-insert_other, get-remove_same, get-remove_other}
use Rattle.qx_lists.proofs.ListLemmas.{contains_next, contains_put_before, contains_rest, contains_slice_first, contains_without, nowhere_from, put_before_keeps, put_before_puts, stands_nowhere, without_keeps}

module _ {T : Type 0} (t : Table T) (list : ℕ) (nodes : List ℕ) where
  pub nodes_of-with_nodes_same : nodes_of (with_nodes t list nodes) list ≡ nodes
  nodes_of-with_nodes_same = ap (λ o. unwrap_or o []) (get-insert_same t.lists list nodes)

  pub ContainsList-with_nodes_same : ContainsList (with_nodes t list nodes) list
  ContainsList-with_nodes_same = ap is_some (get-insert_same t.lists list nodes)

-- what is there stays there. The first part says nothing: it shows `grind` the call to match
pub kept_there : {X : Type 0} (m : map.FinMap nat_cmp X) (k : ℕ) (v : X) (q : ℕ) → is_some (map.get m q) ≡ true → (map.get (map.insert m k v) q ≡ map.get (map.insert m k v) q) × (is_some (map.get (map.insert m k v) q) ≡ true)
kept_there m k v q there = (
  refl,
  elim (eqb_tells q k) [
    | inl same ↦ rw same.1 (ap is_some (get-insert_same m k v))
    | inr differs ↦ ap is_some (get-insert_other m k v q differs.1) ∙ there
  ],
)

-- a node that no list has, as one list changes
module _ (lists : map.FinMap nat_cmp (List ℕ)) (list : ℕ) where
  abbrev nodes_at : ℕ → List ℕ
  nodes_at one = unwrap_or (map.get lists one) []

  nowhere-insert : (nodes : List ℕ) (node : ℕ) → StandsNowhere lists node → (Contains nodes node → ⊥) → StandsNowhere (map.insert lists list nodes) node
  nowhere-insert nodes node nowhere absent = nowhere_from _ node (λ other stands. elim (eqb_tells other list) [
    | inl same ↦
        let here : Contains (unwrap_or (map.get (map.insert lists list nodes) list) []) node = rw same.1 at stands in
        absent (rw (get-insert_same lists list nodes) at here)
    | inr differs ↦
        let there : Contains (nodes_at other) node = rw (get-insert_other lists list nodes other differs.1) at stands in
        stands_nowhere lists node nowhere other there
  ])

  pub nowhere-add_list : (other : ℕ) → StandsNowhere lists other → StandsNowhere (map.insert lists list []) other
  nowhere-add_list other nowhere = nowhere-insert [] other nowhere (λ stands. omega (arith, stands.1))

  pub nowhere-free_list : (other : ℕ) → StandsNowhere lists other → StandsNowhere (map.remove lists list) other
  nowhere-free_list other nowhere = nowhere_from _ other (λ one stands. elim (eqb_tells one list) [
    | inl same ↦
        let here : Contains (unwrap_or (map.get (map.remove lists list) list) []) other = rw same.1 at stands in
        let none : Contains [] other = rw (get-remove_same lists list) at here in
        omega (arith, none.1)
    | inr differs ↦
        let there : Contains (nodes_at one) other = rw (get-remove_other lists list one differs.1) at stands in
        stands_nowhere lists other nowhere one there
  ])

  pub nowhere-push_back : (node other : ℕ) → StandsNowhere lists other → other ≢ node → StandsNowhere (map.insert lists list (nodes_at list ++ node ∷ [])) other
  nowhere-push_back node other nowhere differs = nowhere-insert _ other nowhere (λ stands. elim (Contains-push_cases (nodes_at list) node other stands) [
    | inl before ↦ stands_nowhere lists other nowhere list before
    | inr same ↦ differs (sym same)
  ])

  pub nowhere-insert_before : (node at other : ℕ) → StandsNowhere lists other → other ≢ node → StandsNowhere (map.insert lists list (put_before node at (nodes_at list))) other
  nowhere-insert_before node at other nowhere differs = nowhere-insert _ other nowhere (λ stands. elim (contains_put_before node at other (nodes_at list) stands) [
    | inl same ↦ differs same
    | inr before ↦ stands_nowhere lists other nowhere list before
  ])

  pub nowhere-unlink : (node other : ℕ) → StandsNowhere lists other → StandsNowhere (map.insert lists list (without node (nodes_at list))) other
  nowhere-unlink node other nowhere = nowhere-insert _ other nowhere (λ stands. stands_nowhere lists other nowhere list (contains_without node other (nodes_at list) stands))

  pub nowhere-pop_front : (other : ℕ) → StandsNowhere lists other → StandsNowhere (map.insert lists list (drop 1 (nodes_at list))) other
  nowhere-pop_front other nowhere = nowhere-insert _ other nowhere (λ stands. stands_nowhere lists other nowhere list (contains_rest other (nodes_at list) stands))

-- a node that stands in a list. The index is the premises', for `grind`
module _ (nodes : List ℕ) (node : ℕ) where
  pub in_push_back : StandsIn (nodes ++ node ∷ []) node
  in_push_back = (refl, Contains-push nodes node)

  pub in_push_back_still : (k other : ℕ) → k < length nodes → other ≡ get_or nodes k other → StandsIn (nodes ++ node ∷ []) other
  in_push_back_still k other within is = (refl, Contains-append_left nodes (node ∷ []) other (k, within, sym is))

  pub in_insert_before : (at k : ℕ) → k < length nodes → at ≡ get_or nodes k at → StandsIn (put_before node at nodes) node
  in_insert_before at k within is = (refl, put_before_puts node at nodes (k, within, sym is))

  pub in_insert_before_still : (at k other : ℕ) → k < length nodes → other ≡ get_or nodes k other → StandsIn (put_before node at nodes) other
  in_insert_before_still at k other within is = (refl, put_before_keeps node at other nodes (k, within, sym is))

  pub in_unlink_still : (k other : ℕ) → k < length nodes → other ≡ get_or nodes k other → other ≢ node → StandsIn (without node nodes) other
  in_unlink_still k other within is differs = (refl, without_keeps node other nodes (k, within, sym is) differs)

-- the node that a step of a walk gives stands in the list
pub in_first : (nodes : List ℕ) (node : ℕ) → slice_get nodes 0 ≡ Some node → (slice_get nodes 0 ≡ slice_get nodes 0) × Contains nodes node
in_first nodes node is = (refl, contains_slice_first nodes node is)

pub in_next : (nodes : List ℕ) (at node : ℕ) → next_after at nodes ≡ Some node → (next_after at nodes ≡ next_after at nodes) × Contains nodes node
in_next nodes at node is = (refl, contains_next nodes at node is)

pub ruleset table_facts = (kept_there, nowhere-add_list, nowhere-free_list, nowhere-push_back, nowhere-insert_before, nowhere-unlink, nowhere-pop_front, in_push_back, in_push_back_still, in_insert_before, in_insert_before_still, in_unlink_still, in_first, in_next, get-insert_same, get-insert_other, get-remove_same, get-remove_other)
