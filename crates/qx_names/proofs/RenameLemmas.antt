-- What becomes of the list as an entry goes to another place, with its node.
use Rattle.std.specs.Prelude.{ℕ, zero, suc, ◌≢◌, ◌<◌, ◌⊎◌, List, [], ◌∷◌, Contains, Option, None, Some, insert, is_some, length, map as mapped, nat_eq, remove, slice_get, unwrap_or, Result, Ok, Err, IsOk, is_ok, if◌then◌else◌}
use Rattle.std.specs.FinMap as map
use Rattle.std.specs.FinMap.Entries.{find, find-where_key, is_sorted-put, is_sorted-where_key, put, where_key}
use Rattle.std.specs.List.{IsDistinct}
use Rattle.std.specs.Ordering.{nat_cmp}
use Rattle.std.proofs.Common.{◌≡◌, Bool, true, false, cond, inl, inr, ap, arith, refl, subst, sym, ◌∙◌}
use Rattle.std.proofs.lemmas.Bool.Decides.{eqb_tells}
use Rattle.qx_lists.specs.Table.{ContainsNode, IsIn, Table, nodes_of, with_nodes, with_value, without}
use Rattle.qx_lists.proofs.ListLemmas.{absent_without, contains_without, without_keeps}
use Rattle.qx_lists.proofs.MapLemmas.{get-insert_other, get-insert_same}
use Rattle.qx_lists.proofs.WalkLemmas.{contains-index}
use Rattle.qx_names.specs.inner.Children.{Children, Entry, IsRising, Keeps, KeepsAll, Turns, count_to, entries_of, entry_of, folder_of, no_children}
use Rattle.qx_names.specs.inner.Folders.{Place, place_cmp}
use Rattle.qx_names.proofs.ChildLemmas.{child_there, node-listed, nodes-distinct, nodes-listed, none_some}
use Rattle.qx_names.proofs.IndexLemmas.{Contains-insert, insert-Contains, map-insert, map-remove, without-index}
use Rattle.qx_names.proofs.RisingLemmas.{from-put, from-where, insert-put, other_than, place_total, places_same, remove-where}

some_by : (nodes : List ℕ) (i node : ℕ) → 0 < length (insert nodes i node)
some_by nodes zero node = omega arith
some_by [] (suc i) node = omega arith
some_by (x ∷ nodes) (suc i) node = omega arith

none_by : (b : Bool) → cond {A = Option ℕ} b None None ≡ None
none_by true = refl
none_by false = refl

pub same_inode : (one two : ℕ) → Some one ≡ Some two → one ≡ two
same_inode one two e = ap (λ o. unwrap_or o one) e

-- a vector that has room takes one more
pub put_items : {E : Type 0} (r : Result (Unit {0}) E) (new with_one without_one : List ℕ) → IsOk r → new ≡ (if is_ok r then with_one else without_one) → new ≡ with_one
put_items (Ok done) new with_one without_one ok e = e
put_items (Err error) new with_one without_one ok e = absurd (cc)

same_some : (one two : ℕ) → Some one ≡ Some two → one ≡ two
same_some one two e = ap (λ o. unwrap_or o one) e

module _ (t : Table Entry) (children : Children) (keeps : Keeps t children) (list : ℕ) (was : children.list ≡ Some list) (there : (list node : ℕ) → IsIn t list node → ContainsNode t node) (distinct : (list : ℕ) → IsDistinct nat_eq (nodes_of t list)) (apart : (one two node : ℕ) → IsIn t one node → IsIn t two node → one ≡ two) (from to : Place) (inode place node : ℕ) (is : slice_get children.nodes place ≡ Some node) (at : slice_get (entries_of t children) place ≡ Some (from, inode)) (absent : find place_cmp to (entries_of t children) ≡ None) (unlinked : Table Entry) (out : unlinked ≡ with_nodes t list (without node (nodes_of t list))) where
  abbrev pub rest : List ℕ
  rest = remove children.nodes place

  abbrev pub valued : Table Entry
  valued = with_value unlinked node (to, inode)

  one_less : remove children.nodes place ≡ without node children.nodes
  one_less = sym (without-index children.nodes place node (nodes-distinct t children keeps list was distinct) is)

  in_rest : (other : ℕ) → Contains (remove children.nodes place) other → Contains (without node children.nodes) other
  in_rest other stands = subst (λ xs. Contains xs other) one_less stands

  not_node : (other : ℕ) → Contains (remove children.nodes place) other → other ≢ node
  not_node other stands same = absent_without node children.nodes (subst (Contains (without node children.nodes)) same (in_rest other stands))

  older : unlinked.values ≡ t.values
  older = ap (λ (u : Table Entry). u.values) out

  value_still : (other : ℕ) → other ≢ node → map.get valued.values other ≡ map.get t.values other
  value_still other differs = get-insert_other unlinked.values node (to, inode) other differs ∙ ap (λ m. map.get m other) older

  pub value_here : map.get valued.values node ≡ Some (to, inode)
  value_here = get-insert_same unlinked.values node (to, inode)

  -- ---- what is left

  pub rest_listed : map.get unlinked.lists list ≡ Some (remove children.nodes place)
  rest_listed =
      ap (λ (u : Table Entry). map.get u.lists list) out ∙ get-insert_same t.lists list (without node (nodes_of t list))
      ∙ ap (λ xs. Some (without node xs)) (nodes-listed t children keeps list was distinct) ∙ ap Some (sym one_less)

  pub rest_there : (k n : ℕ) → slice_get (remove children.nodes place) k ≡ Some n → ContainsNode valued n
  rest_there k n stands =
      let contained : Contains (remove children.nodes place) n = contains-index (remove children.nodes place) k n stands in
      ap is_some (value_still n (not_node n contained)) ∙ child_there t children keeps there n (contains_without node n children.nodes (in_rest n contained))

  rest_entries : mapped (entry_of valued) (remove children.nodes place) ≡ where_key place_cmp (other_than from) (entries_of t children)
  rest_entries =
      map-remove (entry_of t) (entry_of valued) children.nodes place (λ other stands. ap (λ o. unwrap_or o ((0, []), 0)) (value_still other (not_node other stands)))
      ∙ remove-where from inode (entries_of t children) place keeps.rising at

  pub rest_rising : IsRising (mapped (entry_of valued) (remove children.nodes place))
  rest_rising = subst IsRising (sym rest_entries) (is_sorted-where_key place_cmp (other_than from) (entries_of t children) keeps.rising)

  rest_absent : find place_cmp to (where_key place_cmp (other_than from) (entries_of t children)) ≡ None
  rest_absent = find-where_key place_cmp (other_than from) to (λ key tied. ap (other_than from) (sym (places_same to key tied))) (entries_of t children) ∙ ap (λ x. cond (other_than from to) x None) absent ∙ none_by (other_than from to)

  -- ---- the node at its new place

  module _ (next : ℕ) (counted : next ≡ count_to to (mapped (entry_of valued) (remove children.nodes place))) (new : Table Entry) (linked : new ≡ with_nodes valued list (insert (remove children.nodes place) next node)) (capacity : ℕ) where
    abbrev pub after : Children
    after = record { list = Some list; nodes = insert (remove children.nodes place) next node; capacity = capacity }

    new_values : new.values ≡ valued.values
    new_values = ap (λ (u : Table Entry). u.values) linked

    new_entries : entries_of new after ≡ put place_cmp to inode (where_key place_cmp (other_than from) (entries_of t children))
    new_entries =
        ap (λ values. mapped (λ n. unwrap_or (map.get values n) ((0, []), 0)) (insert (remove children.nodes place) next node)) new_values
        ∙ map-insert (entry_of valued) (entry_of valued) (remove children.nodes place) next node (λ other stands. refl)
        ∙ ap (insert (mapped (entry_of valued) (remove children.nodes place)) next) (ap (λ o. unwrap_or o ((0, []), 0)) value_here)
        ∙ ap (λ i. insert (mapped (entry_of valued) (remove children.nodes place)) i (to, inode)) counted
        ∙ ap (λ es. insert es (count_to to es) (to, inode)) rest_entries
        ∙ insert-put to inode (where_key place_cmp (other_than from) (entries_of t children)) rest_absent

    pub moved_folder : folder_of new after ≡ map.insert (map.remove (folder_of t children) from) to inode
    moved_folder =
        ap (λ es. map.from_entries es) new_entries ∙ from-put to inode (where_key place_cmp (other_than from) (entries_of t children))
        ∙ ap (λ m. map.insert m to inode) (from-where from (entries_of t children))

    new_value : (other : ℕ) → other ≢ node → map.get new.values other ≡ map.get t.values other
    new_value other differs = ap (λ m. map.get m other) new_values ∙ value_still other differs

    new_others : (other : ℕ) → other ≢ list → map.get new.lists other ≡ map.get t.lists other
    new_others other differs =
        ap (λ (u : Table Entry). map.get u.lists other) linked ∙ get-insert_other unlinked.lists list (insert (remove children.nodes place) next node) other differs
        ∙ ap (λ (u : Table Entry). map.get u.lists other) out ∙ get-insert_other t.lists list (without node (nodes_of t list)) other differs

    new_here : map.get new.lists list ≡ Some (insert (remove children.nodes place) next node)
    new_here = ap (λ (u : Table Entry). map.get u.lists list) linked ∙ get-insert_same unlinked.lists list (insert (remove children.nodes place) next node)

    added_by : (other : ℕ) → ContainsNode new other → Contains (insert (remove children.nodes place) next node) other ⊎ ContainsNode t other
    added_by other stands = elim (eqb_tells other node) [
      | inl same ↦ inl (subst (Contains (insert (remove children.nodes place) next node)) (sym same.1) (insert-Contains (remove children.nodes place) next node))
      | inr differs ↦ inr (sym (ap is_some (new_value other differs.1)) ∙ stands)
    ]

    stays_by : (other : ℕ) → Contains children.nodes other → Contains (insert (remove children.nodes place) next node) other
    stays_by other stands = elim (eqb_tells other node) [
      | inl same ↦ subst (Contains (insert (remove children.nodes place) next node)) (sym same.1) (insert-Contains (remove children.nodes place) next node)
      | inr differs ↦ Contains-insert (remove children.nodes place) next node other (subst (λ xs. Contains xs other) (sym one_less) (without_keeps node other children.nodes stands differs.1))
    ]

    pub moved_turns : Turns t new children after
    moved_turns = record {
      keeps = record {
        listed = λ other p. ap (map.get new.lists) (sym (same_some list other p)) ∙ new_here;
        some = λ other p. some_by (remove children.nodes place) next node;
        none = λ e. absurd (none_some list (sym e));
        rising = subst IsRising (sym new_entries) (is_sorted-put place_cmp place_total to inode (where_key place_cmp (other_than from) (entries_of t children)) (is_sorted-where_key place_cmp (other_than from) (entries_of t children) keeps.rising));
      };
      others = λ other p q. new_others other (λ same. p (was ∙ ap Some (sym same)));
      made = λ other p. inl (was ∙ p);
      freed = λ other p. inl (sym was ∙ p);
      values = λ other one differs stands. new_value one (λ same. differs (was ∙ ap Some (apart list other node (node-listed t children keeps list was distinct place node is) (subst (λ n. IsIn t other n) same stands))));
      added = added_by;
      stays = λ other stands is. stays_by other stands;
    }

-- ---- all of the table

pub kept-none : (t : Table Entry) (children : Children) → t ≡ record { lists = map.empty; values = map.empty; room = 0 } → children ≡ no_children → KeepsAll t children
kept-none t children empty none = record {
  keeps = subst (Keeps t) (sym none) (record { listed = λ list e. absurd (none_some list e); some = λ list e. absurd (none_some list e); none = λ e. refl; rising = tt });
  owned = λ list there. absurd (let clash : is_some {T = List ℕ} None ≡ true = sym (ap is_some (ap (λ (u : Table Entry). map.get u.lists list) empty ∙ map.get-empty nat_cmp list)) ∙ there in cc);
  used = λ node there. absurd (let clash : is_some {T = Entry} None ≡ true = sym (ap is_some (ap (λ (u : Table Entry). map.get u.values node) empty ∙ map.get-empty nat_cmp node)) ∙ there in cc);
}
