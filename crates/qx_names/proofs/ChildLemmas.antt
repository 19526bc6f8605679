-- The list of a user's entries: where each stands, and what becomes of the list as one is put in or taken out.
use Rattle.std.specs.Prelude.{ℕ, zero, suc, ◌+◌, ◌-◌, ◌≢◌, ◌<◌, ◌⊎◌, List, [], ◌∷◌, Contains, Option, None, Some, get_or, insert, is_some, length, map as mapped, nat_eq, remove, slice_get, unwrap_or}
use Rattle.std.specs.FinMap as map
use Rattle.std.specs.FinMap.Entries.{find, is_sorted-put, is_sorted-where_key, put, where_key}
use Rattle.std.specs.List.{IsDistinct}
use Rattle.std.specs.Ordering.{nat_cmp}
use Rattle.std.proofs.Common.{◌≡◌, true, inl, inr, ap, arith, refl, subst, sym, ◌∙◌}
use Rattle.std.proofs.lemmas.Bool.Decides.{eqb_tells}
use Rattle.std.proofs.lemmas.List.{length-map}
use Rattle.std.proofs.lemmas.Option.{slice_get_read, slice_get_within}
use Rattle.qx_lists.specs.Table.{ContainsNode, IsIn, Table, next_after, nodes_of, with_nodes, without}
use Rattle.qx_lists.proofs.ListLemmas.{absent_without, without_keeps}
use Rattle.qx_lists.proofs.MapLemmas.{get-insert_other, get-insert_same, get-remove_other, get-remove_same}
use Rattle.qx_lists.proofs.WalkLemmas.{contains-index, next_after-index}
use Rattle.qx_names.specs.inner.Children.{Children, Entry, IsRising, Keeps, Turns, count_to, entries_of, entry_of, folder_of, no_children}
use Rattle.qx_names.specs.inner.Folders.{Place, place_cmp}
use Rattle.qx_names.proofs.IndexLemmas.{Contains-insert, insert-Contains, entry-index, map-insert, map-remove, without-index}
use Rattle.qx_names.proofs.RisingLemmas.{count_to-within, from-put, from-where, insert-put, not_last, other_than, place_total, remove-where}

pub none_some : {A : Type 0} (value : A) → None ≡ Some value → ⊥
none_some value e = cc

-- ---- a node of the children is there

pub child_there : (t : Table Entry) (children : Children) → Keeps t children → ((list node : ℕ) → IsIn t list node → ContainsNode t node) → (node : ℕ) → Contains children.nodes node → ContainsNode t node
child_there t children keeps there node at = by children.list refl
  where
    by : (x : Option ℕ) → children.list ≡ x → ContainsNode t node
    by None e = absurd (let none : Contains [] node = subst (λ (nodes : List ℕ). Contains nodes node) (keeps.none e) at in omega (arith, none.1))
    by (Some list) e = there list node (subst (λ (nodes : List ℕ). Contains nodes node) (sym (ap (λ o. unwrap_or o []) (keeps.listed list e))) at)

pub nodes_there : (t : Table Entry) (children : Children) → Keeps t children → ((list node : ℕ) → IsIn t list node → ContainsNode t node) → (index : List ℕ) → index ≡ children.nodes → (k node : ℕ) → slice_get index k ≡ Some node → ContainsNode t node
nodes_there t children keeps there index same k node is = child_there t children keeps there node (subst (λ xs. Contains xs node) same (contains-index index k node is))

-- ---- the node before those behind a name, which alone can have it

module _ (t : Table Entry) (children : Children) (keeps : Keeps t children) (name : Place) (index : List ℕ) (same : index ≡ children.nodes) (behind : ℕ) (counted : behind ≡ count_to name (mapped (entry_of t) index)) (some : behind ≡ 0 → ⊥) where
  pub last-within : behind - 1 < length index
  last-within = omega (arith, count_to-within name (mapped (entry_of t) index), length-map index (entry_of t), counted, some)

  counted_last : count_to name (entries_of t children) ≡ suc (behind - 1)
  counted_last = ap (λ xs. count_to name (mapped (entry_of t) xs)) (sym same) ∙ sym counted ∙ omega (arith, some)

  module _ (node : ℕ) (is : node ≡ get_or index (behind - 1) node) where
    pub last-node : slice_get children.nodes (behind - 1) ≡ Some node
    last-node = ap (λ xs. slice_get xs (behind - 1)) (sym same) ∙ slice_get_read index (length index) (behind - 1) node refl last-within is

    module _ (entry : Entry) (value : map.get t.values node ≡ Some entry) where
      last-entry : slice_get (entries_of t children) (behind - 1) ≡ Some entry
      last-entry = entry-index t children.nodes (behind - 1) node entry last-node value

      pub last-found : entry.0 ≡ name → (inode : ℕ) × (slice_get (entries_of t children) (behind - 1) ≡ Some (name, inode))
      last-found e = (entry.1, last-entry ∙ ap (λ key. Some (key, entry.1)) e)

      pub last-missing : (entry.0 ≡ name → ⊥) → find place_cmp name (entries_of t children) ≡ None
      last-missing differs = not_last name (entries_of t children) (behind - 1) entry keeps.rising counted_last last-entry differs

-- ---- the nodes of the list

module _ (t : Table Entry) (children : Children) (keeps : Keeps t children) (list : ℕ) (was : children.list ≡ Some list) (distinct : (list : ℕ) → IsDistinct nat_eq (nodes_of t list)) where
  pub nodes-listed : nodes_of t list ≡ children.nodes
  nodes-listed = ap (λ o. unwrap_or o []) (keeps.listed list was)

  pub nodes-distinct : IsDistinct nat_eq children.nodes
  nodes-distinct = subst (IsDistinct nat_eq) nodes-listed (distinct list)

  module _ (place node : ℕ) (is : slice_get children.nodes place ≡ Some node) where
    pub node-listed : IsIn t list node
    node-listed = subst (λ xs. Contains xs node) (sym nodes-listed) (contains-index children.nodes place node is)

    pub next-listed : next_after node (nodes_of t list) ≡ slice_get children.nodes (suc place)
    next-listed = ap (next_after node) nodes-listed ∙ next_after-index children.nodes place node nodes-distinct is

    -- once the node was taken out of the list and freed
    module _ (unlinked freed : Table Entry) (out : unlinked ≡ with_nodes t list (without node (nodes_of t list))) (free : freed ≡ record unlinked { values = map.remove unlinked.values node; room = unlinked.room + 1 }) where
      pub freed-lists : (other : ℕ) → other ≢ list → map.get freed.lists other ≡ map.get t.lists other
      freed-lists other differs =
          ap (λ (u : Table Entry). map.get u.lists other) free ∙ ap (λ (u : Table Entry). map.get u.lists other) out ∙ get-insert_other t.lists list (without node (nodes_of t list)) other differs

      pub freed-here : map.get freed.lists list ≡ Some (remove children.nodes place)
      freed-here =
          ap (λ (u : Table Entry). map.get u.lists list) free ∙ ap (λ (u : Table Entry). map.get u.lists list) out ∙ get-insert_same t.lists list (without node (nodes_of t list))
          ∙ ap (λ xs. Some (without node xs)) nodes-listed ∙ ap Some (without-index children.nodes place node nodes-distinct is)

      pub freed-values : freed.values ≡ map.remove t.values node
      freed-values = ap (λ (u : Table Entry). u.values) free ∙ ap (λ (u : Table Entry). map.remove u.values node) out

-- ---- the node of an entry's place

module _ (t : Table Entry) (children : Children) (place : ℕ) (entry : Entry) (at : slice_get (entries_of t children) place ≡ Some entry) where
  pub place-within : place < length children.nodes
  place-within = omega (arith, slice_get_within (entries_of t children) place entry at, length-map children.nodes (entry_of t))

  pub place-node : (index : List ℕ) → index ≡ children.nodes → (node : ℕ) → node ≡ get_or index place node → slice_get children.nodes place ≡ Some node
  place-node index same node is =
      ap (λ xs. slice_get xs place) (sym same) ∙ slice_get_read index (length index) place node refl (let sizes = ap length same in omega (arith, place-within, sizes)) is

  pub place-entry : (node : ℕ) → slice_get children.nodes place ≡ Some node → (value : Entry) → map.get t.values node ≡ Some value → value ≡ entry
  place-entry node is value there = let both : Some value ≡ Some entry = sym (entry-index t children.nodes place node value is there) ∙ at in ap (λ o. unwrap_or o value) both

same_some : (one two : ℕ) → Some one ≡ Some two → one ≡ two
same_some one two e = ap (λ o. unwrap_or o one) e

module _ (t new : Table Entry) (children : Children) (keeps : Keeps t children) (there : (list node : ℕ) → IsIn t list node → ContainsNode t node) (list node place : ℕ) (lists : (other : ℕ) → other ≢ list → map.get new.lists other ≡ map.get t.lists other) where
  abbrev entries : List Entry
  entries = entries_of t children

  -- ---- an entry is put in, by a new node

  module _ (name : Place) (inode : ℕ) (place_is : place ≡ count_to name entries) (absent : find place_cmp name entries ≡ None) (made : (children.list ≡ Some list) ⊎ ((children.list ≡ None) × (map.get t.lists list ≡ None))) (fresh : map.get t.values node ≡ None) (here : map.get new.lists list ≡ Some (insert children.nodes place node)) (values : new.values ≡ map.insert t.values node (name, inode)) (capacity : ℕ) where
    abbrev with_entry : Children
    with_entry = record { list = Some list; nodes = insert children.nodes place node; capacity = capacity }

    is_other : (other : ℕ) → ContainsNode t other → other ≢ node
    is_other other is same = let clash : is_some {T = Entry} None ≡ true = sym (ap is_some (ap (map.get t.values) same ∙ fresh)) ∙ is in cc

    value_other : (other : ℕ) → ContainsNode t other → map.get new.values other ≡ map.get t.values other
    value_other other is = ap (λ m. map.get m other) values ∙ get-insert_other t.values node (name, inode) other (is_other other is)

    put_entries : entries_of new with_entry ≡ put place_cmp name inode entries
    put_entries =
        map-insert (entry_of t) (entry_of new) children.nodes place node (λ other at. ap (λ o. unwrap_or o ((0, []), 0)) (value_other other (child_there t children keeps there other at)))
        ∙ ap (insert entries place) (ap (λ o. unwrap_or o ((0, []), 0)) (ap (λ m. map.get m node) values ∙ get-insert_same t.values node (name, inode)))
        ∙ ap (λ i. insert entries i (name, inode)) place_is ∙ insert-put name inode entries absent

    pub put_folder : folder_of new with_entry ≡ map.insert (folder_of t children) name inode
    put_folder = ap (λ es. map.from_entries es) put_entries ∙ from-put name inode entries

    some_by : (nodes : List ℕ) (i : ℕ) → 0 < length (insert nodes i node)
    some_by nodes zero = omega arith
    some_by [] (suc i) = omega arith
    some_by (x ∷ nodes) (suc i) = omega arith

    freed_by : (other : ℕ) → children.list ≡ Some other → Some list ≡ Some other
    freed_by other p = elim made [
      | inl was ↦ sym was ∙ p
      | inr none ↦ absurd (none_some other (sym none.0 ∙ p))
    ]

    made_by : (other : ℕ) → Some list ≡ Some other → (children.list ≡ Some other) ⊎ (map.get t.lists other ≡ None)
    made_by other p = elim made [
      | inl was ↦ inl (was ∙ p)
      | inr none ↦ inr (ap (map.get t.lists) (sym (same_some list other p)) ∙ none.1)
    ]

    added_by : (other : ℕ) → is_some (map.get (map.insert t.values node (name, inode)) other) ≡ true → Contains (insert children.nodes place node) other ⊎ ContainsNode t other
    added_by other is = elim (eqb_tells other node) [
      | inl same ↦ inl (subst (Contains (insert children.nodes place node)) (sym same.1) (insert-Contains children.nodes place node))
      | inr differs ↦ inr (sym (ap is_some (get-insert_other t.values node (name, inode) other differs.1)) ∙ is)
    ]

    pub put_turns : Turns t new children with_entry
    put_turns = record {
      keeps = record {
        listed = λ other p. ap (map.get new.lists) (sym (same_some list other p)) ∙ here;
        some = λ other p. some_by children.nodes place;
        none = λ e. absurd (none_some list (sym e));
        rising = subst IsRising (sym put_entries) (is_sorted-put place_cmp place_total name inode entries keeps.rising);
      };
      others = λ other p q. lists other (λ same. q (ap Some (sym same)));
      made = made_by;
      freed = λ other p. inl (freed_by other p);
      values = λ other one p at. value_other one (there other one at);
      added = λ other is. added_by other (subst (λ (values : map.FinMap nat_cmp Entry). is_some (map.get values other) ≡ true) values is);
      stays = λ other at is. Contains-insert children.nodes place node other at;
    }

  -- ---- an entry is taken out, with its node

  module _ (name : Place) (inode : ℕ) (was : children.list ≡ Some list) (is : slice_get children.nodes place ≡ Some node) (at : slice_get entries place ≡ Some (name, inode)) (distinct : (list : ℕ) → IsDistinct nat_eq (nodes_of t list)) (apart : (one two node : ℕ) → IsIn t one node → IsIn t two node → one ≡ two) (values : new.values ≡ map.remove t.values node) (now : Children) (nodes : now.nodes ≡ remove children.nodes place) where
    one_less : remove children.nodes place ≡ without node children.nodes
    one_less = sym (without-index children.nodes place node (nodes-distinct t children keeps list was distinct) is)

    value_still : (other : ℕ) → other ≢ node → map.get new.values other ≡ map.get t.values other
    value_still other differs = ap (λ m. map.get m other) values ∙ get-remove_other t.values node other differs

    take_entries : entries_of new now ≡ where_key place_cmp (other_than name) entries
    take_entries =
        ap (mapped (entry_of new)) nodes
        ∙ map-remove (entry_of t) (entry_of new) children.nodes place (λ other in_rest. ap (λ o. unwrap_or o ((0, []), 0)) (value_still other (λ same. absent_without node children.nodes (subst (Contains (without node children.nodes)) same (subst (λ xs. Contains xs other) one_less in_rest)))))
        ∙ remove-where name inode entries place keeps.rising at

    pub take_folder : folder_of new now ≡ map.remove (folder_of t children) name
    take_folder = ap (λ es. map.from_entries es) take_entries ∙ from-where name entries

    take_rising : IsRising (entries_of new now)
    take_rising = subst IsRising (sym take_entries) (is_sorted-where_key place_cmp (other_than name) entries keeps.rising)

    values_other : (other one : ℕ) → children.list ≢ Some other → IsIn t other one → map.get new.values one ≡ map.get t.values one
    values_other other one differs stands =
        value_still one (λ same. differs (was ∙ ap Some (apart list other node (node-listed t children keeps list was distinct place node is) (subst (λ n. IsIn t other n) same stands))))

    others_still : (other : ℕ) → children.list ≢ Some other → map.get new.lists other ≡ map.get t.lists other
    others_still other p = lists other (λ same. p (was ∙ ap Some (sym same)))

    is_still : (other : ℕ) → ContainsNode new other → other ≢ node
    is_still other is same =
        let clash : is_some {T = Entry} None ≡ true = sym (ap is_some (ap (map.get new.values) same ∙ ap (λ m. map.get m node) values ∙ get-remove_same t.values node)) ∙ is in cc

    added_still : (other : ℕ) → ContainsNode new other → ContainsNode t other
    added_still other is = sym (ap is_some (value_still other (is_still other is))) ∙ is

    stays_still : (other : ℕ) → Contains children.nodes other → ContainsNode new other → Contains now.nodes other
    stays_still other stands is = subst (λ xs. Contains xs other) (sym (nodes ∙ one_less)) (without_keeps node other children.nodes stands (is_still other is))

    -- others are left
    pub take_turns : now.list ≡ Some list → map.get new.lists list ≡ Some now.nodes → 0 < length now.nodes → Turns t new children now
    take_turns still here some = record {
      keeps = record {
        listed = λ other p. ap (map.get new.lists) (sym (same_some list other (sym still ∙ p))) ∙ here;
        some = λ other p. some;
        none = λ e. absurd (none_some list (sym e ∙ still));
        rising = take_rising;
      };
      others = λ other p q. others_still other p;
      made = λ other p. inl (was ∙ sym still ∙ p);
      freed = λ other p. inl (still ∙ sym was ∙ p);
      values = values_other;
      added = λ other is. inr (added_still other is);
      stays = stays_still;
    }

    -- it was the last one
    pub take_last : now.list ≡ None → map.get new.lists list ≡ None → now.nodes ≡ [] → Turns t new children now
    take_last none gone left = record {
      keeps = record {
        listed = λ other p. absurd (none_some other (sym none ∙ p));
        some = λ other p. absurd (none_some other (sym none ∙ p));
        none = λ e. left;
        rising = take_rising;
      };
      others = λ other p q. others_still other p;
      made = λ other p. absurd (none_some other (sym none ∙ p));
      freed = λ other p. inr (ap (map.get new.lists) (sym (same_some list other (sym was ∙ p))) ∙ gone);
      values = values_other;
      added = λ other is. inr (added_still other is);
      stays = stays_still;
    }

-- ---- the calls that take an entry out

module _ (t : Table Entry) (children : Children) (keeps : Keeps t children) (list : ℕ) (was : children.list ≡ Some list) (there : (list node : ℕ) → IsIn t list node → ContainsNode t node) (distinct : (list : ℕ) → IsDistinct nat_eq (nodes_of t list)) (apart : (one two node : ℕ) → IsIn t one node → IsIn t two node → one ≡ two) (name : Place) (inode place node : ℕ) (is : slice_get children.nodes place ≡ Some node) (at : slice_get (entries_of t children) place ≡ Some (name, inode)) (unlinked freed : Table Entry) (out : unlinked ≡ with_nodes t list (without node (nodes_of t list))) (free : freed ≡ record unlinked { values = map.remove unlinked.values node; room = unlinked.room + 1 }) where
  abbrev lists : (other : ℕ) → other ≢ list → map.get freed.lists other ≡ map.get t.lists other
  lists = freed-lists t children keeps list was distinct place node is unlinked freed out free

  abbrev values : freed.values ≡ map.remove t.values node
  values = freed-values t children keeps list was distinct place node is unlinked freed out free

  pub freed-list : map.get freed.lists list ≡ Some (remove children.nodes place)
  freed-list = freed-here t children keeps list was distinct place node is unlinked freed out free

  -- others are left
  module _ (now : Children) (nodes : now.nodes ≡ remove children.nodes place) where
    pub freed-turns : now.list ≡ Some list → 0 < length now.nodes → Turns t freed children now
    freed-turns still some = take_turns t freed children keeps there list node place lists name inode was is at distinct apart values now nodes still (freed-list ∙ ap Some (sym nodes)) some

    pub freed-folder : folder_of freed now ≡ map.remove (folder_of t children) name
    freed-folder = take_folder t freed children keeps there list node place lists name inode was is at distinct apart values now nodes

  -- it was the last one, and the list is given back
  module _ (new : Table Entry) (gone : new ≡ record freed { lists = map.remove freed.lists list }) (now : Children) (none : now ≡ no_children) (last : remove children.nodes place ≡ []) where
    lists_still : (other : ℕ) → other ≢ list → map.get new.lists other ≡ map.get t.lists other
    lists_still other differs = ap (λ (u : Table Entry). map.get u.lists other) gone ∙ get-remove_other freed.lists list other differs ∙ lists other differs

    values_still : new.values ≡ map.remove t.values node
    values_still = ap (λ (u : Table Entry). u.values) gone ∙ values

    no_nodes : now.nodes ≡ []
    no_nodes = ap (λ (c : Children). c.nodes) none

    pub last-turns : Turns t new children now
    last-turns =
        take_last t new children keeps there list node place lists_still name inode was is at distinct apart values_still now (no_nodes ∙ sym last) (ap (λ (c : Children). c.list) none)
        (ap (λ (u : Table Entry). map.get u.lists list) gone ∙ get-remove_same freed.lists list) no_nodes

    pub last-folder : folder_of new now ≡ map.remove (folder_of t children) name
    last-folder = take_folder t new children keeps there list node place lists_still name inode was is at distinct apart values_still now (no_nodes ∙ sym last)
