-- The lists that the rings show, as a node leaves a list or joins one.
use Rattle.std.proofs.Common.{◌≡◌, ◌≢◌, inl, inr, ℕ, true, false, List, [], ◌∷◌, ◌++◌, drop, slice_get, Contains, Option, None, Some, is_some, IsSome, option_map, refl, sym, ◌∙◌, ap, arith}
use Rattle.std.specs.FinMap as map
use Rattle.std.proofs.lemmas.Bool.Decides.{eqb_tells}
use Rattle.std.proofs.lemmas.List.{append-nil, append_assoc}
use Rattle.std.proofs.lemmas.List.Elements.{Contains-append_left, Contains-append_right, Contains-append_cases}
use Rattle.slab.specs.Slab.{Slab, get, HasRoomFor, Updates}
use Rattle.qx_lists.specs.Paths.{IsPath}
use Rattle.qx_lists.specs.Rings.{links_at, with_adjacent}
use Rattle.qx_lists.specs.Shows.{Lists, nodes_at, ways, node_values, ShowsLists, shown_once, shown_lists}
use Rattle.std.specs.Ordering.{nat_cmp}
use Rattle.qx_lists.specs.Table.{Table, ContainsList, ContainsNode, IsFree, IsPlace, IsIn, nodes_of, with_nodes, without, put_before, next_after}
use Rattle.qx_lists.specs.inner.Table.{placed}
use Rattle.qx_lists.specs.declared.rings.Links.{Links}
use Rattle.qx_lists.specs.declared.rings.Node.{Node}
use Rattle.qx_lists.specs.declared.rings.Rings.{Rings}
use Rattle.qx_lists.proofs.ListLemmas.{split_at, avoids_from, contains_first, contains_later, contains_cases, contains-last, contains-first, contains_without, absent_without, without-split, put_before-split, next_after-split, none_first, stands_nowhere, nowhere_from}
use Rattle.qx_lists.proofs.MapLemmas.{get-insert_same, get-insert_other, get-remove_same, get-remove_other, insert-there}
use Rattle.qx_lists.proofs.PathLemmas.{AllPlaces, Avoids, IsApart, last_place, first_place, avoids_before, apart_back, path_apart, path_split, path_front, next-path, previous-path, next-last, previous-first, path_along, path_without, path_with}
use Rattle.qx_lists.proofs.RingLemmas.{IsElsewhere, elsewhere_none, elsewhere_node, next-with_adjacent, previous-with_adjacent, with_adjacent_joins, there-with_adjacent, is_some-list-with_adjacent, value-with_adjacent, slab_len-with_adjacent, capacity-with_adjacent, is_some-option_map}
use Rattle.qx_lists.proofs.ValueLemmas.{get-node_values, node_values-kept}

there_from : {X A : Type 0} (field : X → A) (o : Option X) (a : A) → option_map field o ≡ Some a → IsSome o
there_from field o a is = sym (is_some-option_map field o) ∙ ap is_some is

field_is : {X A : Type 0} (field : X → A) (o : Option X) (x : X) (a : A) → o ≡ Some x → option_map field o ≡ Some a → field x ≡ a
field_is field o x a found is = let both : Some (field x) ≡ Some a = sym (ap (option_map field) found) ∙ is in cc

listed : (lists : Lists) (list : ℕ) → IsSome (map.get lists list) → map.get lists list ≡ Some (nodes_at lists list)
listed lists list there = by_case (map.get lists list) refl there
  where
    by_case : (o : Option (List ℕ)) → map.get lists list ≡ o → IsSome o → map.get lists list ≡ Some (nodes_at lists list)
    by_case None is there = cc
    by_case (Some nodes) is there = rw is refl

pub list_there : (lists : Lists) (list node : ℕ) → Contains (nodes_at lists list) node → IsSome (map.get lists list)
list_there lists list node at = by_case (map.get lists list) refl
  where
    by_case : (o : Option (List ℕ)) → map.get lists list ≡ o → IsSome (map.get lists list)
    by_case None is = let empty : Contains [] node = rw is at at in absurd (omega (arith, empty.1))
    by_case (Some nodes) is = rw is refl

all_elsewhere : (other list : ℕ) (place : Option ℕ) (xs : List ℕ) → Avoids place xs → AllPlaces (λ s. IsElsewhere other s list place) xs
all_elsewhere other list place [] avoids = tt
all_elsewhere other list place (x ∷ xs) avoids = (elsewhere_node other list x place avoids.0, all_elsewhere other list place xs avoids.1)

module _ {T : Type 0} where
  -- the rings of other lists stay as they are
  path_with_adjacent_other : (r : Rings T) (list : ℕ) (a b : Option ℕ) (other : ℕ) → other ≢ list → (xs : List ℕ) → Avoids a xs → Avoids b xs → IsPath (ways r other) None xs None → IsPath (ways (with_adjacent r list a b) other) None xs None
  path_with_adjacent_other r list a b other differs xs avoids_a avoids_b path =
      path_along (ways r other) (ways (with_adjacent r list a b) other) (λ s. IsElsewhere other s list a) (λ s. IsElsewhere other s list b)
      (next-with_adjacent r list a b other) (previous-with_adjacent r list a b other) None xs None
      (elsewhere_none other list a differs) (all_elsewhere other list a xs avoids_a) (all_elsewhere other list b xs avoids_b) (elsewhere_none other list b differs) path

module _ {T : Type 0} (r : Rings T) where
  module _ (lists : Lists) (shows : ShowsLists r lists) where
    pub ring : (list : ℕ) → IsSome (map.get lists list) → IsPath (ways r list) None (nodes_at lists list) None
    ring list there = shows.linked list (nodes_at lists list) (listed lists list there)

    -- one list has other nodes, which are in no other list
    ShowsLists-changed : (new : Rings T) (list : ℕ) (nodes : List ℕ) → IsSome (map.get lists list)
        → ((other : ℕ) → is_some (get new.lists other) ≡ is_some (get r.lists other))
        → IsPath (ways new list) None nodes None
        → ((other : ℕ) → other ≢ list → (xs : List ℕ) → map.get lists other ≡ Some xs → IsPath (ways new other) None xs None)
        → ((other node : ℕ) → other ≢ list → Contains nodes node → Contains (nodes_at lists other) node → ⊥)
        → ShowsLists new (map.insert lists list nodes)
    ShowsLists-changed new list nodes there lists_kept path others members =
        record {
          there = λ other. elim (eqb_tells other list) [
            | inl same ↦ rw same.1 (ap is_some (get-insert_same lists list nodes) ∙ sym (lists_kept list ∙ sym (shows.there list) ∙ there))
            | inr differs ↦ ap is_some (get-insert_other lists list nodes other differs.1) ∙ shows.there other ∙ sym (lists_kept other)
          ];
          linked = λ other xs found. elim (eqb_tells other list) [
            | inl same ↦
                let now : map.get (map.insert lists list nodes) list ≡ Some xs = rw same.1 at found in
                let both : Some nodes ≡ Some xs = sym (get-insert_same lists list nodes) ∙ now in
                let equal : nodes ≡ xs = cc in
                rw (same.1, ← equal) path
            | inr differs ↦ others other differs.1 xs (sym (get-insert_other lists list nodes other differs.1) ∙ found)
          ];
          apart = λ one two node at_one at_two. elim (eqb_tells one list) [
            | inl one_is ↦ elim (eqb_tells two list) [
              | inl two_is ↦ one_is.1 ∙ sym two_is.1
              | inr two_differs ↦ absurd (members two node two_differs.1 (in_changed one node one_is.1 at_one) (in_other two node two_differs.1 at_two))
            ]
            | inr one_differs ↦ elim (eqb_tells two list) [
              | inl two_is ↦ absurd (members one node one_differs.1 (in_changed two node two_is.1 at_two) (in_other one node one_differs.1 at_one))
              | inr two_differs ↦ shows.apart one two node (in_other one node one_differs.1 at_one) (in_other two node two_differs.1 at_two)
            ]
          ];
        }
      where
        in_changed : (one node : ℕ) → one ≡ list → Contains (nodes_at (map.insert lists list nodes) one) node → Contains nodes node
        in_changed one node is at = let here : Contains (nodes_at (map.insert lists list nodes) list) node = rw is at at in rw (get-insert_same lists list nodes) at here

        in_other : (one node : ℕ) → one ≢ list → Contains (nodes_at (map.insert lists list nodes) one) node → Contains (nodes_at lists one) node
        in_other one node differs at = rw (get-insert_other lists list nodes one differs) at at

    -- a node of a list is there
    pub member_there : (list node : ℕ) → Contains (nodes_at lists list) node → IsSome (links_at r list (Some node))
    member_there list node at =
        let split = split_at node (nodes_at lists list) at in
        let path : IsPath (ways r list) None (split.front ++ node ∷ split.back) None = rw split.whole at (ring list (list_there lists list node at)) in
        there_from (λ x. x.next) _ _ (next-path (ways r list) (Some node) split.back None (path_split (ways r list) None split.front node split.back None path).1)

    pub member_value : (list node : ℕ) → Contains (nodes_at lists list) node → IsSome (map.get (node_values r.nodes) node)
    member_value list node at =
        ap is_some (get-node_values r.nodes node) ∙ is_some-option_map (λ n. n.value) (get r.nodes node)
        ∙ sym (is_some-option_map (λ n. n.links) (get r.nodes node)) ∙ member_there list node at

    pub first_is : (list : ℕ) (links : Links) → IsSome (map.get lists list) → links_at r list None ≡ Some links → links.next ≡ first_place (nodes_at lists list) None
    first_is list links there linked = field_is (λ x. x.next) _ links _ linked (next-path (ways r list) None _ None (ring list there))

    -- the nodes of a list around one of them
    record Around (list node : ℕ) : Type 0 where
      pub front : List ℕ
      pub back : List ℕ
      pub whole : nodes_at lists list ≡ front ++ node ∷ back
      pub path : IsPath (ways r list) None (front ++ node ∷ back) None
      pub before : Avoids (Some node) front
      pub behind : Avoids (Some node) back

    around : (list node : ℕ) → Contains (nodes_at lists list) node → Around list node
    around list node at =
        let split = split_at node (nodes_at lists list) at in
        let path : IsPath (ways r list) None (split.front ++ node ∷ split.back) None = rw split.whole at (ring list (list_there lists list node at)) in
        let apart = path_apart (ways r list) None _ path in
        record { front = split.front; back = split.back; whole = split.whole; path = path; before = avoids_before split.front split.back node apart; behind = (apart_back split.front (node ∷ split.back) apart).0 }

    -- what stands next to a node of a list
    pub next_is : (list node : ℕ) (links : Links) → Contains (nodes_at lists list) node → links_at r list (Some node) ≡ Some links → links.next ≡ next_after node (nodes_at lists list)
    next_is list node links at linked =
        let parts = around list node at in
        let path = path_split (ways r list) None parts.front node parts.back None parts.path in
        field_is (λ x. x.next) _ links _ linked (next-path (ways r list) (Some node) parts.back None path.1) ∙ sym (ap (next_after node) parts.whole ∙ next_after-split node parts.front parts.back parts.before)

    -- a place next to a node of one list is no node of another
    last_elsewhere : (list other : ℕ) → other ≢ list → (front back : List ℕ) → nodes_at lists list ≡ front ++ back → (x : ℕ) → Contains (nodes_at lists other) x → Some x ≢ last_place None front
    last_elsewhere list other differs front back whole x at same = differs (shows.apart other list x at (rw whole (Contains-append_left front back x (contains-last front x same))))

    first_elsewhere : (list other : ℕ) → other ≢ list → (front back : List ℕ) → nodes_at lists list ≡ front ++ back → (x : ℕ) → Contains (nodes_at lists other) x → Some x ≢ first_place back None
    first_elsewhere list other differs front back whole x at same = differs (shows.apart other list x at (rw whole (Contains-append_right front back x (contains-first back x same))))

    -- the node's list without it, where the places around it are joined
    module _ (list node : ℕ) (links : Links) (at : Contains (nodes_at lists list) node) (linked : links_at r list (Some node) ≡ Some links) where
      previous_last : links.previous ≡ last_place None (around list node at).front
      previous_last =
          let parts = around list node at in
          field_is (λ x. x.previous) _ links _ linked (previous-path (ways r list) None parts.front (Some node) (path_split (ways r list) None parts.front node parts.back None parts.path).0)

      next_first : links.next ≡ first_place (around list node at).back None
      next_first =
          let parts = around list node at in
          field_is (λ x. x.next) _ links _ linked (next-path (ways r list) (Some node) parts.back None (path_split (ways r list) None parts.front node parts.back None parts.path).1)

      pub previous_there : IsSome (links_at r list links.previous)
      previous_there =
          let parts = around list node at in
          rw previous_last (there_from (λ x. x.next) _ _ (next-last (ways r list) None parts.front (Some node) (path_split (ways r list) None parts.front node parts.back None parts.path).0))

      pub next_there : IsSome (links_at r list links.next)
      next_there =
          let parts = around list node at in
          rw next_first (there_from (λ x. x.previous) _ _ (previous-first (ways r list) (Some node) parts.back None (path_split (ways r list) None parts.front node parts.back None parts.path).1))

      pub ShowsLists-unlink : ShowsLists (with_adjacent r list links.previous links.next) (map.insert lists list (without node (nodes_at lists list)))
      ShowsLists-unlink =
          let parts = around list node at in
          let there = list_there lists list node at in
          let left : without node (nodes_at lists list) ≡ parts.front ++ parts.back = ap (without node) parts.whole ∙ without-split node parts.front parts.back parts.before parts.behind in
          let joins = with_adjacent_joins r list links.previous links.next previous_there next_there in
          let path = path_without (ways r list) (ways (with_adjacent r list links.previous links.next) list) parts.front parts.back node (rw (← previous_last, ← next_first) joins) parts.path in
          let after : nodes_at lists list ≡ (parts.front ++ node ∷ []) ++ parts.back = parts.whole ∙ sym (append_assoc parts.front (node ∷ []) parts.back) in
          ShowsLists-changed (with_adjacent r list links.previous links.next) list (without node (nodes_at lists list)) there
          (is_some-list-with_adjacent r list links.previous links.next)
          (rw left path)
          (λ other differs xs found.
          let same : nodes_at lists other ≡ xs = rw found refl in
          path_with_adjacent_other r list links.previous links.next other differs xs
          (rw previous_last (avoids_from _ xs (λ x in_xs. last_elsewhere list other differs parts.front (node ∷ parts.back) parts.whole x (rw same in_xs))))
          (rw next_first (avoids_from _ xs (λ x in_xs. first_elsewhere list other differs (parts.front ++ node ∷ []) parts.back after x (rw same in_xs))))
          (shows.linked other xs found))
          (λ other x differs in_new in_other. differs (shows.apart other list x in_other (contains_without node x (nodes_at lists list) in_new)))

    -- a free node between the front of a list and the rest, which begins at the place `at`
    module _ (list node : ℕ) (at : Option ℕ) (front back : List ℕ) (links : Links) (whole : nodes_at lists list ≡ front ++ back) (at_is : at ≡ first_place back None) (there : IsSome (map.get lists list)) (node_there : IsSome (links_at r list (Some node))) (free : (other : ℕ) → Contains (nodes_at lists other) node → ⊥) (linked : links_at r list at ≡ Some links) where
      path_before : IsPath (ways r list) None (front ++ back) None
      path_before = rw whole at (ring list there)

      path_to : IsPath (ways r list) None front at
      path_to = rw at_is (path_front (ways r list) None front back None path_before)

      last_before : links.previous ≡ last_place None front
      last_before = field_is (λ x. x.previous) _ links _ linked (previous-path (ways r list) None front at path_to)

      pub link_previous_there : IsSome (links_at r list links.previous)
      link_previous_there = rw last_before (there_from (λ x. x.next) _ _ (next-last (ways r list) None front at path_to))

      pub link_at_there : IsSome (links_at (with_adjacent r list links.previous (Some node)) list at)
      link_at_there = there-with_adjacent r list links.previous (Some node) list at (rw linked refl)

      avoids_node : (other : ℕ) → Avoids (Some node) (nodes_at lists other)
      avoids_node other = avoids_from (Some node) _ (λ x in_xs same. let equal : x ≡ node = cc in free other (rw equal at in_xs))

      pub ShowsLists-link : ShowsLists (with_adjacent (with_adjacent r list links.previous (Some node)) list (Some node) at) (map.insert lists list (front ++ node ∷ back))
      ShowsLists-link =
          let half = with_adjacent r list links.previous (Some node) in
          let one = with_adjacent_joins r list links.previous (Some node) link_previous_there node_there in
          let two = with_adjacent_joins half list (Some node) at (there-with_adjacent r list links.previous (Some node) list (Some node) node_there) link_at_there in
          let path = path_with (ways r list) (ways half list) (ways (with_adjacent half list (Some node) at) list) front back node (rw (← last_before) one) (rw (← at_is) two) (rw whole at (avoids_node list)) path_before in
          ShowsLists-changed (with_adjacent half list (Some node) at) list (front ++ node ∷ back) there
          (λ other. is_some-list-with_adjacent half list (Some node) at other ∙ is_some-list-with_adjacent r list links.previous (Some node) other)
          path
          (λ other differs xs found.
          let same : nodes_at lists other ≡ xs = rw found refl in
          let apart_node : Avoids (Some node) xs = rw same at (avoids_node other) in
          path_with_adjacent_other half list (Some node) at other differs xs apart_node
          (rw at_is (avoids_from _ xs (λ x in_xs. first_elsewhere list other differs front back whole x (rw same in_xs))))
          (path_with_adjacent_other r list links.previous (Some node) other differs xs
          (rw last_before (avoids_from _ xs (λ x in_xs. last_elsewhere list other differs front back whole x (rw same in_xs))))
          apart_node (shows.linked other xs found)))
          (λ other x differs in_new in_other. elim (Contains-append_cases front (node ∷ back) x in_new) [
            | inl in_front ↦ differs (shows.apart other list x in_other (rw whole (Contains-append_left front back x in_front)))
            | inr behind ↦ elim (contains_cases node x back behind) [
              | inl same ↦ free other (rw same at in_other)
              | inr in_back ↦ differs (shows.apart other list x in_other (rw whole (Contains-append_right front back x in_back)))
            ]
          ])

member_places : (P : Option ℕ → Type 0) (xs : List ℕ) → ((node : ℕ) → Contains xs node → P (Some node)) → AllPlaces P xs
member_places P [] holds = tt
member_places P (x ∷ xs) holds = (holds x (contains_first x xs), member_places P xs (λ node at. holds node (contains_later x node xs at)))

module _ {T : Type 0} (old new : Rings T) (lists : Lists) (shows : ShowsLists old lists) where
  -- a ring stays where the links of its places stay
  ring_stays : (list : ℕ) (xs : List ℕ) → map.get lists list ≡ Some xs → get new.lists list ≡ get old.lists list → ((node : ℕ) → Contains xs node → links_at new list (Some node) ≡ links_at old list (Some node)) → IsPath (ways new list) None xs None
  ring_stays list xs found same_list same_nodes =
      let P : Option ℕ → Type 0 = λ s. links_at new list s ≡ links_at old list s in
      let members : AllPlaces P xs = member_places P xs same_nodes in
      path_along (ways old list) (ways new list) P P (λ s is. ap (option_map (λ x. x.next)) is) (λ s is. ap (option_map (λ x. x.previous)) is) None xs None same_list members members same_list (shows.linked list xs found)

  -- the lists stay where the links of each list and of each node in one stay
  pub ShowsLists-kept : ((list : ℕ) → get new.lists list ≡ get old.lists list) → ((list node : ℕ) → Contains (nodes_at lists list) node → links_at new list (Some node) ≡ links_at old list (Some node)) → ShowsLists new lists
  ShowsLists-kept same_lists same_nodes =
      record {
        there = λ list. shows.there list ∙ ap is_some (sym (same_lists list));
        linked = λ list xs found.
            let same : nodes_at lists list ≡ xs = rw found refl in
            ring_stays list xs found (same_lists list) (λ node at. same_nodes list node (rw same at));
        apart = shows.apart;
      }

  -- a new list is empty
  pub ShowsLists-add : (list : ℕ) (alone : Links) → alone.next ≡ None → alone.previous ≡ None → Updates old.lists new.lists list (Some alone) → new.nodes ≡ old.nodes → ShowsLists new (map.insert lists list [])
  ShowsLists-add list alone next_none previous_none updates same_nodes =
      record {
        there = λ other. elim (eqb_tells other list) [
          | inl same ↦ rw same.1 (ap is_some (get-insert_same lists list []) ∙ sym (ap is_some updates.changed))
          | inr differs ↦ ap is_some (get-insert_other lists list [] other differs.1) ∙ shows.there other ∙ ap is_some (sym (updates.others other differs.1))
        ];
        linked = λ other xs found. elim (eqb_tells other list) [
          | inl same ↦
              let now : map.get (map.insert lists list []) list ≡ Some xs = rw same.1 at found in
              let both : Some [] ≡ Some xs = sym (get-insert_same lists list []) ∙ now in
              let equal : [] ≡ xs = cc in
              rw (same.1, ← equal) (ap (option_map (λ x. x.next)) updates.changed ∙ ap Some next_none, ap (option_map (λ x. x.previous)) updates.changed ∙ ap Some previous_none)
          | inr differs ↦ ring_stays other xs (sym (get-insert_other lists list [] other differs.1) ∙ found) (updates.others other differs.1) (λ node _. ap (λ ns. option_map (λ n. n.links) (get ns node)) same_nodes)
        ];
        apart = λ one two node at_one at_two. shows.apart one two node (in_old one node at_one) (in_old two node at_two);
      }
    where
      in_old : (one node : ℕ) → Contains (nodes_at (map.insert lists list []) one) node → Contains (nodes_at lists one) node
      in_old one node at = elim (eqb_tells one list) [
        | inl same ↦
            let here : Contains (nodes_at (map.insert lists list []) list) node = rw same.1 at at in
            let empty : Contains [] node = rw (get-insert_same lists list []) at here in
            absurd (omega (arith, empty.1))
        | inr differs ↦ rw (get-insert_other lists list [] one differs.1) at at
      ]

  -- an empty list goes
  pub ShowsLists-free : (list : ℕ) → Updates old.lists new.lists list None → new.nodes ≡ old.nodes → ShowsLists new (map.remove lists list)
  ShowsLists-free list updates same_nodes =
      record {
        there = λ other. elim (eqb_tells other list) [
          | inl same ↦ rw same.1 (ap is_some (get-remove_same lists list) ∙ sym (ap is_some updates.changed))
          | inr differs ↦ ap is_some (get-remove_other lists list other differs.1) ∙ shows.there other ∙ ap is_some (sym (updates.others other differs.1))
        ];
        linked = λ other xs found. elim (eqb_tells other list) [
          | inl same ↦
              let now : map.get (map.remove lists list) list ≡ Some xs = rw same.1 at found in
              let clash : None ≡ Some xs = sym (get-remove_same lists list) ∙ now in
              absurd (cc)
          | inr differs ↦ ring_stays other xs (sym (get-remove_other lists list other differs.1) ∙ found) (updates.others other differs.1) (λ node _. ap (λ ns. option_map (λ n. n.links) (get ns node)) same_nodes)
        ];
        apart = λ one two node at_one at_two. shows.apart one two node (in_old one node at_one) (in_old two node at_two);
      }
    where
      in_old : (one node : ℕ) → Contains (nodes_at (map.remove lists list) one) node → Contains (nodes_at lists one) node
      in_old one node at = elim (eqb_tells one list) [
        | inl same ↦
            let here : Contains (nodes_at (map.remove lists list) list) node = rw same.1 at at in
            let empty : Contains [] node = rw (get-remove_same lists list) at here in
            absurd (omega (arith, empty.1))
        | inr differs ↦ rw (get-remove_other lists list one differs.1) at at
      ]

pub no_list : {T : Type 0} (r : Rings T) → ((list : ℕ) → get r.lists list ≡ None) → ShowsLists r map.empty
no_list r none =
    record {
      there = λ list. ap is_some (map.get-empty _ list) ∙ ap is_some (sym (none list));
      linked = λ list xs found. let clash : None ≡ Some xs = sym (map.get-empty _ list) ∙ found in absurd (cc);
      apart = λ one two node at _. let empty : Contains [] node = rw (map.get-empty _ one) at at in absurd (omega (arith, empty.1));
    }

-- what a table shows, where its lists and its values are known
module _ {T : Type 0} (r : Rings T) (kept : (lists : Lists) × ShowsLists r lists) where
  pub shown_shows : ShowsLists r (shown_lists r kept)
  unfolding shown_lists
  shown_shows = kept.1

  pub contents_are : (room : ℕ) (lists : Lists) (values : map.FinMap nat_cmp T) → ShowsLists r lists → node_values r.nodes ≡ values → ◌≡◌ {A = Table T} (record { lists = shown_lists r kept; values = node_values r.nodes; room = room }) (record { lists = lists; values = values; room = room })
  unfolding shown_lists
  contents_are room lists values shows are =
      let same : kept.0 ≡ lists = ap (λ k. k.0) (shown_once r kept (lists, shows)) in
      λ i. record { lists = same i; values = are i; room = room }

  pub free_in : (room : ℕ) (lists : Lists) (values : map.FinMap nat_cmp T) → ShowsLists r lists → node_values r.nodes ≡ values → (node : ℕ) → IsFree (record { lists = lists; values = values; room = room }) node → IsFree (record { lists = shown_lists r kept; values = node_values r.nodes; room = room }) node
  free_in room lists values shows are node free = rw (contents_are room lists values shows are) free

-- what a changed table keeps
pub closed : {T : Type 0} (r : Rings T) (room : ℕ) (lists : Lists) → ShowsLists r lists → HasRoomFor r.nodes room → ((x : Lists) × ShowsLists r x) × (HasRoomFor r.nodes room × Unit {0})
closed r room lists shows has_room = ((lists, shows), (has_room, tt))

none_from : {X : Type 0} (o : Option X) → is_some o ≡ false → o ≡ None
none_from None is = refl
none_from (Some x) is = let clash : true ≡ false = is in absurd (cc)

-- a list or a node that the slabs lack is in no map
pub list_absent : {T : Type 0} (r : Rings T) (lists : Lists) (list : ℕ) → ShowsLists r lists → get r.lists list ≡ None → map.get lists list ≡ None
list_absent r lists list shows absent = none_from _ (shows.there list ∙ ap is_some absent)

pub node_there : {T : Type 0} (nodes : Slab (Node T)) (node : ℕ) → IsSome (map.get (node_values nodes) node) → IsSome (get nodes node)
node_there nodes node there = sym (is_some-option_map (λ n. n.value) (get nodes node)) ∙ sym (ap is_some (get-node_values nodes node)) ∙ there

pub slot_there : {T : Type 0} (r : Rings T) (lists : Lists) (list : ℕ) → ShowsLists r lists → IsSome (map.get lists list) → IsSome (get r.lists list)
slot_there r lists list shows there = sym (shows.there list) ∙ there

module _ {T : Type 0} (r : Rings T) (list : ℕ) (a b : Option ℕ) where
  pub with_adjacent_room : (room : ℕ) → HasRoomFor r.nodes room → HasRoomFor (with_adjacent r list a b).nodes room
  with_adjacent_room room fits = omega (arith, fits, slab_len-with_adjacent r list a b, capacity-with_adjacent r list a b)

  pub with_adjacent_values : node_values (with_adjacent r list a b).nodes ≡ node_values r.nodes
  with_adjacent_values = node_values-kept _ _ (value-with_adjacent r list a b (λ n. n.value) (λ _ _. refl))

-- a node that left the list that it stood in is free
pub free_without : {T : Type 0} (t : Table T) (list node : ℕ) → ContainsNode t node → IsIn t list node → ((one two : ℕ) → IsIn t one node → IsIn t two node → one ≡ two) → IsFree (with_nodes t list (without node (nodes_of t list))) node
free_without t list node there at apart = record {
  there = there;
  in_no_list = nowhere_from _ node (λ other at_other. elim (eqb_tells other list) [
    | inl same ↦
        let here : Contains (nodes_at (map.insert t.lists list (without node (nodes_of t list))) list) node = rw same.1 at at_other in
        absent_without node (nodes_of t list) (rw (get-insert_same t.lists list (without node (nodes_of t list))) at here)
    | inr differs ↦
        let there_too : Contains (nodes_at t.lists other) node = rw (get-insert_other t.lists list (without node (nodes_of t list)) other differs.1) at at_other in
        differs.1 (apart other list there_too at)
  ]);
}

-- the nodes of a list differ
pub nodes_apart : {T : Type 0} (r : Rings T) (lists : Lists) (list : ℕ) → ShowsLists r lists → IsApart (nodes_at lists list)
nodes_apart r lists list shows = by_case (map.get lists list) refl
  where
    by_case : (o : Option (List ℕ)) → map.get lists list ≡ o → IsApart (nodes_at lists list)
    by_case None is = rw is tt
    by_case (Some nodes) is = rw is (path_apart (ways r list) None nodes (shows.linked list nodes is))

-- a free node is put at a place of a list
module _ {T : Type 0} (r : Rings T) (t : Table T) (shows : ShowsLists r t.lists) (list : ℕ) (at : Option ℕ) (place : IsPlace t list at) where
  -- the list before the place and behind it
  record Parts (node : ℕ) : Type 0 where
    pub front : List ℕ
    pub back : List ℕ
    pub whole : nodes_at t.lists list ≡ front ++ back
    pub at_is : at ≡ first_place back None
    pub there : IsSome (map.get t.lists list)
    pub put : placed node at (nodes_at t.lists list) ≡ front ++ node ∷ back

  parts : (node : ℕ) → Parts node
  parts node = by_place at refl place
    where
      by_place : (place : Option ℕ) → at ≡ place → IsPlace t list place → Parts node
      by_place None is there = record { front = nodes_at t.lists list; back = []; whole = sym (append-nil _); at_is = is; there = there; put = rw is refl }
      by_place (Some next) is in_list =
          let split = split_at next (nodes_at t.lists list) in_list in
          let apart : IsApart (split.front ++ next ∷ split.back) = rw split.whole at (nodes_apart r t.lists list shows) in
          record {
            front = split.front;
            back = next ∷ split.back;
            whole = split.whole;
            at_is = is;
            there = list_there t.lists list next in_list;
            put = rw is (ap (put_before node next) split.whole ∙ put_before-split node next split.front split.back (avoids_before split.front split.back next apart));
          }

  pub place_there : IsSome (links_at r list at)
  place_there = by_place at refl place
    where
      by_place : (place : Option ℕ) → at ≡ place → IsPlace t list place → IsSome (links_at r list at)
      by_place None is there = rw is (slot_there r t.lists list shows there)
      by_place (Some next) is in_list = rw is (member_there r t.lists shows list next in_list)

  module _ (node : ℕ) (free : IsFree t node) (values : t.values ≡ node_values r.nodes) (links : Links) (linked : links_at r list at ≡ Some links) where
    pub linked_node_there : IsSome (links_at r list (Some node))
    linked_node_there = is_some-option_map (λ n. n.links) (get r.nodes node) ∙ node_there r.nodes node (rw values at free.there)

    pub before_there : IsSome (links_at r list links.previous)
    before_there = let p = parts node in link_previous_there r t.lists shows list node at p.front p.back links p.whole p.at_is p.there linked_node_there (stands_nowhere _ _ free.in_no_list) linked

    pub node_there_still : IsSome (links_at (with_adjacent r list links.previous (Some node)) list (Some node))
    node_there_still = there-with_adjacent r list links.previous (Some node) list (Some node) linked_node_there

    pub at_there_still : IsSome (links_at (with_adjacent r list links.previous (Some node)) list at)
    at_there_still = there-with_adjacent r list links.previous (Some node) list at place_there

    pub ShowsLists-placed : ShowsLists (with_adjacent (with_adjacent r list links.previous (Some node)) list (Some node) at) (map.insert t.lists list (placed node at (nodes_at t.lists list)))
    ShowsLists-placed = let p = parts node in rw p.put (ShowsLists-link r t.lists shows list node at p.front p.back links p.whole p.at_is p.there linked_node_there (stands_nowhere _ _ free.in_no_list) linked)

-- a node of a list has no vacant key
pub member_differs : {T : Type 0} (r : Rings T) (lists : Lists) (list node key : ℕ) → ShowsLists r lists → Contains (nodes_at lists list) node → get r.nodes key ≡ None → node ≢ key
member_differs r lists list node key shows at vacant same =
    let there : IsSome (links_at r list (Some key)) = rw same at (member_there r lists shows list node at) in
    let clash : false ≡ true = ap (λ o. is_some (option_map (λ n. n.links) o)) (sym vacant) ∙ there in
    cc

-- a new node is free
pub free_new : {T : Type 0} (r : Rings T) (lists : Lists) (key : ℕ) (value : T) (room : ℕ) → ShowsLists r lists → get r.nodes key ≡ None → IsFree (record { lists = lists; values = map.insert (node_values r.nodes) key value; room = room }) key
free_new r lists key value room shows vacant = record { there = ap is_some (get-insert_same (node_values r.nodes) key value); in_no_list = nowhere_from lists key (λ list at. member_differs r lists list key key shows at vacant refl) }

-- a list without a first node is empty
pub unchanged_empty : {T : Type 0} (t : Table T) (list : ℕ) → ContainsList t list → slice_get (nodes_of t list) 0 ≡ None → t ≡ with_nodes t list (drop 1 (nodes_of t list))
unchanged_empty t list there none =
    let empty = none_first (nodes_of t list) none in
    let is : map.get t.lists list ≡ Some [] = listed t.lists list there ∙ ap Some empty in
    let same : map.insert t.lists list (drop 1 (nodes_of t list)) ≡ t.lists = rw empty (insert-there t.lists list [] is) in
    λ i. record t { lists = sym same i }
