-- The map of values that a slab of nodes shows.
use Rattle.std.proofs.Common.{◌≡◌, inl, inr, ℕ, zero, suc, ◌+◌, ◌<◌, true, false, cond, List, [], ◌∷◌, get_or, map as mapped, Option, None, Some, is_some, option_map, IsSome, count_by, refl, sym, ◌∙◌, ap, arith}
use Rattle.std.specs.FinMap as map
use Rattle.std.specs.FinMap.{find}
use Rattle.std.specs.Ordering.{nat_cmp}
use Rattle.std.specs.Cmp.{unsigned_tied}
use Rattle.std.proofs.lemmas.Cmp.{nat_cmp_total}
use Rattle.std.proofs.lemmas.Bool.Decides.{eqb_tells}
use Rattle.std.proofs.lemmas.List.Sums.{sum_by-cons}
use Rattle.slab.specs.Slab.{Slab, get, entries_from, slab_len, Updates}
use Rattle.qx_lists.specs.Shows.{node_values}
use Rattle.qx_lists.specs.declared.rings.Node.{Node}
use Rattle.qx_lists.specs.Rings.{changed_at}
use Rattle.qx_lists.proofs.RingLemmas.{get-changed_at_same, get-changed_at_other}
use Rattle.qx_lists.proofs.MapLemmas.{same_map, get-insert_same, get-insert_other, get-remove_same, get-remove_other}

module _ {T : Type 0} where
  values_from : ℕ → List (Option (Node T)) → List (ℕ × T)
  values_from key slots = mapped (λ e. (e.0, e.1.value)) (entries_from key slots)

  missed_below : (first : ℕ) (slots : List (Option (Node T))) (q : ℕ) → q < first → find nat_cmp q (values_from first slots) ≡ None
  unfolding values_from
  missed_below first [] q below = refl
  missed_below first (None ∷ rest) q below = missed_below (first + 1) rest q (omega arith)
  missed_below first (Some n ∷ rest) q below = elim (eqb_tells q first) [
    | inl same ↦ absurd (omega (arith, same.1))
    | inr differs ↦ rw (unsigned_tied q first, differs.0) (missed_below (first + 1) rest q (omega arith))
  ]

  found_at : (first : ℕ) (slots : List (Option (Node T))) (k q : ℕ) → q ≡ first + k → find nat_cmp q (values_from first slots) ≡ option_map (λ n. n.value) (get_or slots k None)
  unfolding values_from
  found_at first [] k q is = refl
  found_at first (None ∷ rest) zero q is = missed_below (first + 1) rest q (omega arith)
  found_at first (None ∷ rest) (suc k) q is = found_at (first + 1) rest k q (omega arith)
  found_at first (Some n ∷ rest) zero q is = elim (eqb_tells q first) [
    | inl same ↦ rw (unsigned_tied q first, same.0)
    | inr differs ↦ absurd (differs.1 (omega arith))
  ]
  found_at first (Some n ∷ rest) (suc k) q is = elim (eqb_tells q first) [
    | inl same ↦ absurd (omega (arith, same.1))
    | inr differs ↦ rw (unsigned_tied q first, differs.0) (found_at (first + 1) rest k q (omega arith))
  ]

  -- a node's value is the one that its slot has
  pub get-node_values : (nodes : Slab (Node T)) (q : ℕ) → map.get (node_values nodes) q ≡ option_map (λ n. n.value) (get nodes q)
  unfolding node_values values_from
  get-node_values nodes q = map.get-from_entries nat_cmp_total _ q ∙ found_at 0 nodes.slots q q (omega arith)

  counted_from : (first : ℕ) (slots : List (Option (Node T))) → map.len (map.from_entries {R = nat_cmp} (values_from first slots)) ≡ count_by is_some slots
  unfolding values_from
  counted_from first [] = map.len-empty nat_cmp T
  counted_from first (None ∷ rest) = omega (arith, counted_from (first + 1) rest, sum_by-cons (λ o. cond (is_some o) 1 0) None rest)
  counted_from first (Some n ∷ rest) =
      let before = map.from_entries {R = nat_cmp} (values_from (first + 1) rest) in
      let absent : map.get before first ≡ None = map.get-from_entries nat_cmp_total _ first ∙ missed_below (first + 1) rest first (omega arith) in
      let longer : map.len (map.insert before first n.value) ≡ map.len before + 1 = map.len-insert nat_cmp_total before first n.value ∙ ap (λ o. cond (is_some o) (map.len before) (map.len before + 1)) absent in
      omega (arith, longer, counted_from (first + 1) rest, sum_by-cons (λ o. cond (is_some o) 1 0) (Some n) rest)

  -- there are as many values as nodes
  pub len-node_values : (nodes : Slab (Node T)) → map.len (node_values nodes) ≡ slab_len nodes
  unfolding node_values values_from
  len-node_values nodes = counted_from 0 nodes.slots

  pub node_values-kept : (old new : Slab (Node T)) → ((q : ℕ) → option_map (λ n. n.value) (get new q) ≡ option_map (λ n. n.value) (get old q)) → node_values new ≡ node_values old
  node_values-kept old new same = same_map _ _ (λ q. get-node_values new q ∙ same q ∙ sym (get-node_values old q))

  pub node_values-insert : (old new : Slab (Node T)) (key : ℕ) (n : Node T) → Updates old new key (Some n) → node_values new ≡ map.insert (node_values old) key n.value
  node_values-insert old new key n updates = same_map _ _ (λ q. elim (eqb_tells q key) [
    | inl same ↦ rw same.1 (get-node_values new key ∙ ap (option_map (λ x. x.value)) updates.changed ∙ sym (get-insert_same (node_values old) key n.value))
    | inr differs ↦ get-node_values new q ∙ ap (option_map (λ x. x.value)) (updates.others q differs.1) ∙ sym (get-node_values old q) ∙ sym (get-insert_other (node_values old) key n.value q differs.1)
  ])

  pub node_values-remove : (old new : Slab (Node T)) (key : ℕ) → Updates old new key None → node_values new ≡ map.remove (node_values old) key
  node_values-remove old new key updates = same_map _ _ (λ q. elim (eqb_tells q key) [
    | inl same ↦ rw same.1 (get-node_values new key ∙ ap (option_map (λ x. x.value)) updates.changed ∙ sym (get-remove_same (node_values old) key))
    | inr differs ↦ get-node_values new q ∙ ap (option_map (λ x. x.value)) (updates.others q differs.1) ∙ sym (get-node_values old q) ∙ sym (get-remove_other (node_values old) key q differs.1)
  ])

  pub node_values-empty : (nodes : Slab (Node T)) → nodes.slots ≡ [] → node_values nodes ≡ map.empty
  unfolding node_values
  node_values-empty nodes empty = ap (λ slots. map.from_entries (mapped (λ e. (e.0, e.1.value)) (entries_from 0 slots))) empty

  with_value_of : (w : T) (change : Node T → Node T) → ((n : Node T) → (change n).value ≡ w) → (o : Option (Node T)) → IsSome o → option_map (λ n. n.value) (option_map change o) ≡ Some w
  with_value_of w change gives None there = let clash : false ≡ true = there in absurd (cc)
  with_value_of w change gives (Some n) there = ap Some (gives n)

  pub node_values-changed : (nodes : Slab (Node T)) (key : ℕ) (w : T) → IsSome (get nodes key) → node_values (changed_at (λ n. record n { value = w }) nodes key) ≡ map.insert (node_values nodes) key w
  node_values-changed nodes key w there =
      let change : Node T → Node T = λ n. record n { value = w } in
      same_map _ _ (λ q. elim (eqb_tells q key) [
        | inl same ↦ rw same.1 (get-node_values _ key ∙ ap (option_map (λ x. x.value)) (get-changed_at_same change nodes key) ∙ with_value_of w change (λ _. refl) (get nodes key) there ∙ sym (get-insert_same (node_values nodes) key w))
        | inr differs ↦ get-node_values _ q ∙ ap (option_map (λ x. x.value)) (get-changed_at_other change nodes key q differs.1) ∙ sym (get-node_values nodes q) ∙ sym (get-insert_other (node_values nodes) key w q differs.1)
      ])
