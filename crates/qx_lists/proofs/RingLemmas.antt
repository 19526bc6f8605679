-- What the slabs show once two places of a ring are joined.
use Rattle.std.proofs.Common.{◌≡◌, ◌≢◌, inl, inr, ℕ, zero, suc, List, [], ◌∷◌, set, get_or, Option, None, Some, is_some, IsSome, option_map, count_by, cond, refl, sym, ◌∙◌, ap, arith}
use Rattle.std.proofs.lemmas.Bool.{cases_eq}
use Rattle.std.proofs.lemmas.List.Sums.{sum_by-cons}
use Rattle.std.proofs.lemmas.List.{get_or-set_other}
use Rattle.slab.specs.Slab.{Slab, get, slab_len}
use Rattle.qx_lists.specs.Rings.{changed_at, links_at, relinked, relinked_node, with_next, with_adjacent}
use Rattle.qx_lists.specs.Shows.{ways}
use Rattle.qx_lists.specs.declared.rings.Links.{Links}
use Rattle.qx_lists.specs.declared.rings.Node.{Node}
use Rattle.qx_lists.specs.declared.rings.Rings.{Rings}
use Rattle.qx_lists.proofs.PathLemmas.{Joins}

pub is_some-option_map : {X Y : Type 0} (f : X → Y) (o : Option X) → is_some (option_map f o) ≡ is_some o
is_some-option_map f None = refl
is_some-option_map f (Some x) = refl

-- what the change leaves is the same at each key
field_kept : {X A : Type 0} (change : X → X) (field : X → A) → ((x : X) → field (change x) ≡ field x) → (o : Option X) → option_map field (option_map change o) ≡ option_map field o
field_kept change field keeps None = refl
field_kept change field keeps (Some x) = ap Some (keeps x)

module _ {X : Type 0} (change : X → X) where
  changed_slot : (slots : List (Option X)) (key : ℕ) → get_or (set slots key (option_map change (get_or slots key None))) key None ≡ option_map change (get_or slots key None)
  changed_slot [] key = refl
  changed_slot (o ∷ slots) zero = refl
  changed_slot (o ∷ slots) (suc key) = changed_slot slots key

  changed_count : (slots : List (Option X)) (key : ℕ) → count_by is_some (set slots key (option_map change (get_or slots key None))) ≡ count_by is_some slots
  changed_count [] key = refl
  changed_count (o ∷ slots) zero =
      omega (arith, ap {B = ℕ} (λ b. cond b 1 0) (is_some-option_map change o), sum_by-cons (λ x. cond (is_some x) 1 0) (option_map change o) slots, sum_by-cons (λ x. cond (is_some x) 1 0) o slots)
  changed_count (o ∷ slots) (suc key) = omega (arith, changed_count slots key, sum_by-cons (λ x. cond (is_some x) 1 0) o (set slots key (option_map change (get_or slots key None))), sum_by-cons (λ x. cond (is_some x) 1 0) o slots)

  pub get-changed_at_same : (s : Slab X) (key : ℕ) → get (changed_at change s key) key ≡ option_map change (get s key)
  get-changed_at_same s key = changed_slot s.slots key

  pub get-changed_at_other : (s : Slab X) (key other : ℕ) → other ≢ key → get (changed_at change s key) other ≡ get s other
  get-changed_at_other s key other differs = get_or-set_other s.slots key other _ None differs

  pub field-changed_at : {A : Type 0} (field : X → A) → ((x : X) → field (change x) ≡ field x) → (s : Slab X) (key other : ℕ) → option_map field (get (changed_at change s key) other) ≡ option_map field (get s other)
  field-changed_at field keeps s key other = elim (cases_eq other key) [
    | inl same ↦ rw same (ap (option_map field) (get-changed_at_same s key) ∙ field_kept change field keeps (get s key))
    | inr differs ↦ ap (option_map field) (get-changed_at_other s key other differs)
  ]

  pub is_some-changed_at : (s : Slab X) (key other : ℕ) → is_some (get (changed_at change s key) other) ≡ is_some (get s other)
  is_some-changed_at s key other = elim (cases_eq other key) [
    | inl same ↦ rw same (ap is_some (get-changed_at_same s key) ∙ is_some-option_map change (get s key))
    | inr differs ↦ ap is_some (get-changed_at_other s key other differs)
  ]

  pub slab_len-changed_at : (s : Slab X) (key : ℕ) → slab_len (changed_at change s key) ≡ slab_len s
  slab_len-changed_at s key = changed_count s.slots key

-- another place: of a node, or of another list itself
abbrev pub IsElsewhere : ℕ → Option ℕ → ℕ → Option ℕ → Type 0
IsElsewhere other None list None = other ≢ list
IsElsewhere other (Some node) list (Some place) = node ≢ place
IsElsewhere other None list (Some place) = Unit {0}
IsElsewhere other (Some node) list None = Unit {0}

pub elsewhere_in_list : (list : ℕ) (s place : Option ℕ) → s ≢ place → IsElsewhere list s list place
elsewhere_in_list list None None differs = absurd (differs refl)
elsewhere_in_list list None (Some place) differs = tt
elsewhere_in_list list (Some node) None differs = tt
elsewhere_in_list list (Some node) (Some place) differs = λ same. differs (ap Some same)

pub elsewhere_none : (other list : ℕ) (place : Option ℕ) → other ≢ list → IsElsewhere other None list place
elsewhere_none other list None differs = differs
elsewhere_none other list (Some place) differs = tt

pub elsewhere_node : (other list node : ℕ) (place : Option ℕ) → Some node ≢ place → IsElsewhere other (Some node) list place
elsewhere_node other list node None differs = tt
elsewhere_node other list node (Some place) differs = λ same. differs (ap Some same)

changed_field : {A : Type 0} (field : Links → A) (change : Links → Links) (a : A) → ((x : Links) → field (change x) ≡ a) → (o : Option Links) → IsSome o → option_map field (option_map change o) ≡ Some a
changed_field field change a gives None there = cc
changed_field field change a gives (Some x) there = ap Some (gives x)

module _ {T : Type 0} where
  links_of_changed : (change : Links → Links) (o : Option (Node T)) → option_map (λ n. n.links) (option_map (relinked_node change) o) ≡ option_map change (option_map (λ n. n.links) o)
  links_of_changed change None = refl
  links_of_changed change (Some n) = refl

  links-relinked_same : (change : Links → Links) (r : Rings T) (list : ℕ) (place : Option ℕ) → links_at (relinked change r list place) list place ≡ option_map change (links_at r list place)
  links-relinked_same change r list None = get-changed_at_same change r.lists list
  links-relinked_same change r list (Some node) = ap (option_map (λ n. n.links)) (get-changed_at_same (relinked_node change) r.nodes node) ∙ links_of_changed change (get r.nodes node)

  links-relinked_other : (change : Links → Links) (r : Rings T) (list : ℕ) (place : Option ℕ) (other : ℕ) (s : Option ℕ) → IsElsewhere other s list place → links_at (relinked change r list place) other s ≡ links_at r other s
  links-relinked_other change r list None other None elsewhere = get-changed_at_other change r.lists list other elsewhere
  links-relinked_other change r list None other (Some node) elsewhere = refl
  links-relinked_other change r list (Some place) other None elsewhere = refl
  links-relinked_other change r list (Some place) other (Some node) elsewhere = ap (option_map (λ n. n.links)) (get-changed_at_other (relinked_node change) r.nodes place node elsewhere)

  field-relinked : {A : Type 0} (field : Links → A) (change : Links → Links) → ((x : Links) → field (change x) ≡ field x) → (r : Rings T) (list : ℕ) (place : Option ℕ) (other : ℕ) (s : Option ℕ) → option_map field (links_at (relinked change r list place) other s) ≡ option_map field (links_at r other s)
  field-relinked field change keeps r list None other None = field-changed_at change field keeps r.lists list other
  field-relinked field change keeps r list None other (Some node) = refl
  field-relinked field change keeps r list (Some place) other None = refl
  field-relinked field change keeps r list (Some place) other (Some node) = elim (cases_eq node place) [
    | inl same ↦ rw same (ap (option_map field) (links-relinked_same change r list (Some place)) ∙ field_kept change field keeps (links_at r list (Some place)))
    | inr differs ↦ ap (option_map field) (links-relinked_other change r list (Some place) other (Some node) differs)
  ]

  there_still : (change : Links → Links) (r : Rings T) (list : ℕ) (place : Option ℕ) (other : ℕ) (s : Option ℕ) → IsSome (links_at r other s) → IsSome (links_at (relinked change r list place) other s)
  there_still change r list place other s there =
      let mark : Links → ℕ = λ _. 0 in
      sym (is_some-option_map mark (links_at (relinked change r list place) other s))
      ∙ ap is_some (field-relinked mark change (λ _. refl) r list place other s)
      ∙ is_some-option_map mark (links_at r other s)
      ∙ there

  is_some-list-relinked : (change : Links → Links) (r : Rings T) (list : ℕ) (place : Option ℕ) (other : ℕ) → is_some (get (relinked change r list place).lists other) ≡ is_some (get r.lists other)
  is_some-list-relinked change r list None other = is_some-changed_at change r.lists list other
  is_some-list-relinked change r list (Some node) other = refl

  value-relinked : {V : Type 0} (value : Node T → V) (change : Links → Links) → ((n : Node T) → value (relinked_node change n) ≡ value n) → (r : Rings T) (list : ℕ) (place : Option ℕ) (node : ℕ) → option_map value (get (relinked change r list place).nodes node) ≡ option_map value (get r.nodes node)
  value-relinked value change keeps r list None node = refl
  value-relinked value change keeps r list (Some place) node = field-changed_at (relinked_node change) value keeps r.nodes place node

  slab_len-relinked : (change : Links → Links) (r : Rings T) (list : ℕ) (place : Option ℕ) → slab_len (relinked change r list place).nodes ≡ slab_len r.nodes
  slab_len-relinked change r list None = refl
  slab_len-relinked change r list (Some node) = slab_len-changed_at (relinked_node change) r.nodes node

  capacity-relinked : (change : Links → Links) (r : Rings T) (list : ℕ) (place : Option ℕ) → (relinked change r list place).nodes.capacity ≡ r.nodes.capacity
  capacity-relinked change r list None = refl
  capacity-relinked change r list (Some node) = refl

  module _ (r : Rings T) (list : ℕ) (a b : Option ℕ) where
    pub next-with_adjacent : (other : ℕ) (s : Option ℕ) → IsElsewhere other s list a → (ways (with_adjacent r list a b) other).next s ≡ (ways r other).next s
    unfolding with_adjacent
    next-with_adjacent other s elsewhere = field-relinked (λ x. x.next) (λ x. record x { previous = a }) (λ _. refl) (with_next r list a b) list b other s
        ∙ ap (option_map (λ x. x.next)) (links-relinked_other (λ x. record x { next = b }) r list a other s elsewhere)

    pub previous-with_adjacent : (other : ℕ) (s : Option ℕ) → IsElsewhere other s list b → (ways (with_adjacent r list a b) other).previous s ≡ (ways r other).previous s
    unfolding with_adjacent
    previous-with_adjacent other s elsewhere = ap (option_map (λ x. x.previous)) (links-relinked_other (λ x. record x { previous = a }) (with_next r list a b) list b other s elsewhere)
        ∙ field-relinked (λ x. x.previous) (λ x. record x { next = b }) (λ _. refl) r list a other s

    pub with_adjacent_joins : IsSome (links_at r list a) → IsSome (links_at r list b) → Joins (ways r list) (ways (with_adjacent r list a b) list) a b
    unfolding with_adjacent
    with_adjacent_joins there_a there_b = record {
      next_is = field-relinked (λ x. x.next) (λ x. record x { previous = a }) (λ _. refl) (with_next r list a b) list b list a
          ∙ ap (option_map (λ x. x.next)) (links-relinked_same (λ x. record x { next = b }) r list a)
          ∙ changed_field (λ x. x.next) (λ x. record x { next = b }) b (λ _. refl) (links_at r list a) there_a;
      next_kept = λ s differs. next-with_adjacent list s (elsewhere_in_list list s a differs);
      previous_is = ap (option_map (λ x. x.previous)) (links-relinked_same (λ x. record x { previous = a }) (with_next r list a b) list b)
          ∙ changed_field (λ x. x.previous) (λ x. record x { previous = a }) a (λ _. refl) _ (there_still (λ x. record x { next = b }) r list a list b there_b);
      previous_kept = λ s differs. previous-with_adjacent list s (elsewhere_in_list list s b differs);
    }

    pub there-with_adjacent : (other : ℕ) (s : Option ℕ) → IsSome (links_at r other s) → IsSome (links_at (with_adjacent r list a b) other s)
    unfolding with_adjacent
    there-with_adjacent other s there = there_still _ (with_next r list a b) list b other s (there_still _ r list a other s there)

    pub is_some-list-with_adjacent : (other : ℕ) → is_some (get (with_adjacent r list a b).lists other) ≡ is_some (get r.lists other)
    unfolding with_adjacent
    is_some-list-with_adjacent other = is_some-list-relinked _ (with_next r list a b) list b other ∙ is_some-list-relinked _ r list a other

    pub value-with_adjacent : {V : Type 0} (value : Node T → V) → ((links : Links) (n : Node T) → value (record n { links = links }) ≡ value n) → (node : ℕ) → option_map value (get (with_adjacent r list a b).nodes node) ≡ option_map value (get r.nodes node)
    unfolding with_adjacent
    value-with_adjacent value keeps node = value-relinked value (λ x. record x { previous = a }) (λ n. keeps _ n) (with_next r list a b) list b node ∙ value-relinked value (λ x. record x { next = b }) (λ n. keeps _ n) r list a node

    pub slab_len-with_adjacent : slab_len (with_adjacent r list a b).nodes ≡ slab_len r.nodes
    unfolding with_adjacent
    slab_len-with_adjacent = slab_len-relinked _ (with_next r list a b) list b ∙ slab_len-relinked _ r list a

    pub capacity-with_adjacent : (with_adjacent r list a b).nodes.capacity ≡ r.nodes.capacity
    unfolding with_adjacent
    capacity-with_adjacent = capacity-relinked _ (with_next r list a b) list b ∙ capacity-relinked _ r list a
