-- The links of the lists. No public clause cites this module.
use Rattle.std.specs.Prelude.{ℕ, Option, None, Some, option_map, slice_set}
use Rattle.slab.specs.Slab.{Slab, get}
use Rattle.qx_lists.specs.declared.rings.Links.{Links}
use Rattle.qx_lists.specs.declared.rings.Node.{Node}
use Rattle.qx_lists.specs.declared.rings.Rings.{Rings}

-- the slab with the value at the key changed
abbrev pub changed_at : {X : Type 0} → (X → X) → Slab X → ℕ → Slab X
changed_at {X} change s key = let slot : Option X = option_map change (get s key) in record s { slots = slice_set s.slots key slot }

module _ {T : Type 0} where
  -- the links of a place of a list's ring
  abbrev pub links_at : Rings T → ℕ → Option ℕ → Option Links
  links_at r list None = get r.lists list
  links_at r list (Some node) = option_map (λ n. n.links) (get r.nodes node)

  abbrev pub relinked_node : (Links → Links) → Node T → Node T
  relinked_node change n = record n { links = change n.links }

  -- the rings with other links at one place
  abbrev pub relinked : (Links → Links) → Rings T → ℕ → Option ℕ → Rings T
  relinked change r list None = record r { lists = changed_at change r.lists list }
  relinked change r list (Some node) = record r { nodes = changed_at (relinked_node change) r.nodes node }

  abbrev pub with_next : Rings T → ℕ → Option ℕ → Option ℕ → Rings T
  with_next r list place next = relinked (λ links. record links { next = next }) r list place

  abbrev pub with_previous : Rings T → ℕ → Option ℕ → Option ℕ → Rings T
  with_previous r list place previous = relinked (λ links. record links { previous = previous }) r list place

  -- the rings where one place comes right after another
  unfoldable pub with_adjacent : Rings T → ℕ → Option ℕ → Option ℕ → Rings T
  with_adjacent r list before after = with_previous (with_next r list before after) list after before
