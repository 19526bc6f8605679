-- Which lists the links of the rings show. No public clause cites this module.
use Rattle.std.specs.Prelude.{◌≡◌, ℕ, List, [], Option, None, Some, is_some, option_map, map as mapped, unwrap_or, refl, Contains}
use Rattle.std.specs.FinMap as map
use Rattle.std.specs.Ordering.{nat_cmp}
use Rattle.slab.specs.Slab.{Slab, get, entries}
use Rattle.std.proofs.Common.{ap, sym, ◌∙◌}
use Rattle.std.proofs.Props.{props}
use Rattle.std.proofs.lemmas.Cmp.{nat_cmp_total}
use mathlib.Core.HLevel.{Σ_prop_path}
use Rattle.qx_lists.specs.Paths.{Ways, IsPath, IsPath-prop, same_path}
use Rattle.qx_lists.specs.Rings.{links_at}
use Rattle.qx_lists.specs.declared.rings.Node.{Node}
use Rattle.qx_lists.specs.declared.rings.Rings.{Rings}

-- from list ids to lists of node numbers
abbrev pub Lists : Type 0
Lists = map.FinMap nat_cmp (List ℕ)

-- the nodes of a list, none where there is no such list
abbrev pub nodes_at : Lists → ℕ → List ℕ
nodes_at lists list = unwrap_or (map.get lists list) []

module _ {T : Type 0} where
  -- the value of each node
  unfoldable pub node_values : Slab (Node T) → map.FinMap nat_cmp T
  node_values nodes = map.from_entries (mapped (λ e. (e.0, e.1.value)) (entries nodes))

  -- what comes next to each place of the list's ring
  abbrev pub ways : Rings T → ℕ → Ways
  ways r list = record { next = λ place. option_map (λ links. links.next) (links_at r list place); previous = λ place. option_map (λ links. links.previous) (links_at r list place) }

  -- the rings are those of these lists
  pub record ShowsLists (r : Rings T) (lists : Lists) : Type 0 where
    pub there : (list : ℕ) → map.contains_key lists list ≡ is_some (get r.lists list)
    pub linked : (list : ℕ) (nodes : List ℕ) → map.get lists list ≡ Some nodes → IsPath (ways r list) None nodes None
    pub apart : (one two node : ℕ) → Contains (nodes_at lists one) node → Contains (nodes_at lists two) node → one ≡ two

  pub ShowsLists-prop : (r : Rings T) (lists : Lists) → IsProp (ShowsLists r lists)
  ShowsLists-prop r lists = hlevel (props, IsPath-prop)

  same_lists : (r : Rings T) (m n : Lists) → ShowsLists r m → ShowsLists r n → m ≡ n
  same_lists r m n a b = map.same_map nat_cmp_total map.nat_cmp-IsAntisymmetric m n (λ list. by_case list (map.get m list) (map.get n list) refl refl)
    where
      by_case : (list : ℕ) (x y : Option (List ℕ)) → map.get m list ≡ x → map.get n list ≡ y → x ≡ y
      by_case list None None p q = refl
      by_case list None (Some ys) p q = let same : is_some (map.get m list) ≡ is_some (map.get n list) = a.there list ∙ sym (b.there list) in let clash : is_some {T = List ℕ} None ≡ is_some (Some ys) = rw (p, q) at same in cc
      by_case list (Some xs) None p q = let same : is_some (map.get m list) ≡ is_some (map.get n list) = a.there list ∙ sym (b.there list) in let clash : is_some (Some xs) ≡ is_some {T = List ℕ} None = rw (p, q) at same in cc
      by_case list (Some xs) (Some ys) p q = ap Some (same_path (ways r list) None xs ys (a.linked list xs p) (b.linked list ys q))

  -- the links determine the lists
  pub shown_once : (r : Rings T) → IsProp ((lists : Lists) × ShowsLists r lists)
  shown_once r a b = Σ_prop_path (ShowsLists-prop r) (same_lists r a.0 b.0 a.1 b.1)

  -- the lists that a table keeps beside its rings
  unfoldable pub shown_lists : (r : Rings T) → (lists : Lists) × ShowsLists r lists → Lists
  shown_lists r kept = kept.0
