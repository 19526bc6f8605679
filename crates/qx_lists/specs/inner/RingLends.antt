-- What the rings end as, where a `&mut` to a value is returned. No public clause cites this module.
use Rattle.std.specs.Prelude.{ℕ, Option}
use Rattle.std.specs.Borrow.{Lends, Fml, RattleType, MutBor}
use Rattle.qx_lists.specs.Rings.{changed_at, relinked}
use Rattle.qx_lists.specs.declared.rings.Links.{Links}
use Rattle.qx_lists.specs.declared.rings.Rings.{Rings}
use Rattle.qx_lists.specs.contracts.rings.Links as links
use Rattle.qx_lists.specs.contracts.rings.Rings.{the_row}

-- the rings with another value of one node
abbrev pub with_node_value : {T : Type 0} → Rings T → ℕ → T → Rings T
with_node_value r node value = record r { nodes = changed_at (λ n. record n { value = value }) r.nodes node }

abbrev pub lends_ring_value : (T : RattleType) → MutBor (Rings T.Denot) → ℕ → MutBor T.Denot → Fml
lends_ring_value T s node r = Lends (the_row T) T s r (with_node_value s.now node)

-- the same of the links of a place of a list's ring
abbrev pub lends_links : (T : RattleType) → MutBor (Rings T.Denot) → ℕ → Option ℕ → MutBor Links → Fml
lends_links T s list place r = Lends (the_row T) links.the_row s r (λ links. relinked (λ _. links) s.now list place)
