use Rattle.std.proofs.Common.{refl, ◌∙◌}
use Rattle.std.specs.FinMap as map
use Rattle.qx_lists.specs.Shows.{shown_lists, node_values}
use Rattle.qx_lists.proofs.RingLemmas.{field-changed_at, slab_len-changed_at}
use Rattle.qx_lists.proofs.ShowsLemmas.{ShowsLists-kept, node_there, shown_shows, contents_are, closed}
use Rattle.qx_lists.proofs.ValueLemmas.{get-node_values, node_values-changed}
use Rattle.qx_lists.proofs.Table.value_mut.Goals as goal

pub value_mut-requires : goal.value_mut-requires
value_mut-requires g c = node_there _ c.args.node (rw (← c.self.view_is) at c.requires)

pub invariant_of-self-inside-lent : goal.invariant_of-self-inside-lent
invariant_of-self-inside-lent g c w =
    closed _ _ (shown_lists _ c.self.inside.kept)
    (ShowsLists-kept _ _ _ (shown_shows _ c.self.inside.kept) (λ list. refl) (λ list node at. field-changed_at (λ n. record n { value = w }) (λ n. n.links) (λ _. refl) c.self.inside.rings.nodes c.args.node node))
    (rw (slab_len-changed_at (λ n. record n { value = w }) c.self.inside.rings.nodes c.args.node) c.self.inside.has_room)

pub returns : goal.returns
returns g c = (
  (
    refl,
    λ w. rw (← c.self.view_is) (contents_are _ _ c.self.inside.room (shown_lists _ c.self.inside.kept) (map.insert (node_values c.self.inside.rings.nodes) c.args.node w)
        (ShowsLists-kept _ _ _ (shown_shows _ c.self.inside.kept) (λ list. refl) (λ list node at. field-changed_at (λ n. record n { value = w }) (λ n. n.links) (λ _. refl) c.self.inside.rings.nodes c.args.node node))
        (node_values-changed c.self.inside.rings.nodes c.args.node w (node_there _ c.args.node (rw (← c.self.view_is) at c.requires)))),
  ),
  record { writes_back = tt; value = rw (← c.self.view_is) (get-node_values _ c.args.node ∙ c.value_mut.ensures.value) },
)
