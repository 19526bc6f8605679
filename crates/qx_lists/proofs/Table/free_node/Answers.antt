use Rattle.std.proofs.Common.{◌+◌, refl, ap, ◌∙◌, arith, option_map}
use Rattle.std.specs.FinMap as map
use Rattle.qx_lists.specs.Shows.{shown_lists, node_values}
use Rattle.qx_lists.proofs.ListLemmas.{stands_nowhere}
use Rattle.qx_lists.proofs.ShowsLemmas.{ShowsLists-kept, shown_shows, node_there, contents_are, closed}
use Rattle.qx_lists.proofs.ValueLemmas.{get-node_values, node_values-remove}
use Rattle.qx_lists.proofs.Table.free_node.Goals as goal

pub remove-value-requires : goal.remove-value-requires
remove-value-requires g c = node_there _ c.args.node (rw (← c.self.view_is) at c.requires.there)

pub invariant_of-self-inside : goal.invariant_of-self-inside
invariant_of-self-inside g c =
    let free = stands_nowhere _ _ (rw (← c.self.view_is) at c.requires.in_no_list) in
    closed (record { nodes = c.remove-value.new.self; lists = c.self.inside.rings.lists }) _ (shown_lists _ c.self.inside.kept)
    (ShowsLists-kept c.self.inside.rings _ _ (shown_shows _ c.self.inside.kept) (λ list. refl) (λ list node at. ap (option_map (λ n. n.links)) (c.remove-value.ensures.updates.others node (λ same. free list (rw same at at)))))
    (omega (arith, c.self.inside.has_room, c.remove-value.ensures.len, c.remove-value.ensures.capacity))

pub returns-clause-value : goal.returns-clause-value
returns-clause-value g c = rw (← c.self.view_is) (get-node_values _ c.args.node ∙ ap (option_map (λ n. n.value)) c.remove-value.ensures.value)

pub returns-clause-freed : goal.returns-clause-freed
returns-clause-freed g c =
    let free = stands_nowhere _ _ (rw (← c.self.view_is) at c.requires.in_no_list) in
    rw (← c.self.view_is)
    (contents_are (record { nodes = c.remove-value.new.self; lists = c.self.inside.rings.lists }) _ (c.self.inside.room + 1) (shown_lists _ c.self.inside.kept) (map.remove (node_values c.self.inside.rings.nodes) c.args.node)
    (ShowsLists-kept c.self.inside.rings _ _ (shown_shows _ c.self.inside.kept) (λ list. refl) (λ list node at. ap (option_map (λ n. n.links)) (c.remove-value.ensures.updates.others node (λ same. free list (rw same at at)))))
    (node_values-remove _ _ c.args.node c.remove-value.ensures.updates))
