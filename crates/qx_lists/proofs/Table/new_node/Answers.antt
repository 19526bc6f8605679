use Rattle.std.proofs.Common.{◌≡◌, ◌-◌, max, refl, ap, ◌∙◌, option_map, arith}
use Rattle.qx_lists.specs.Shows.{shown_lists, node_values}
use Rattle.qx_lists.proofs.ShowsLemmas.{ShowsLists-kept, member_differs, free_new, free_in, shown_shows, contents_are, closed}
use Rattle.qx_lists.proofs.ValueLemmas.{get-node_values, node_values-insert}
use Rattle.qx_lists.proofs.Table.new_node.Goals as goal

pub invariant_of-self-inside : goal.invariant_of-self-inside
invariant_of-self-inside g c =
    let kept = shown_shows _ c.self.inside.kept in
    let room_is : c.self.inside.room ≡ max c.args.self.now.room 1 = ap (λ t. t.room) (c.self.view_is ∙ c.in-Ok.ensures.ok) in
    closed (record { nodes = c.insert_reserved.new.self; lists = c.self.inside.rings.lists }) _ _
    (ShowsLists-kept _ _ _ kept (λ list. refl) (λ list node at. ap (option_map (λ n. n.links)) (c.insert_reserved.ensures.updates.others node (member_differs _ _ list node _ kept at c.insert_reserved.ensures.was_vacant))))
    (omega (arith, room_is, c.self.inside.has_room, c.insert_reserved.ensures.len, c.insert_reserved.ensures.capacity))

pub returns-clause-made : goal.returns-clause-made
returns-clause-made g c =
    let kept = shown_shows _ c.self.inside.kept in
    let opened = c.self.view_is ∙ c.in-Ok.ensures.ok in
    let lists_are : shown_lists _ c.self.inside.kept ≡ c.args.self.now.lists = ap (λ t. t.lists) opened in
    let values_are : node_values c.self.inside.rings.nodes ≡ c.args.self.now.values = ap (λ t. t.values) opened in
    let room_is : c.self.inside.room ≡ max c.args.self.now.room 1 = ap (λ t. t.room) opened in
    let left : c.self.inside.room - 1 ≡ c.args.self.now.room - 1 = omega (arith, room_is) in
    rw (← lists_are, ← values_are, ← left) (contents_are _ _ _ _ _
    (ShowsLists-kept c.self.inside.rings (record { nodes = c.insert_reserved.new.self; lists = c.self.inside.rings.lists }) _ kept (λ list. refl) (λ list node at. ap (option_map (λ n. n.links)) (c.insert_reserved.ensures.updates.others node (member_differs _ _ list node _ kept at c.insert_reserved.ensures.was_vacant))))
    (node_values-insert _ _ c.insert_reserved.result _ c.insert_reserved.ensures.updates))

pub returns-clause-was_new : goal.returns-clause-was_new
returns-clause-was_new g c =
    let values_are : node_values c.self.inside.rings.nodes ≡ c.args.self.now.values = ap (λ t. t.values) (c.self.view_is ∙ c.in-Ok.ensures.ok) in
    rw (← values_are) (get-node_values _ c.insert_reserved.result ∙ ap (option_map (λ n. n.value)) c.insert_reserved.ensures.was_vacant)

pub returns-clause-free : goal.returns-clause-free
returns-clause-free g c =
    let kept = shown_shows _ c.self.inside.kept in
    free_in _ _ (c.self.inside.room - 1) _ _
    (ShowsLists-kept c.self.inside.rings (record { nodes = c.insert_reserved.new.self; lists = c.self.inside.rings.lists }) _ kept (λ list. refl) (λ list node at. ap (option_map (λ n. n.links)) (c.insert_reserved.ensures.updates.others node (member_differs _ _ list node _ kept at c.insert_reserved.ensures.was_vacant))))
    (node_values-insert _ _ c.insert_reserved.result _ c.insert_reserved.ensures.updates)
    c.insert_reserved.result (free_new _ _ _ _ _ kept c.insert_reserved.ensures.was_vacant)
