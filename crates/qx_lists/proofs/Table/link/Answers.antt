use Rattle.std.proofs.Common.{◌∙◌, refl}
use Rattle.qx_lists.specs.Shows.{shown_lists, node_values}
use Rattle.qx_lists.proofs.ShowsLemmas.{place_there, before_there, linked_node_there, node_there_still, at_there_still, ShowsLists-placed, with_adjacent_room, with_adjacent_values, shown_shows, contents_are, closed}
use Rattle.qx_lists.proofs.Table.link.Goals as goal

pub links-before-requires : goal.links-before-requires
links-before-requires g c =
    place_there c.self.inside.rings (record { lists = shown_lists _ c.self.inside.kept; values = node_values c.self.inside.rings.nodes; room = c.self.inside.room }) (shown_shows _ c.self.inside.kept) c.args.list c.args.at (rw (← c.self.view_is) at c.requires.place)

pub join-requires-clause-before : goal.join-requires-clause-before
join-requires-clause-before g c =
    before_there c.self.inside.rings (record { lists = shown_lists _ c.self.inside.kept; values = node_values c.self.inside.rings.nodes; room = c.self.inside.room }) (shown_shows _ c.self.inside.kept) c.args.list c.args.at (rw (← c.self.view_is) at c.requires.place) c.args.node (rw (← c.self.view_is) at c.requires.free) refl c.links-before.result c.links-before.ensures.links

pub join-requires-clause-after : goal.join-requires-clause-after
join-requires-clause-after g c =
    linked_node_there c.self.inside.rings (record { lists = shown_lists _ c.self.inside.kept; values = node_values c.self.inside.rings.nodes; room = c.self.inside.room }) (shown_shows _ c.self.inside.kept) c.args.list c.args.at (rw (← c.self.view_is) at c.requires.place) c.args.node (rw (← c.self.view_is) at c.requires.free) refl c.links-before.result c.links-before.ensures.links

pub join-requires-2-clause-before : goal.join-requires-2-clause-before
join-requires-2-clause-before g c =
    rw c.join.ensures.joined (node_there_still c.self.inside.rings (record { lists = shown_lists _ c.self.inside.kept; values = node_values c.self.inside.rings.nodes; room = c.self.inside.room }) (shown_shows _ c.self.inside.kept) c.args.list c.args.at (rw (← c.self.view_is) at c.requires.place) c.args.node (rw (← c.self.view_is) at c.requires.free) refl c.links-before.result c.links-before.ensures.links)

pub join-requires-2-clause-after : goal.join-requires-2-clause-after
join-requires-2-clause-after g c =
    rw c.join.ensures.joined (at_there_still c.self.inside.rings (record { lists = shown_lists _ c.self.inside.kept; values = node_values c.self.inside.rings.nodes; room = c.self.inside.room }) (shown_shows _ c.self.inside.kept) c.args.list c.args.at (rw (← c.self.view_is) at c.requires.place) c.args.node (rw (← c.self.view_is) at c.requires.free) refl c.links-before.result c.links-before.ensures.links)

pub invariant_of-self-inside : goal.invariant_of-self-inside
invariant_of-self-inside g c =
    let shows = ShowsLists-placed c.self.inside.rings (record { lists = shown_lists _ c.self.inside.kept; values = node_values c.self.inside.rings.nodes; room = c.self.inside.room }) (shown_shows _ c.self.inside.kept) c.args.list c.args.at (rw (← c.self.view_is) at c.requires.place) c.args.node (rw (← c.self.view_is) at c.requires.free) refl c.links-before.result c.links-before.ensures.links in
    rw (c.join-2.ensures.joined, c.join.ensures.joined) (closed _ _ _ shows (with_adjacent_room _ _ _ _ _ (with_adjacent_room _ _ _ _ _ c.self.inside.has_room)))

pub returns-clause-linked : goal.returns-clause-linked
returns-clause-linked g c =
    let shows = ShowsLists-placed c.self.inside.rings (record { lists = shown_lists _ c.self.inside.kept; values = node_values c.self.inside.rings.nodes; room = c.self.inside.room }) (shown_shows _ c.self.inside.kept) c.args.list c.args.at (rw (← c.self.view_is) at c.requires.place) c.args.node (rw (← c.self.view_is) at c.requires.free) refl c.links-before.result c.links-before.ensures.links in
    rw (← c.self.view_is) (contents_are _ _ c.self.inside.room _ (node_values c.self.inside.rings.nodes) (rw (c.join-2.ensures.joined, c.join.ensures.joined) shows) (rw (c.join-2.ensures.joined, c.join.ensures.joined) (with_adjacent_values _ _ _ _ ∙ with_adjacent_values _ _ _ _)))
