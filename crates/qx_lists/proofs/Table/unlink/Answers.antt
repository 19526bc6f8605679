use Rattle.qx_lists.specs.Shows.{node_values}
use Rattle.qx_lists.proofs.ShowsLemmas.{ShowsLists-unlink, previous_there, next_there, member_there, member_value, with_adjacent_room, with_adjacent_values, free_without, free_in, shown_shows, contents_are, closed}
use Rattle.qx_lists.proofs.Table.unlink.Goals as goal

pub links-links-requires : goal.links-links-requires
links-links-requires g c = member_there _ _ (shown_shows _ c.self.inside.kept) c.args.list c.args.node (rw (← c.self.view_is) at c.requires)

pub join-requires-clause-before : goal.join-requires-clause-before
join-requires-clause-before g c = previous_there _ _ (shown_shows _ c.self.inside.kept) c.args.list c.args.node c.links-links.result (rw (← c.self.view_is) at c.requires) c.links-links.ensures.links

pub join-requires-clause-after : goal.join-requires-clause-after
join-requires-clause-after g c = next_there _ _ (shown_shows _ c.self.inside.kept) c.args.list c.args.node c.links-links.result (rw (← c.self.view_is) at c.requires) c.links-links.ensures.links

pub invariant_of-self-inside : goal.invariant_of-self-inside
invariant_of-self-inside g c =
    let at = rw (← c.self.view_is) at c.requires in
    let shows = ShowsLists-unlink _ _ (shown_shows _ c.self.inside.kept) c.args.list c.args.node c.links-links.result at c.links-links.ensures.links in
    rw c.join.ensures.joined (closed _ _ _ shows (with_adjacent_room _ _ _ _ _ c.self.inside.has_room))

pub returns-clause-unlinked : goal.returns-clause-unlinked
returns-clause-unlinked g c =
    let at = rw (← c.self.view_is) at c.requires in
    let shows = ShowsLists-unlink _ _ (shown_shows _ c.self.inside.kept) c.args.list c.args.node c.links-links.result at c.links-links.ensures.links in
    rw (← c.self.view_is) (contents_are _ _ c.self.inside.room _ (node_values c.self.inside.rings.nodes) (rw c.join.ensures.joined shows) (rw c.join.ensures.joined (with_adjacent_values _ _ _ _)))

pub returns-clause-freed : goal.returns-clause-freed
returns-clause-freed g c =
    let at = rw (← c.self.view_is) at c.requires in
    let kept = shown_shows _ c.self.inside.kept in
    let shows = ShowsLists-unlink _ _ kept c.args.list c.args.node c.links-links.result at c.links-links.ensures.links in
    free_in _ _ c.self.inside.room _ (node_values c.self.inside.rings.nodes) (rw c.join.ensures.joined shows) (rw c.join.ensures.joined (with_adjacent_values _ _ _ _)) c.args.node
    (free_without _ c.args.list c.args.node (member_value _ _ kept c.args.list c.args.node at) at (λ one two. kept.apart one two c.args.node))
