use Rattle.qx_lists.proofs.ShowsLemmas.{shown_shows, member_there, next_is}
use Rattle.qx_lists.proofs.Table.next.Goals as goal

pub links-requires : goal.links-requires
links-requires g c = member_there _ _ (shown_shows _ c.self.inside.kept) c.args.list c.args.node (rw (← c.self.view_is) at c.requires)

pub returns-clause-next : goal.returns-clause-next
returns-clause-next g c =
    let at = rw (← c.self.view_is) at c.requires in
    rw (← c.self.view_is) (next_is _ _ (shown_shows _ c.self.inside.kept) c.args.list c.args.node _ at c.links.ensures.links)
