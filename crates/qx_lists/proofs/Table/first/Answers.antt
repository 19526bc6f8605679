use Rattle.std.proofs.Common.{sym, ◌∙◌}
use Rattle.qx_lists.proofs.ListLemmas.{slice_get-first}
use Rattle.qx_lists.proofs.ShowsLemmas.{shown_shows, slot_there, first_is}
use Rattle.qx_lists.proofs.Table.first.Goals as goal

pub returns-clause-first : goal.returns-clause-first
returns-clause-first g c =
    let there = rw (← c.self.view_is) at c.requires in
    rw (← c.self.view_is) (first_is _ _ (shown_shows _ c.self.inside.kept) c.args.list _ there c.links.ensures.links ∙ sym (slice_get-first _))

pub links-requires : goal.links-requires
links-requires g c = slot_there c.self.inside.rings _ c.args.list (shown_shows _ c.self.inside.kept) (rw (← c.self.view_is) at c.requires)
