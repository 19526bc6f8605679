use Rattle.std.proofs.Common.{is_some, refl, ap}
use Rattle.std.specs.FinMap as map
use Rattle.qx_lists.specs.Shows.{shown_lists, node_values}
use Rattle.qx_lists.proofs.ShowsLemmas.{ShowsLists-free, slot_there, shown_shows, contents_are, closed}
use Rattle.qx_lists.proofs.Table.free_list.Goals as goal

pub invariant_of-self-inside : goal.invariant_of-self-inside
invariant_of-self-inside g c =
    closed (record { nodes = c.self.inside.rings.nodes; lists = c.remove.new.self }) _ (map.remove (shown_lists _ c.self.inside.kept) c.args.list)
    (ShowsLists-free c.self.inside.rings _ _ (shown_shows _ c.self.inside.kept) c.args.list c.remove.ensures.updates refl)
    c.self.inside.has_room

pub returns : goal.returns
returns g c =
    rw (← c.self.view_is)
    (contents_are (record { nodes = c.self.inside.rings.nodes; lists = c.remove.new.self }) _ c.self.inside.room (map.remove (shown_lists _ c.self.inside.kept) c.args.list) (node_values c.self.inside.rings.nodes)
    (ShowsLists-free c.self.inside.rings _ _ (shown_shows _ c.self.inside.kept) c.args.list c.remove.ensures.updates refl)
    refl)

pub remove-requires : goal.remove-requires
remove-requires g c = slot_there c.self.inside.rings _ c.args.list (shown_shows _ c.self.inside.kept) (ap is_some (rw (← c.self.view_is) at c.requires))
