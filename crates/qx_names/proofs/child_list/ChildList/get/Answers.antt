use Rattle.std.proofs.Common.{◌≡◌, Some, ap, refl, sym, ◌∙◌}
use Rattle.qx_names.specs.inner.Children.{Children, Entry, entries_of}
use Rattle.qx_names.proofs.ChildLemmas.{nodes_there, place-entry, place-node}
use Rattle.qx_names.proofs.RisingLemmas.{find_stands}
use Rattle.qx_names.proofs.child_list.ChildList.get.Goals as goal

pub value-requires : goal.value-requires
value-requires c =
    nodes_there c.args.table.now c.args.self.now c.requires.keeps c.know.ensures.there c.args.self.now.nodes refl c.in_ok-place.place c.index.result.now
    (place-node c.args.table.now c.args.self.now c.in_ok-place.place _ c.in_ok-place.ensures.found.1 c.self.inside.index.items (ap (λ (children : Children). children.nodes) c.self.view_is) c.index.result.now c.index.ensures)

pub returns : goal.returns
returns c =
    let inode = c.in_ok-place.ensures.found.0 in
    let is = place-node c.args.table.now c.args.self.now c.in_ok-place.place ((c.args.directory, c.args.name.now), inode) c.in_ok-place.ensures.found.1 c.self.inside.index.items (ap (λ (children : Children). children.nodes) c.self.view_is) c.index.result.now c.index.ensures in
    let value : c.value.result.now ≡ ((c.args.directory, c.args.name.now), inode) = place-entry c.args.table.now c.args.self.now c.in_ok-place.place ((c.args.directory, c.args.name.now), inode) c.in_ok-place.ensures.found.1 c.index.result.now is c.value.result.now c.value.ensures in
    record { entry = ap Some (c.inode.ensures ∙ ap (λ (entry : Entry). entry.1) value) ∙ sym (find_stands (c.args.directory, c.args.name.now) (entries_of c.args.table.now c.args.self.now) c.in_ok-place.place inode c.requires.keeps.rising c.in_ok-place.ensures.found.1) }
