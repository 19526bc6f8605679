use Rattle.std.proofs.Common.{◌==◌, not, [], ap, sym, ◌∙◌}
use Rattle.std.specs.Prelude.{map as mapped, slice_get}
use Rattle.qx_names.specs.inner.Children.{Children, count_to, entries_of, entry_of}
use Rattle.qx_names.proofs.ChildLemmas.{nodes_there}
use Rattle.qx_names.proofs.EmptyLemmas.{none-behind, not-empty, told-behind}
use Rattle.qx_names.proofs.RisingLemmas.{one_at_least}
use Rattle.qx_names.proofs.child_list.ChildList.is_empty.Goals as goal

pub returns-in_default : goal.returns-in_default
returns-in_default c = sym (not-empty _ (one_at_least c.args.directory [] (entries_of c.args.table.now c.args.self.now) c.in_default.field-0 c.in_default.ensures.found.0 c.in_default.ensures.found.1))

pub place_behind-place-requires-clause-there : goal.place_behind-place-requires-clause-there
place_behind-place-requires-clause-there c =
    nodes_there c.args.table.now c.args.self.now c.requires.keeps c.know.ensures.there c.deref.result.now (c.deref.ensures.value ∙ ap (λ (children : Children). children.nodes) c.self.view_is)

pub returns-in_default-node_at : goal.returns-in_default-node_at
returns-in_default-node_at c =
    sym (none-behind c.args.table.now c.args.self.now c.requires.keeps.rising c.args.directory c.place_behind-place.result
    (c.place_behind-place.ensures ∙ ap (λ xs. count_to (c.args.directory, []) (mapped (entry_of c.args.table.now) xs)) (c.deref.ensures.value ∙ ap (λ (children : Children). children.nodes) c.self.view_is))
    c.in-None.ensures.missing
    (ap (λ xs. slice_get xs c.place_behind-place.result) (sym (c.deref-2.ensures.value ∙ ap (λ (children : Children). children.nodes) c.self.view_is)) ∙ sym c.node_at.ensures ∙ c.in_default-node_at.is))

pub value-requires : goal.value-requires
value-requires c =
    nodes_there c.args.table.now c.args.self.now c.requires.keeps c.know.ensures.there c.deref-2.result.now (c.deref-2.ensures.value ∙ ap (λ (children : Children). children.nodes) c.self.view_is) c.place_behind-place.result c.in-Some.node (sym c.node_at.ensures ∙ c.in-Some.is)

pub returns : goal.returns
returns c =
    sym (told-behind c.args.table.now c.args.self.now c.requires.keeps.rising c.args.directory c.place_behind-place.result
    (c.place_behind-place.ensures ∙ ap (λ xs. count_to (c.args.directory, []) (mapped (entry_of c.args.table.now) xs)) (c.deref.ensures.value ∙ ap (λ (children : Children). children.nodes) c.self.view_is))
    c.in-None.ensures.missing c.in-Some.node c.value.result.now
    (ap (λ xs. slice_get xs c.place_behind-place.result) (sym (c.deref-2.ensures.value ∙ ap (λ (children : Children). children.nodes) c.self.view_is)) ∙ sym c.node_at.ensures ∙ c.in-Some.is) c.value.ensures
    ∙ ap (λ d. not (d == c.args.directory)) (sym c.directory.ensures))
