use Rattle.std.proofs.Common.{◌≡◌, length, ap, arith, refl, sym, ◌∙◌}
use Rattle.std.specs.Prelude.{map as mapped}
use Rattle.qx_names.specs.inner.Children.{Children, count_to, entries_of, entry_of}
use Rattle.qx_names.proofs.ChildLemmas.{last-found, last-missing, last-node, last-within, nodes_there}
use Rattle.qx_names.proofs.RisingLemmas.{not_counted}
use Rattle.qx_names.proofs.child_list.ChildList.position.Goals as goal

pub place_behind-behind-requires-clause-there : goal.place_behind-behind-requires-clause-there
place_behind-behind-requires-clause-there c =
    nodes_there c.args.table.now c.args.self.now c.requires.keeps c.know.ensures.there c.deref.result.now (c.deref.ensures.value ∙ ap (λ (children : Children). children.nodes) c.self.view_is)

pub returns-then-behind-eq0-clause-missing : goal.returns-then-behind-eq0-clause-missing
returns-then-behind-eq0-clause-missing c =
    let counted : c.place_behind-behind.result ≡ count_to (c.args.directory, c.args.name.now) (entries_of c.args.table.now c.args.self.now) =
    c.place_behind-behind.ensures ∙ ap (λ xs. count_to (c.args.directory, c.args.name.now) (mapped (entry_of c.args.table.now) xs)) (c.deref.ensures.value ∙ ap (λ (children : Children). children.nodes) c.self.view_is)
    in
    not_counted (c.args.directory, c.args.name.now) (entries_of c.args.table.now c.args.self.now) c.requires.keeps.rising (sym counted ∙ c.if-behind-eq0.true)

pub index-requires : goal.index-requires
index-requires c =
    let within = last-within c.args.table.now c.args.self.now c.requires.keeps (c.args.directory, c.args.name.now) c.self.inside.index.items (ap (λ (children : Children). children.nodes) c.self.view_is) c.place_behind-behind.result
    (c.place_behind-behind.ensures ∙ ap (λ xs. count_to (c.args.directory, c.args.name.now) (mapped (entry_of c.args.table.now) xs)) c.deref.ensures.value) c.if-behind-eq0.false
    in
    omega (arith, within, c.deref.ensures.len, ap length c.deref.ensures.value)

pub value-requires : goal.value-requires
value-requires c =
    nodes_there c.args.table.now c.args.self.now c.requires.keeps c.know.ensures.there c.args.self.now.nodes refl _ c.index.result.now
    (last-node c.args.table.now c.args.self.now c.requires.keeps (c.args.directory, c.args.name.now) c.self.inside.index.items (ap (λ (children : Children). children.nodes) c.self.view_is) c.place_behind-behind.result
    (c.place_behind-behind.ensures ∙ ap (λ xs. count_to (c.args.directory, c.args.name.now) (mapped (entry_of c.args.table.now) xs)) c.deref.ensures.value) c.if-behind-eq0.false c.index.result.now c.index.ensures)

pub returns-then-is_at-clause-found : goal.returns-then-is_at-clause-found
returns-then-is_at-clause-found c =
    last-found c.args.table.now c.args.self.now c.requires.keeps (c.args.directory, c.args.name.now) c.self.inside.index.items (ap (λ (children : Children). children.nodes) c.self.view_is) c.place_behind-behind.result
    (c.place_behind-behind.ensures ∙ ap (λ xs. count_to (c.args.directory, c.args.name.now) (mapped (entry_of c.args.table.now) xs)) c.deref.ensures.value) c.if-behind-eq0.false c.index.result.now c.index.ensures c.value.result.now c.value.ensures
    (c.is_at.ensures.here c.if-is_at.true)

pub returns-else-is_at-clause-missing : goal.returns-else-is_at-clause-missing
returns-else-is_at-clause-missing c =
    last-missing c.args.table.now c.args.self.now c.requires.keeps (c.args.directory, c.args.name.now) c.self.inside.index.items (ap (λ (children : Children). children.nodes) c.self.view_is) c.place_behind-behind.result
    (c.place_behind-behind.ensures ∙ ap (λ xs. count_to (c.args.directory, c.args.name.now) (mapped (entry_of c.args.table.now) xs)) c.deref.ensures.value) c.if-behind-eq0.false c.index.result.now c.index.ensures c.value.result.now c.value.ensures
    (c.is_at.ensures.apart c.if-is_at.false)
