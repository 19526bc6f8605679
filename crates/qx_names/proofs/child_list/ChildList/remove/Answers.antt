use Rattle.std.proofs.Common.{◌≡◌, ◌==◌, ◌<◌, ℕ, Bool, true, false, List, [], Some, length, ap, arith, sym, ◌∙◌}
use Rattle.std.specs.FinMap.Entries.{find}
use Rattle.std.specs.Prelude.{map as mapped, remove, vec_capacity}
use Rattle.std.proofs.lemmas.Bool.{eqb-false, eqb-true}
use Rattle.std.proofs.lemmas.List.{nil_from_length}
use Rattle.qx_names.specs.inner.Folders.{place_cmp}
use Rattle.qx_names.specs.inner.Children.{Children, entries_of, entry_of}
use Rattle.qx_names.proofs.ChildLemmas.{freed-folder, freed-list, freed-turns, last-folder, last-turns, place-node, place-within}
use Rattle.qx_names.proofs.RisingLemmas.{remove-absent}
use Rattle.qx_names.proofs.child_list.ChildList.remove.Goals as goal

pub returns-in_default-clause-removed : goal.returns-in_default-clause-removed
returns-in_default-clause-removed c =
    let none : c.args.self.now.nodes ≡ [] = c.requires.keeps.none (ap (λ (children : Children). children.list) (sym c.self.view_is) ∙ c.in_default.is) in
    remove-absent (c.args.directory, c.args.name.now) (entries_of c.args.table.now c.args.self.now) (ap (λ nodes. find place_cmp (c.args.directory, c.args.name.now) (mapped (entry_of c.args.table.now) nodes)) none)

pub returns-in_default-position-clause-removed : goal.returns-in_default-position-clause-removed
returns-in_default-position-clause-removed c = remove-absent (c.args.directory, c.args.name.now) (entries_of c.args.table.now c.args.self.now) c.in_default-position.ensures.missing

pub remove-node-requires : goal.remove-node-requires
remove-node-requires c =
    let within = place-within c.args.table.now c.args.self.now c.in-Some-position.place _ c.in-Some-position.ensures.found.1 in
    let same = ap (λ (children : Children). length children.nodes) c.self.view_is in
    omega (arith, within, same, c.self.inside.index.ok.0)

-- a vector of no elements
none_left : (items : List ℕ) (size : ℕ) (empty : Bool) → size ≡ length items → empty ≡ (size == 0) → empty ≡ true → items ≡ []
none_left items size empty sizes e is = nil_from_length items (let none : size ≡ 0 = eqb-true size 0 (sym e ∙ is) in sym sizes ∙ none)

some_left : (items : List ℕ) (size : ℕ) (empty : Bool) → size ≡ length items → empty ≡ (size == 0) → empty ≡ false → 0 < length items
some_left items size empty sizes e is = let some : size ≡ 0 → ⊥ = eqb-false size 0 (sym e ∙ is) in omega (arith, some, sizes)

pub free_list-requires : goal.free_list-requires
free_list-requires c =
    freed-list c.args.table.now c.args.self.now c.requires.keeps c.in-Some.list (ap (λ (children : Children). children.list) (sym c.self.view_is) ∙ c.in-Some.is) c.know.ensures.there c.know.ensures.distinct c.know.ensures.apart (c.args.directory, c.args.name.now) c.in-Some-position.ensures.found.0 c.in-Some-position.place c.remove-node.result
    (place-node c.args.table.now c.args.self.now c.in-Some-position.place ((c.args.directory, c.args.name.now), c.in-Some-position.ensures.found.0) c.in-Some-position.ensures.found.1 c.self.inside.index.items (ap (λ (children : Children). children.nodes) c.self.view_is) c.remove-node.result c.remove-node.ensures.value)
    c.in-Some-position.ensures.found.1 c.unlink.new.table c.free_node.new.self c.unlink.ensures.unlinked c.free_node.ensures.freed
    ∙ ap Some (sym (c.remove-node.ensures.items ∙ ap (λ (children : Children). remove children.nodes c.in-Some-position.place) c.self.view_is) ∙ none_left c.remove-node.new.self.items _ c.is_empty.result c.remove-node.new.self.ok.0 c.is_empty.ensures c.if-is_empty.true)

pub returns-then-is_empty-clause-turns : goal.returns-then-is_empty-clause-turns
returns-then-is_empty-clause-turns c =
    last-turns c.args.table.now c.args.self.now c.requires.keeps c.in-Some.list (ap (λ (children : Children). children.list) (sym c.self.view_is) ∙ c.in-Some.is) c.know.ensures.there c.know.ensures.distinct c.know.ensures.apart (c.args.directory, c.args.name.now) c.in-Some-position.ensures.found.0 c.in-Some-position.place c.remove-node.result
    (place-node c.args.table.now c.args.self.now c.in-Some-position.place ((c.args.directory, c.args.name.now), c.in-Some-position.ensures.found.0) c.in-Some-position.ensures.found.1 c.self.inside.index.items (ap (λ (children : Children). children.nodes) c.self.view_is) c.remove-node.result c.remove-node.ensures.value)
    c.in-Some-position.ensures.found.1 c.unlink.new.table c.free_node.new.self c.unlink.ensures.unlinked c.free_node.ensures.freed
    c.free_list.new.self c.free_list.ensures _ (c.drop.view_is ∙ c.new.ensures.none)
    (sym (c.remove-node.ensures.items ∙ ap (λ (children : Children). remove children.nodes c.in-Some-position.place) c.self.view_is) ∙ none_left c.remove-node.new.self.items _ c.is_empty.result c.remove-node.new.self.ok.0 c.is_empty.ensures c.if-is_empty.true)

pub returns-then-is_empty-clause-removed : goal.returns-then-is_empty-clause-removed
returns-then-is_empty-clause-removed c =
    last-folder c.args.table.now c.args.self.now c.requires.keeps c.in-Some.list (ap (λ (children : Children). children.list) (sym c.self.view_is) ∙ c.in-Some.is) c.know.ensures.there c.know.ensures.distinct c.know.ensures.apart (c.args.directory, c.args.name.now) c.in-Some-position.ensures.found.0 c.in-Some-position.place c.remove-node.result
    (place-node c.args.table.now c.args.self.now c.in-Some-position.place ((c.args.directory, c.args.name.now), c.in-Some-position.ensures.found.0) c.in-Some-position.ensures.found.1 c.self.inside.index.items (ap (λ (children : Children). children.nodes) c.self.view_is) c.remove-node.result c.remove-node.ensures.value)
    c.in-Some-position.ensures.found.1 c.unlink.new.table c.free_node.new.self c.unlink.ensures.unlinked c.free_node.ensures.freed
    c.free_list.new.self c.free_list.ensures _ (c.drop.view_is ∙ c.new.ensures.none)
    (sym (c.remove-node.ensures.items ∙ ap (λ (children : Children). remove children.nodes c.in-Some-position.place) c.self.view_is) ∙ none_left c.remove-node.new.self.items _ c.is_empty.result c.remove-node.new.self.ok.0 c.is_empty.ensures c.if-is_empty.true)

pub returns-else-is_empty-clause-turns : goal.returns-else-is_empty-clause-turns
returns-else-is_empty-clause-turns c =
    freed-turns c.args.table.now c.args.self.now c.requires.keeps c.in-Some.list (ap (λ (children : Children). children.list) (sym c.self.view_is) ∙ c.in-Some.is) c.know.ensures.there c.know.ensures.distinct c.know.ensures.apart (c.args.directory, c.args.name.now) c.in-Some-position.ensures.found.0 c.in-Some-position.place c.remove-node.result
    (place-node c.args.table.now c.args.self.now c.in-Some-position.place ((c.args.directory, c.args.name.now), c.in-Some-position.ensures.found.0) c.in-Some-position.ensures.found.1 c.self.inside.index.items (ap (λ (children : Children). children.nodes) c.self.view_is) c.remove-node.result c.remove-node.ensures.value)
    c.in-Some-position.ensures.found.1 c.unlink.new.table c.free_node.new.self c.unlink.ensures.unlinked c.free_node.ensures.freed
    (record { list = c.self.inside.list; nodes = c.remove-node.new.self.items; capacity = vec_capacity c.remove-node.new.self }) (c.remove-node.ensures.items ∙ ap (λ (children : Children). remove children.nodes c.in-Some-position.place) c.self.view_is) c.in-Some.is (some_left c.remove-node.new.self.items _ c.is_empty.result c.remove-node.new.self.ok.0 c.is_empty.ensures c.if-is_empty.false)

pub returns-else-is_empty-clause-removed : goal.returns-else-is_empty-clause-removed
returns-else-is_empty-clause-removed c =
    freed-folder c.args.table.now c.args.self.now c.requires.keeps c.in-Some.list (ap (λ (children : Children). children.list) (sym c.self.view_is) ∙ c.in-Some.is) c.know.ensures.there c.know.ensures.distinct c.know.ensures.apart (c.args.directory, c.args.name.now) c.in-Some-position.ensures.found.0 c.in-Some-position.place c.remove-node.result
    (place-node c.args.table.now c.args.self.now c.in-Some-position.place ((c.args.directory, c.args.name.now), c.in-Some-position.ensures.found.0) c.in-Some-position.ensures.found.1 c.self.inside.index.items (ap (λ (children : Children). children.nodes) c.self.view_is) c.remove-node.result c.remove-node.ensures.value)
    c.in-Some-position.ensures.found.1 c.unlink.new.table c.free_node.new.self c.unlink.ensures.unlinked c.free_node.ensures.freed
    (record { list = c.self.inside.list; nodes = c.remove-node.new.self.items; capacity = vec_capacity c.remove-node.new.self }) (c.remove-node.ensures.items ∙ ap (λ (children : Children). remove children.nodes c.in-Some-position.place) c.self.view_is)
