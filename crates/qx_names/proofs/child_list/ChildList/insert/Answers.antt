use Rattle.std.proofs.Common.{◌≡◌, ◌≢◌, inl, ℕ, None, Some, insert, length, ap, arith, subst, sym, ◌∙◌}
use Rattle.std.specs.FinMap as map
use Rattle.std.specs.Prelude.{map as mapped, vec_capacity}
use Rattle.std.proofs.lemmas.List.{length-map}
use Rattle.qx_lists.specs.Table.{Table}
use Rattle.qx_lists.proofs.MapLemmas.{get-insert_other, get-insert_same}
use Rattle.qx_names.specs.inner.Children.{Children, Entry, Turns, count_to, entries_of, entry_of, folder_of}
use Rattle.qx_names.proofs.ChildLemmas.{nodes_there, put_folder, put_turns}
use Rattle.qx_names.proofs.RisingLemmas.{count_to-within}
use Rattle.qx_names.proofs.child_list.ChildList.insert.Goals as goal

pub place_behind-place-requires-clause-there : goal.place_behind-place-requires-clause-there
place_behind-place-requires-clause-there c =
    nodes_there c.args.table.now c.args.self.now c.requires.keeps c.know.ensures.there c.deref.result.now (c.deref.ensures.value ∙ ap (λ (children : Children). children.nodes) c.self.view_is)

pub link_at-requires-clause-place : goal.link_at-requires-clause-place
link_at-requires-clause-place c =
    let count = count_to-within (c.args.directory, c.args.name.now) (mapped (entry_of c.args.table.now) c.deref.result.now) in
    let size = length-map c.deref.result.now (entry_of c.args.table.now) in
    let same = ap length (c.deref-2.ensures.value ∙ c.reserve.ensures.items ∙ sym c.deref.ensures.value) in
    omega (arith, count, size, same, c.place_behind-place.ensures)

pub insert-requires : goal.insert-requires
insert-requires c =
    let count = count_to-within (c.args.directory, c.args.name.now) (mapped (entry_of c.args.table.now) c.deref.result.now) in
    let size = length-map c.deref.result.now (entry_of c.args.table.now) in
    omega (arith, count, size, c.place_behind-place.ensures, c.deref.ensures.len, c.reserve.ensures.len)

-- the list, and the nodes as they were
was : (c : goal.In_ok-insert) → c.args.self.now.list ≡ Some c.in-Some.list
was c = ap (λ (children : Children). children.list) (sym c.self.view_is) ∙ c.in-Some.is

nodes : (c : goal.In_ok-insert) → c.reserve.new.table.items ≡ c.args.self.now.nodes
nodes c = c.reserve.ensures.items ∙ ap (λ (children : Children). children.nodes) c.self.view_is

abbrev after : goal.In_ok-insert → Children
after c = record { list = Some c.in-Some.list; nodes = insert c.args.self.now.nodes c.place_behind-place.result c.in_ok-node.node; capacity = vec_capacity c.insert.new.self }

became : (c : goal.In_ok-insert) → after c ≡ record { list = c.self.inside.list; nodes = c.insert.new.self.items; capacity = vec_capacity c.insert.new.self }
became c =
    let items = sym (c.in_ok-insert.ensures.items ∙ ap (λ xs. insert xs c.place_behind-place.result c.in_ok-node.node) (nodes c)) in
    let list = sym c.in-Some.is in
    λ i. record { list = list i; nodes = items i; capacity = vec_capacity c.insert.new.self }

lists : (c : goal.In_ok-insert) (other : ℕ) → other ≢ c.in-Some.list → map.get c.link_at.new.table.lists other ≡ map.get c.args.table.now.lists other
lists c other differs =
    ap (λ (t : Table Entry). map.get t.lists other) c.link_at.ensures ∙ get-insert_other c.new_node.new.self.lists c.in-Some.list (insert c.deref-2.result.now c.place_behind-place.result c.in_ok-node.node) other differs
    ∙ ap (λ (t : Table Entry). map.get t.lists other) c.in_ok-node.ensures.made ∙ ap (λ (t : Table Entry). map.get t.lists other) c.in_ok-reserve-2.ensures.ok

here : (c : goal.In_ok-insert) → map.get c.link_at.new.table.lists c.in-Some.list ≡ Some (insert c.args.self.now.nodes c.place_behind-place.result c.in_ok-node.node)
here c =
    ap (λ (t : Table Entry). map.get t.lists c.in-Some.list) c.link_at.ensures ∙ get-insert_same c.new_node.new.self.lists c.in-Some.list (insert c.deref-2.result.now c.place_behind-place.result c.in_ok-node.node)
    ∙ ap (λ xs. Some (insert xs c.place_behind-place.result c.in_ok-node.node)) (c.deref-2.ensures.value ∙ nodes c)

older : (c : goal.In_ok-insert) → c.reserve-2.new.self.values ≡ c.args.table.now.values
older c = ap (λ (t : Table Entry). t.values) c.in_ok-reserve-2.ensures.ok

values : (c : goal.In_ok-insert) → c.link_at.new.table.values ≡ map.insert c.args.table.now.values c.in_ok-node.node ((c.args.directory, c.args.name.now), c.args.inode)
values c =
    ap (λ (t : Table Entry). t.values) c.link_at.ensures ∙ ap (λ (t : Table Entry). t.values) c.in_ok-node.ensures.made ∙ ap (λ values. map.insert values c.in_ok-node.node c.in_ok-entry.entry) (older c)
    ∙ ap (map.insert c.args.table.now.values c.in_ok-node.node) c.in_ok-entry.ensures.ok

fresh : (c : goal.In_ok-insert) → map.get c.args.table.now.values c.in_ok-node.node ≡ None
fresh c = ap (λ values. map.get values c.in_ok-node.node) (sym (older c)) ∙ c.in_ok-node.ensures.was_new

place : (c : goal.In_ok-insert) → c.place_behind-place.result ≡ count_to (c.args.directory, c.args.name.now) (entries_of c.args.table.now c.args.self.now)
place c = c.place_behind-place.ensures ∙ ap (λ xs. count_to (c.args.directory, c.args.name.now) (mapped (entry_of c.args.table.now) xs)) (c.deref.ensures.value ∙ ap (λ (children : Children). children.nodes) c.self.view_is)

pub returns-clause-turns : goal.returns-clause-turns
returns-clause-turns c =
    subst (Turns c.args.table.now c.link_at.new.table c.args.self.now) (became c)
    (put_turns c.args.table.now c.link_at.new.table c.args.self.now c.requires.keeps c.know.ensures.there c.in-Some.list c.in_ok-node.node c.place_behind-place.result (lists c) (c.args.directory, c.args.name.now) c.args.inode (place c) c.requires.new (inl (was c)) (fresh c) (here c) (values c) (vec_capacity c.insert.new.self))

pub returns-clause-ok : goal.returns-clause-ok
returns-clause-ok c =
    ap (folder_of c.link_at.new.table) (sym (became c))
    ∙ put_folder c.args.table.now c.link_at.new.table c.args.self.now c.requires.keeps c.know.ensures.there c.in-Some.list c.in_ok-node.node c.place_behind-place.result (lists c) (c.args.directory, c.args.name.now) c.args.inode (place c) c.requires.new (inl (was c)) (fresh c) (here c) (values c) (vec_capacity c.insert.new.self)
