use Rattle.std.proofs.Common.{◌≡◌, ◌≢◌, ◌++◌, ◌∷◌, inr, ℕ, [], None, Some, insert, is_some, unwrap_or, ap, subst, sym, ◌∙◌}
use Rattle.std.specs.FinMap as map
use Rattle.std.specs.FinMap.Entries.{find}
use Rattle.std.specs.Prelude.{map as mapped, vec_capacity}
use Rattle.qx_names.specs.inner.Folders.{place_cmp}
use Rattle.qx_lists.specs.Table.{Table, nodes_of}
use Rattle.qx_lists.proofs.MapLemmas.{get-insert_other, get-insert_same}
use Rattle.qx_names.specs.inner.Children.{Children, Entry, Turns, count_to, entries_of, entry_of, folder_of}
use Rattle.qx_names.proofs.ChildLemmas.{put_folder, put_turns}
use Rattle.qx_names.proofs.child_list.ChildList.insert_first.Goals as goal

pub push_back-requires-clause-list : goal.push_back-requires-clause-list
push_back-requires-clause-list c =
    ap is_some
    (ap (λ (t : Table Entry). map.get t.lists c.in_ok-list.list) c.in_ok-node.ensures.made ∙ ap (λ (t : Table Entry). map.get t.lists c.in_ok-list.list) c.in_ok-list.ensures.made
    ∙ get-insert_same c.reserve.new.self.lists c.in_ok-list.list [])

-- there was no node before
empty : (c : goal.After-drop-self-inside) → c.args.self.now.nodes ≡ []
empty c = c.requires.keeps.none c.requires.none

abbrev after : goal.After-drop-self-inside → Children
after c = record { list = Some c.in_ok-list.list; nodes = insert c.args.self.now.nodes 0 c.in_ok-node.node; capacity = vec_capacity c.push_reserved.new.self }

one : (c : goal.After-drop-self-inside) → insert c.args.self.now.nodes 0 c.in_ok-node.node ≡ c.in_ok-node.node ∷ []
one c = ap (λ nodes. insert nodes 0 c.in_ok-node.node) (empty c)

became : (c : goal.After-drop-self-inside) → after c ≡ record { list = Some c.in_ok-list.list; nodes = c.push_reserved.new.self.items; capacity = vec_capacity c.push_reserved.new.self }
became c =
    let items = one c ∙ sym (c.push_reserved.ensures.items ∙ ap (λ nodes. nodes ++ c.in_ok-node.node ∷ []) c.in_ok-index.ensures.items) in
    λ i. record { list = Some c.in_ok-list.list; nodes = items i; capacity = vec_capacity c.push_reserved.new.self }

lists : (c : goal.After-drop-self-inside) (other : ℕ) → other ≢ c.in_ok-list.list → map.get c.push_back.new.table.lists other ≡ map.get c.args.table.now.lists other
lists c other differs =
    ap (λ (t : Table Entry). map.get t.lists other) c.push_back.ensures ∙ get-insert_other c.new_node.new.self.lists c.in_ok-list.list (nodes_of c.new_node.new.self c.in_ok-list.list ++ c.in_ok-node.node ∷ []) other differs
    ∙ ap (λ (t : Table Entry). map.get t.lists other) c.in_ok-node.ensures.made
    ∙ ap (λ (t : Table Entry). map.get t.lists other) c.in_ok-list.ensures.made ∙ get-insert_other c.reserve.new.self.lists c.in_ok-list.list [] other differs
    ∙ ap (λ (t : Table Entry). map.get t.lists other) c.in_ok-reserve.ensures.ok

listed : (c : goal.After-drop-self-inside) → nodes_of c.new_node.new.self c.in_ok-list.list ≡ []
listed c =
    ap (λ o. unwrap_or o [])
    (ap (λ (t : Table Entry). map.get t.lists c.in_ok-list.list) c.in_ok-node.ensures.made ∙ ap (λ (t : Table Entry). map.get t.lists c.in_ok-list.list) c.in_ok-list.ensures.made
    ∙ get-insert_same c.reserve.new.self.lists c.in_ok-list.list [])

here : (c : goal.After-drop-self-inside) → map.get c.push_back.new.table.lists c.in_ok-list.list ≡ Some (insert c.args.self.now.nodes 0 c.in_ok-node.node)
here c =
    ap (λ (t : Table Entry). map.get t.lists c.in_ok-list.list) c.push_back.ensures
    ∙ get-insert_same c.new_node.new.self.lists c.in_ok-list.list (nodes_of c.new_node.new.self c.in_ok-list.list ++ c.in_ok-node.node ∷ [])
    ∙ ap (λ nodes. Some (nodes ++ c.in_ok-node.node ∷ [])) (listed c) ∙ ap Some (sym (one c))

older : (c : goal.After-drop-self-inside) → c.add_list.new.self.values ≡ c.args.table.now.values
older c = ap (λ (t : Table Entry). t.values) c.in_ok-list.ensures.made ∙ ap (λ (t : Table Entry). t.values) c.in_ok-reserve.ensures.ok

values : (c : goal.After-drop-self-inside) → c.push_back.new.table.values ≡ map.insert c.args.table.now.values c.in_ok-node.node ((c.args.directory, c.args.name.now), c.args.inode)
values c =
    ap (λ (t : Table Entry). t.values) c.push_back.ensures ∙ ap (λ (t : Table Entry). t.values) c.in_ok-node.ensures.made ∙ ap (λ values. map.insert values c.in_ok-node.node c.in_ok-entry.entry) (older c)
    ∙ ap (map.insert c.args.table.now.values c.in_ok-node.node) c.in_ok-entry.ensures.ok

fresh : (c : goal.After-drop-self-inside) → map.get c.args.table.now.values c.in_ok-node.node ≡ None
fresh c = ap (λ values. map.get values c.in_ok-node.node) (sym (older c)) ∙ c.in_ok-node.ensures.was_new

was_new : (c : goal.After-drop-self-inside) → map.get c.args.table.now.lists c.in_ok-list.list ≡ None
was_new c = sym (ap (λ (t : Table Entry). map.get t.lists c.in_ok-list.list) c.in_ok-reserve.ensures.ok) ∙ c.in_ok-list.ensures.was_new

place : (c : goal.After-drop-self-inside) → 0 ≡ count_to (c.args.directory, c.args.name.now) (entries_of c.args.table.now c.args.self.now)
place c = sym (ap (λ nodes. count_to (c.args.directory, c.args.name.now) (mapped (entry_of c.args.table.now) nodes)) (empty c))

absent : (c : goal.After-drop-self-inside) → find place_cmp (c.args.directory, c.args.name.now) (entries_of c.args.table.now c.args.self.now) ≡ None
absent c = ap (λ nodes. find place_cmp (c.args.directory, c.args.name.now) (mapped (entry_of c.args.table.now) nodes)) (empty c)

pub returns-clause-turns : goal.returns-clause-turns
returns-clause-turns c =
    subst (Turns c.args.table.now c.push_back.new.table c.args.self.now) (became c)
    (put_turns c.args.table.now c.push_back.new.table c.args.self.now c.requires.keeps c.know.ensures.there c.in_ok-list.list c.in_ok-node.node 0 (lists c) (c.args.directory, c.args.name.now) c.args.inode (place c) (absent c) (inr (c.requires.none, was_new c)) (fresh c) (here c) (values c) (vec_capacity c.push_reserved.new.self))

pub returns-clause-ok : goal.returns-clause-ok
returns-clause-ok c =
    ap (folder_of c.push_back.new.table) (sym (became c))
    ∙ put_folder c.args.table.now c.push_back.new.table c.args.self.now c.requires.keeps c.know.ensures.there c.in_ok-list.list c.in_ok-node.node 0 (lists c) (c.args.directory, c.args.name.now) c.args.inode (place c) (absent c) (inr (c.requires.none, was_new c)) (fresh c) (here c) (values c) (vec_capacity c.push_reserved.new.self)
