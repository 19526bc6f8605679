use Rattle.std.proofs.Common.{◌≡◌, true, None, Some, insert, length, ap, arith, is_some, subst, sym, ◌∙◌}
use Rattle.std.specs.FinMap as map
use Rattle.std.specs.Prelude.{map as mapped, remove, slice_get, vec_capacity}
use Rattle.std.proofs.lemmas.List.{length-map}
use Rattle.qx_lists.specs.Table.{Table, with_nodes, with_value}
use Rattle.qx_lists.proofs.MapLemmas.{get-insert_same}
use Rattle.qx_names.specs.inner.Children.{Children, Entry, IsRising, Turns, count_to, entries_of, entry_of, folder_of}
use Rattle.qx_names.proofs.ChildLemmas.{place-entry, place-node}
use Rattle.qx_names.proofs.RenameLemmas.{moved_folder, moved_turns, put_items, rest_listed, rest_rising, rest_there, same_inode}
use Rattle.qx_names.proofs.RisingLemmas.{count_to-within, find_stands}
use Rattle.qx_names.proofs.child_list.ChildList.rename.Goals as goal

pub place_behind-place-requires-clause-there : goal.place_behind-place-requires-clause-there
place_behind-place-requires-clause-there c k n stands =
    let value : c.go_to.new.self ≡ ((c.args.target, c.args.next.now), c.in-Some-position.ensures.found.0) =
    c.go_to.ensures ∙ ap (λ (entry : Entry). ((c.args.target, c.args.next.now), entry.1)) (place-entry c.args.table.now c.args.self.now c.in-Some-position.place ((c.args.directory, c.args.name.now), c.in-Some-position.ensures.found.0) c.in-Some-position.ensures.found.1 c.remove-node.result
    (place-node c.args.table.now c.args.self.now c.in-Some-position.place ((c.args.directory, c.args.name.now), c.in-Some-position.ensures.found.0) c.in-Some-position.ensures.found.1 c.self.inside.index.items (ap (λ (children : Children). children.nodes) c.self.view_is) c.remove-node.result c.remove-node.ensures.value)
    c.value_mut.result.now (ap (λ (u : Table Entry). map.get u.values c.remove-node.result) (sym c.unlink.ensures.unlinked) ∙ c.value_mut.ensures.value))
    in
    subst (λ (v : Entry). is_some (map.get (map.insert c.unlink.new.table.values c.remove-node.result v) n) ≡ true) (sym value)
    (rest_there c.args.table.now c.args.self.now c.requires.keeps c.in-Some.list (ap (λ (children : Children). children.list) (sym c.self.view_is) ∙ c.in-Some.is) c.know.ensures.there c.know.ensures.distinct c.know.ensures.apart (c.args.directory, c.args.name.now) (c.args.target, c.args.next.now) c.in-Some-position.ensures.found.0 c.in-Some-position.place c.remove-node.result
    (place-node c.args.table.now c.args.self.now c.in-Some-position.place ((c.args.directory, c.args.name.now), c.in-Some-position.ensures.found.0) c.in-Some-position.ensures.found.1 c.self.inside.index.items (ap (λ (children : Children). children.nodes) c.self.view_is) c.remove-node.result c.remove-node.ensures.value)
    c.in-Some-position.ensures.found.1 c.requires.new c.unlink.new.table c.unlink.ensures.unlinked k n (subst (λ xs. slice_get xs k ≡ Some n) (c.deref.ensures.value ∙ c.remove-node.ensures.items ∙ ap (λ (children : Children). remove children.nodes c.in-Some-position.place) c.self.view_is) stands))

pub place_behind-place-requires-clause-rising : goal.place_behind-place-requires-clause-rising
place_behind-place-requires-clause-rising c =
    let value : c.go_to.new.self ≡ ((c.args.target, c.args.next.now), c.in-Some-position.ensures.found.0) =
    c.go_to.ensures ∙ ap (λ (entry : Entry). ((c.args.target, c.args.next.now), entry.1)) (place-entry c.args.table.now c.args.self.now c.in-Some-position.place ((c.args.directory, c.args.name.now), c.in-Some-position.ensures.found.0) c.in-Some-position.ensures.found.1 c.remove-node.result
    (place-node c.args.table.now c.args.self.now c.in-Some-position.place ((c.args.directory, c.args.name.now), c.in-Some-position.ensures.found.0) c.in-Some-position.ensures.found.1 c.self.inside.index.items (ap (λ (children : Children). children.nodes) c.self.view_is) c.remove-node.result c.remove-node.ensures.value)
    c.value_mut.result.now (ap (λ (u : Table Entry). map.get u.values c.remove-node.result) (sym c.unlink.ensures.unlinked) ∙ c.value_mut.ensures.value))
    in
    subst (λ (v : Entry). IsRising (mapped (entry_of (with_value c.unlink.new.table c.remove-node.result v)) c.deref.result.now)) (sym value)
    (subst (λ xs. IsRising (mapped (entry_of (with_value c.unlink.new.table c.remove-node.result ((c.args.target, c.args.next.now), c.in-Some-position.ensures.found.0))) xs)) (sym (c.deref.ensures.value ∙ c.remove-node.ensures.items ∙ ap (λ (children : Children). remove children.nodes c.in-Some-position.place) c.self.view_is))
    (rest_rising c.args.table.now c.args.self.now c.requires.keeps c.in-Some.list (ap (λ (children : Children). children.list) (sym c.self.view_is) ∙ c.in-Some.is) c.know.ensures.there c.know.ensures.distinct c.know.ensures.apart (c.args.directory, c.args.name.now) (c.args.target, c.args.next.now) c.in-Some-position.ensures.found.0 c.in-Some-position.place c.remove-node.result
    (place-node c.args.table.now c.args.self.now c.in-Some-position.place ((c.args.directory, c.args.name.now), c.in-Some-position.ensures.found.0) c.in-Some-position.ensures.found.1 c.self.inside.index.items (ap (λ (children : Children). children.nodes) c.self.view_is) c.remove-node.result c.remove-node.ensures.value)
    c.in-Some-position.ensures.found.1 c.requires.new c.unlink.new.table c.unlink.ensures.unlinked))

pub link_at-requires-clause-list : goal.link_at-requires-clause-list
link_at-requires-clause-list c =
    rest_listed c.args.table.now c.args.self.now c.requires.keeps c.in-Some.list (ap (λ (children : Children). children.list) (sym c.self.view_is) ∙ c.in-Some.is) c.know.ensures.there c.know.ensures.distinct c.know.ensures.apart (c.args.directory, c.args.name.now) (c.args.target, c.args.next.now) c.in-Some-position.ensures.found.0 c.in-Some-position.place c.remove-node.result
    (place-node c.args.table.now c.args.self.now c.in-Some-position.place ((c.args.directory, c.args.name.now), c.in-Some-position.ensures.found.0) c.in-Some-position.ensures.found.1 c.self.inside.index.items (ap (λ (children : Children). children.nodes) c.self.view_is) c.remove-node.result c.remove-node.ensures.value)
    c.in-Some-position.ensures.found.1 c.requires.new c.unlink.new.table c.unlink.ensures.unlinked
    ∙ ap Some (sym (c.deref-2.ensures.value ∙ c.remove-node.ensures.items ∙ ap (λ (children : Children). remove children.nodes c.in-Some-position.place) c.self.view_is))

pub link_at-requires-clause-place : goal.link_at-requires-clause-place
link_at-requires-clause-place c =
    let count = count_to-within (c.args.target, c.args.next.now) (mapped (entry_of (with_value c.unlink.new.table c.remove-node.result c.go_to.new.self)) c.deref.result.now) in
    let size = length-map c.deref.result.now (entry_of (with_value c.unlink.new.table c.remove-node.result c.go_to.new.self)) in
    let same = ap length (c.deref-2.ensures.value ∙ sym c.deref.ensures.value) in
    omega (arith, count, size, same, c.place_behind-place.ensures)

pub link_at-requires-clause-free : goal.link_at-requires-clause-free
link_at-requires-clause-free c = record { there = ap is_some (get-insert_same c.unlink.new.table.values c.remove-node.result c.go_to.new.self); in_no_list = c.unlink.ensures.freed.in_no_list }

pub insert-room-requires : goal.insert-room-requires
insert-room-requires c =
    let count = count_to-within (c.args.target, c.args.next.now) (mapped (entry_of (with_value c.unlink.new.table c.remove-node.result c.go_to.new.self)) c.deref.result.now) in
    let size = length-map c.deref.result.now (entry_of (with_value c.unlink.new.table c.remove-node.result c.go_to.new.self)) in
    omega (arith, count, size, c.place_behind-place.ensures, c.deref.ensures.len)

items : (c : goal.After-insert-room) → c.insert-room.new.self.items ≡ insert (remove c.args.self.now.nodes c.in-Some-position.place) c.place_behind-place.result c.remove-node.result
items c =
    put_items c.insert-room.result _ _ _ (c.insert-room.ensures.succeeds (omega (arith, c.remove-node.ensures.len, c.remove-node.ensures.capacity, c.self.inside.index.ok.0, c.self.inside.index.ok.1))) c.insert-room.ensures.items
    ∙ ap (λ xs. insert xs c.place_behind-place.result c.remove-node.result) (c.remove-node.ensures.items ∙ ap (λ (children : Children). remove children.nodes c.in-Some-position.place) c.self.view_is)

abbrev after : goal.After-insert-room → Children
after c = record { list = Some c.in-Some.list; nodes = insert (remove c.args.self.now.nodes c.in-Some-position.place) c.place_behind-place.result c.remove-node.result; capacity = vec_capacity c.insert-room.new.self }

became : (c : goal.After-insert-room) → after c ≡ record { list = c.self.inside.list; nodes = c.insert-room.new.self.items; capacity = vec_capacity c.insert-room.new.self }
became c = let lists = sym c.in-Some.is in let nodes = sym (items c) in λ i. record { list = lists i; nodes = nodes i; capacity = vec_capacity c.insert-room.new.self }

pub returns-clause-turns : goal.returns-clause-turns
returns-clause-turns c =
    let value : c.go_to.new.self ≡ ((c.args.target, c.args.next.now), c.in-Some-position.ensures.found.0) =
    c.go_to.ensures ∙ ap (λ (entry : Entry). ((c.args.target, c.args.next.now), entry.1)) (place-entry c.args.table.now c.args.self.now c.in-Some-position.place ((c.args.directory, c.args.name.now), c.in-Some-position.ensures.found.0) c.in-Some-position.ensures.found.1 c.remove-node.result
    (place-node c.args.table.now c.args.self.now c.in-Some-position.place ((c.args.directory, c.args.name.now), c.in-Some-position.ensures.found.0) c.in-Some-position.ensures.found.1 c.self.inside.index.items (ap (λ (children : Children). children.nodes) c.self.view_is) c.remove-node.result c.remove-node.ensures.value)
    c.value_mut.result.now (ap (λ (u : Table Entry). map.get u.values c.remove-node.result) (sym c.unlink.ensures.unlinked) ∙ c.value_mut.ensures.value))
    in
    let counted : c.place_behind-place.result ≡ count_to (c.args.target, c.args.next.now) (mapped (entry_of (with_value c.unlink.new.table c.remove-node.result ((c.args.target, c.args.next.now), c.in-Some-position.ensures.found.0))) (remove c.args.self.now.nodes c.in-Some-position.place)) =
    c.place_behind-place.ensures ∙ ap (λ v. count_to (c.args.target, c.args.next.now) (mapped (entry_of (with_value c.unlink.new.table c.remove-node.result v)) c.deref.result.now)) value
    ∙ ap (λ xs. count_to (c.args.target, c.args.next.now) (mapped (entry_of (with_value c.unlink.new.table c.remove-node.result ((c.args.target, c.args.next.now), c.in-Some-position.ensures.found.0))) xs)) (c.deref.ensures.value ∙ c.remove-node.ensures.items ∙ ap (λ (children : Children). remove children.nodes c.in-Some-position.place) c.self.view_is)
    in
    let linked : c.link_at.new.table ≡ with_nodes (with_value c.unlink.new.table c.remove-node.result ((c.args.target, c.args.next.now), c.in-Some-position.ensures.found.0)) c.in-Some.list (insert (remove c.args.self.now.nodes c.in-Some-position.place) c.place_behind-place.result c.remove-node.result) =
    c.link_at.ensures ∙ ap (λ v. with_nodes (with_value c.unlink.new.table c.remove-node.result v) c.in-Some.list (insert c.deref-2.result.now c.place_behind-place.result c.remove-node.result)) value
    ∙ ap (λ xs. with_nodes (with_value c.unlink.new.table c.remove-node.result ((c.args.target, c.args.next.now), c.in-Some-position.ensures.found.0)) c.in-Some.list (insert xs c.place_behind-place.result c.remove-node.result)) (c.deref-2.ensures.value ∙ c.remove-node.ensures.items ∙ ap (λ (children : Children). remove children.nodes c.in-Some-position.place) c.self.view_is)
    in
    subst (Turns c.args.table.now c.link_at.new.table c.args.self.now) (became c)
    (moved_turns c.args.table.now c.args.self.now c.requires.keeps c.in-Some.list (ap (λ (children : Children). children.list) (sym c.self.view_is) ∙ c.in-Some.is) c.know.ensures.there c.know.ensures.distinct c.know.ensures.apart (c.args.directory, c.args.name.now) (c.args.target, c.args.next.now) c.in-Some-position.ensures.found.0 c.in-Some-position.place c.remove-node.result
    (place-node c.args.table.now c.args.self.now c.in-Some-position.place ((c.args.directory, c.args.name.now), c.in-Some-position.ensures.found.0) c.in-Some-position.ensures.found.1 c.self.inside.index.items (ap (λ (children : Children). children.nodes) c.self.view_is) c.remove-node.result c.remove-node.ensures.value)
    c.in-Some-position.ensures.found.1 c.requires.new c.unlink.new.table c.unlink.ensures.unlinked
    c.place_behind-place.result counted c.link_at.new.table linked (vec_capacity c.insert-room.new.self))

pub returns-clause-renamed : goal.returns-clause-renamed
returns-clause-renamed c inode there =
    let value : c.go_to.new.self ≡ ((c.args.target, c.args.next.now), c.in-Some-position.ensures.found.0) =
    c.go_to.ensures ∙ ap (λ (entry : Entry). ((c.args.target, c.args.next.now), entry.1)) (place-entry c.args.table.now c.args.self.now c.in-Some-position.place ((c.args.directory, c.args.name.now), c.in-Some-position.ensures.found.0) c.in-Some-position.ensures.found.1 c.remove-node.result
    (place-node c.args.table.now c.args.self.now c.in-Some-position.place ((c.args.directory, c.args.name.now), c.in-Some-position.ensures.found.0) c.in-Some-position.ensures.found.1 c.self.inside.index.items (ap (λ (children : Children). children.nodes) c.self.view_is) c.remove-node.result c.remove-node.ensures.value)
    c.value_mut.result.now (ap (λ (u : Table Entry). map.get u.values c.remove-node.result) (sym c.unlink.ensures.unlinked) ∙ c.value_mut.ensures.value))
    in
    let counted : c.place_behind-place.result ≡ count_to (c.args.target, c.args.next.now) (mapped (entry_of (with_value c.unlink.new.table c.remove-node.result ((c.args.target, c.args.next.now), c.in-Some-position.ensures.found.0))) (remove c.args.self.now.nodes c.in-Some-position.place)) =
    c.place_behind-place.ensures ∙ ap (λ v. count_to (c.args.target, c.args.next.now) (mapped (entry_of (with_value c.unlink.new.table c.remove-node.result v)) c.deref.result.now)) value
    ∙ ap (λ xs. count_to (c.args.target, c.args.next.now) (mapped (entry_of (with_value c.unlink.new.table c.remove-node.result ((c.args.target, c.args.next.now), c.in-Some-position.ensures.found.0))) xs)) (c.deref.ensures.value ∙ c.remove-node.ensures.items ∙ ap (λ (children : Children). remove children.nodes c.in-Some-position.place) c.self.view_is)
    in
    let linked : c.link_at.new.table ≡ with_nodes (with_value c.unlink.new.table c.remove-node.result ((c.args.target, c.args.next.now), c.in-Some-position.ensures.found.0)) c.in-Some.list (insert (remove c.args.self.now.nodes c.in-Some-position.place) c.place_behind-place.result c.remove-node.result) =
    c.link_at.ensures ∙ ap (λ v. with_nodes (with_value c.unlink.new.table c.remove-node.result v) c.in-Some.list (insert c.deref-2.result.now c.place_behind-place.result c.remove-node.result)) value
    ∙ ap (λ xs. with_nodes (with_value c.unlink.new.table c.remove-node.result ((c.args.target, c.args.next.now), c.in-Some-position.ensures.found.0)) c.in-Some.list (insert xs c.place_behind-place.result c.remove-node.result)) (c.deref-2.ensures.value ∙ c.remove-node.ensures.items ∙ ap (λ (children : Children). remove children.nodes c.in-Some-position.place) c.self.view_is)
    in
    ap (folder_of c.link_at.new.table) (sym (became c))
    ∙ moved_folder c.args.table.now c.args.self.now c.requires.keeps c.in-Some.list (ap (λ (children : Children). children.list) (sym c.self.view_is) ∙ c.in-Some.is) c.know.ensures.there c.know.ensures.distinct c.know.ensures.apart (c.args.directory, c.args.name.now) (c.args.target, c.args.next.now) c.in-Some-position.ensures.found.0 c.in-Some-position.place c.remove-node.result
    (place-node c.args.table.now c.args.self.now c.in-Some-position.place ((c.args.directory, c.args.name.now), c.in-Some-position.ensures.found.0) c.in-Some-position.ensures.found.1 c.self.inside.index.items (ap (λ (children : Children). children.nodes) c.self.view_is) c.remove-node.result c.remove-node.ensures.value)
    c.in-Some-position.ensures.found.1 c.requires.new c.unlink.new.table c.unlink.ensures.unlinked
    c.place_behind-place.result counted c.link_at.new.table linked (vec_capacity c.insert-room.new.self)
    ∙ ap (map.insert (map.remove (folder_of c.args.table.now c.args.self.now) (c.args.directory, c.args.name.now)) (c.args.target, c.args.next.now))
    (same_inode _ _ (sym (find_stands (c.args.directory, c.args.name.now) (entries_of c.args.table.now c.args.self.now) c.in-Some-position.place c.in-Some-position.ensures.found.0 c.requires.keeps.rising c.in-Some-position.ensures.found.1) ∙ there))

pub returns-clause-missing : goal.returns-clause-missing
returns-clause-missing c none =
    let clash : Some c.in-Some-position.ensures.found.0 ≡ None =
    sym (find_stands (c.args.directory, c.args.name.now) (entries_of c.args.table.now c.args.self.now) c.in-Some-position.place c.in-Some-position.ensures.found.0 c.requires.keeps.rising c.in-Some-position.ensures.found.1) ∙ none
    in
    absurd (cc)
