use Rattle.std.proofs.Common.{[], refl}
use Rattle.std.proofs.lemmas.Result.{err_from_is_err_and}
use Rattle.std.specs.FinMap as map
use Rattle.qx_lists.specs.Shows.{shown_lists, node_values}
use Rattle.qx_lists.proofs.ShowsLemmas.{ShowsLists-kept, ShowsLists-add, shown_shows, list_absent, contents_are, closed}
use Rattle.qx_lists.proofs.Table.add_list.Goals as goal

pub invariant_of-self-inside : goal.invariant_of-self-inside
invariant_of-self-inside g c =
    closed (record { nodes = c.self.inside.rings.nodes; lists = c.reserve.new.self }) _ (shown_lists _ c.self.inside.kept)
    (rw c.reserve.ensures.rest_kept (ShowsLists-kept _ _ _ (shown_shows _ c.self.inside.kept) (λ list. refl) (λ list node at. refl)))
    c.self.inside.has_room

pub returns-in_err-reserve-clause-err : goal.returns-in_err-reserve-clause-err
returns-in_err-reserve-clause-err g c =
    let p = err_from_is_err_and c.from_residual.result c.from_residual.ensures.1 in
    rw (p.1, ← c.self.view_is)
    (contents_are (record { nodes = c.self.inside.rings.nodes; lists = c.reserve.new.self }) _ c.self.inside.room (shown_lists _ c.self.inside.kept) (node_values c.self.inside.rings.nodes)
    (rw c.reserve.ensures.rest_kept (ShowsLists-kept _ _ _ (shown_shows _ c.self.inside.kept) (λ list. refl) (λ list node at. refl)))
    refl)

pub invariant_of-self-inside-2 : goal.invariant_of-self-inside-2
invariant_of-self-inside-2 g c =
    let grown = ShowsLists-kept c.self.inside.rings (record { nodes = c.self.inside.rings.nodes; lists = c.reserve.new.self }) _ (shown_shows _ c.self.inside.kept) (λ list. rw c.reserve.ensures.rest_kept refl) (λ list node at. refl) in
    closed (record { nodes = c.self.inside.rings.nodes; lists = c.insert_reserved.new.self }) _ (map.insert (shown_lists _ c.self.inside.kept) c.insert_reserved.result [])
    (ShowsLists-add _ _ _ grown c.insert_reserved.result _ refl refl c.insert_reserved.ensures.updates refl)
    c.self.inside.has_room

pub returns-clause-made : goal.returns-clause-made
returns-clause-made g c =
    let grown = ShowsLists-kept c.self.inside.rings (record { nodes = c.self.inside.rings.nodes; lists = c.reserve.new.self }) _ (shown_shows _ c.self.inside.kept) (λ list. rw c.reserve.ensures.rest_kept refl) (λ list node at. refl) in
    rw (← c.self.view_is)
    (contents_are (record { nodes = c.self.inside.rings.nodes; lists = c.insert_reserved.new.self }) _ c.self.inside.room (map.insert (shown_lists _ c.self.inside.kept) c.insert_reserved.result []) (node_values c.self.inside.rings.nodes)
    (ShowsLists-add _ _ _ grown c.insert_reserved.result _ refl refl c.insert_reserved.ensures.updates refl)
    refl)

pub returns-clause-was_new : goal.returns-clause-was_new
returns-clause-was_new g c =
    let grown = ShowsLists-kept c.self.inside.rings (record { nodes = c.self.inside.rings.nodes; lists = c.reserve.new.self }) _ (shown_shows _ c.self.inside.kept) (λ list. rw c.reserve.ensures.rest_kept refl) (λ list node at. refl) in
    rw (← c.self.view_is) (list_absent _ _ c.insert_reserved.result grown c.insert_reserved.ensures.was_vacant)
