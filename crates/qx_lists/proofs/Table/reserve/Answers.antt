use Rattle.std.proofs.Common.{◌≡◌, max, refl, arith}
use Rattle.std.proofs.lemmas.Result.{err_from_is_err_and}
use Rattle.slab.specs.Slab.{slab_len}
use Rattle.qx_lists.specs.Shows.{shown_lists, node_values}
use Rattle.qx_lists.proofs.ShowsLemmas.{ShowsLists-kept, shown_shows, contents_are, closed}
use Rattle.qx_lists.proofs.Table.reserve.Goals as goal

-- only the slab's capacity differs
pub invariant_of-self-inside : goal.invariant_of-self-inside
invariant_of-self-inside g c =
    let same : slab_len c.reserve.new.self ≡ slab_len c.self.inside.rings.nodes = rw c.reserve.ensures.rest_kept refl in
    closed (record { nodes = c.reserve.new.self; lists = c.self.inside.rings.lists }) _ (shown_lists _ c.self.inside.kept)
    (rw c.reserve.ensures.rest_kept (ShowsLists-kept _ _ _ (shown_shows _ c.self.inside.kept) (λ list. refl) (λ list node at. refl)))
    (omega (arith, same, c.reserve.ensures.capacity, c.self.inside.has_room))

pub returns-in_err-reserve-clause-err : goal.returns-in_err-reserve-clause-err
unfolding node_values
returns-in_err-reserve-clause-err g c =
    let p = err_from_is_err_and c.from_residual.result c.from_residual.ensures.1 in
    rw (p.1, ← c.self.view_is)
    (contents_are (record { nodes = c.reserve.new.self; lists = c.self.inside.rings.lists }) _ c.self.inside.room (shown_lists _ c.self.inside.kept) (node_values c.self.inside.rings.nodes)
    (rw c.reserve.ensures.rest_kept (ShowsLists-kept _ _ _ (shown_shows _ c.self.inside.kept) (λ list. refl) (λ list node at. refl)))
    (rw c.reserve.ensures.rest_kept refl))

pub invariant_of-self-inside-then-count-self : goal.invariant_of-self-inside-then-count-self
invariant_of-self-inside-then-count-self g c =
    closed (record { nodes = c.reserve.new.self; lists = c.self.inside.rings.lists }) c.args.count (shown_lists _ c.self.inside.kept)
    (rw c.reserve.ensures.rest_kept (ShowsLists-kept _ _ _ (shown_shows _ c.self.inside.kept) (λ list. refl) (λ list node at. refl)))
    c.in_ok-reserve.ensures.room

pub returns-in_ok-reserve-clause-ok : goal.returns-in_ok-reserve-clause-ok
unfolding node_values
returns-in_ok-reserve-clause-ok g c =
    let larger : max c.self.inside.room c.args.count ≡ c.args.count = omega arith in
    rw (← c.self.view_is, larger)
    (contents_are (record { nodes = c.reserve.new.self; lists = c.self.inside.rings.lists }) _ c.args.count (shown_lists _ c.self.inside.kept) (node_values c.self.inside.rings.nodes)
    (rw c.reserve.ensures.rest_kept (ShowsLists-kept _ _ _ (shown_shows _ c.self.inside.kept) (λ list. refl) (λ list node at. refl)))
    (rw c.reserve.ensures.rest_kept refl))
