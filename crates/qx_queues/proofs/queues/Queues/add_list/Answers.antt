use Rattle.std.proofs.Common.{◌≡◌, ℕ, Some, [], ap, arith, refl, unwrap_or}
use Rattle.std.specs.FinMap as maps
use Rattle.qx_lists.proofs.MapLemmas.{get-insert_other, get-insert_same}
use Rattle.qx_lists.specs.Table.{Table}
use Rattle.qx_queues.specs.inner.Kept.{Moved}
use Rattle.qx_queues.specs.Waiting.{Waiting}
use Rattle.qx_queues.proofs.BesideLemmas.{waiting-absent}
use Rattle.qx_queues.proofs.CallLemmas.{Kept-moved, list-new, nothing-changed, pulses-moved, value-moved}
use Rattle.qx_queues.proofs.queues.Queues.add_list.Goals as goal

-- a new list, with nobody in it
added : (old new : Table Waiting) (list : ℕ) → new ≡ record old { lists = maps.insert old.lists list [] } → Moved old new list (Some [])
added old new list is = rw is (record {
  here = get-insert_same old.lists list [];
  lists = get-insert_other old.lists list [];
  stays = λ other node differs at. refl;
  there = λ node. refl;
  entries = λ node. refl;
  room = refl;
})

pub invariant_of-self : goal.invariant_of-self
invariant_of-self c = rw c.in_err-list.ensures.err c.self.invariant

pub invariant_of-self-2 : goal.invariant_of-self-2
invariant_of-self-2 c =
    let apart = list-new c.self.inside.table _ _ c.self.invariant.1 c.in_ok-list.list c.in_ok-list.ensures.was_new in
    let moved = added c.self.inside.table _ c.in_ok-list.list c.in_ok-list.ensures.made in (
      c.self.invariant.0,
      Kept-moved c.self.inside.table _ _ _ _ _ c.self.invariant.1 moved apart.0 (λ same. refl) (λ node absent. nothing-changed c.self.inside.table c.add_list.new.self c.in_ok-list.list (ap (λ t. t.values) c.in_ok-list.ensures.made) (ap (λ o. unwrap_or o []) c.in_ok-list.ensures.was_new) node) (λ node at. absurd (omega (arith, at.1))),
      pulses-moved c.self.inside.table _ _ _ _ _ c.self.invariant.1 moved apart.0 _ c.self.invariant.2,
      c.self.invariant.3,
    )

pub returns-clause-made : goal.returns-clause-made
returns-clause-made c =
    let apart = list-new c.self.inside.table _ _ c.self.invariant.1 c.in_ok-list.list c.in_ok-list.ensures.was_new in
    rw (← c.self.view_is) (value-moved c.self.inside.table _ _ _ _ _ c.self.invariant.1 (added c.self.inside.table _ c.in_ok-list.list c.in_ok-list.ensures.made) apart.0 apart.1 c.self.inside.nodes [] refl)

pub returns-clause-was_new : goal.returns-clause-was_new
returns-clause-was_new c = rw (← c.self.view_is) (waiting-absent c.self.inside.table c.self.inside.lines.items c.self.inside.answered c.in_ok-list.list c.in_ok-list.ensures.was_new)
