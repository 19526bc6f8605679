use Rattle.std.proofs.Common.{◌≡◌, ◌∙◌, ℕ, None, Some, [], arith, ap, is_some, refl, unwrap_or}
use Rattle.std.specs.FinMap as maps
use Rattle.qx_lists.proofs.MapLemmas.{get-insert_same, get-remove_other, get-remove_same}
use Rattle.qx_lists.specs.Table.{Table}
use Rattle.qx_queues.specs.inner.Kept.{Moved}
use Rattle.qx_queues.specs.Queues.{waiting_in_list, without_list}
use Rattle.qx_queues.specs.Waiting.{Waiting}
use Rattle.qx_queues.proofs.BesideLemmas.{list_shown, pipes_apart, waiting-empty}
use Rattle.qx_queues.proofs.CallLemmas.{Kept-moved, nothing-changed, pulses-moved, value-gone}
use Rattle.qx_queues.proofs.LeavingLemmas.{none-stays, remove-inserted}
use Rattle.qx_queues.proofs.queues.Queues.free_list.Goals as goal

-- the list is gone
freed : (old new : Table Waiting) (list : ℕ) → new ≡ record old { lists = maps.remove old.lists list } → Moved old new list None
freed old new list is = rw is (record {
  here = get-remove_same old.lists list;
  lists = get-remove_other old.lists list;
  stays = λ other node differs at. refl;
  there = λ node. refl;
  entries = λ node. refl;
  room = refl;
})

pub free_list-requires : goal.free_list-requires
free_list-requires c =
    let all : maps.get c.take_out.new.self.pipes c.args.list ≡ Some [] = ap (λ q. maps.get q.pipes c.args.list) c.take_out.ensures ∙ get-insert_same c.args.self.now.pipes c.args.list _ ∙ ap Some (none-stays (waiting_in_list c.args.self.now c.args.list)) in
    waiting-empty c.self.inside.table c.self.inside.lines.items c.self.inside.answered c.args.list (ap (λ q. maps.get q.pipes c.args.list) c.self.view_is ∙ all)

pub invariant_of-self : goal.invariant_of-self
invariant_of-self c =
    let there = ap (λ q. is_some (maps.get q.pipes c.args.list)) (c.self.view_is ∙ c.take_out.ensures) ∙ ap is_some (get-insert_same c.args.self.now.pipes c.args.list _) in
    let off = pipes_apart c.self.inside.lines.items c.self.inside.answered c.args.list (list_shown c.self.inside.table _ _ _ there).0 in
    let all : maps.get c.take_out.new.self.pipes c.args.list ≡ Some [] = ap (λ q. maps.get q.pipes c.args.list) c.take_out.ensures ∙ get-insert_same c.args.self.now.pipes c.args.list _ ∙ ap Some (none-stays (waiting_in_list c.args.self.now c.args.list)) in
    let empty = waiting-empty c.self.inside.table c.self.inside.lines.items c.self.inside.answered c.args.list (ap (λ q. maps.get q.pipes c.args.list) c.self.view_is ∙ all) in
    let moved = freed c.self.inside.table _ c.args.list c.free_list.ensures in (
      c.self.invariant.0,
      Kept-moved c.self.inside.table _ _ _ _ _ c.self.invariant.1 moved off.0 (λ same. absurd (off.1 same)) (λ node absent. nothing-changed c.self.inside.table c.free_list.new.self c.args.list (ap (λ t. t.values) c.free_list.ensures) (ap (λ o. unwrap_or o []) empty) node) (λ node at. absurd (omega (arith, at.1))),
      pulses-moved c.self.inside.table _ _ _ _ _ c.self.invariant.1 moved off.0 _ c.self.invariant.2,
      c.self.invariant.3,
    )

pub returns : goal.returns
returns c =
    let there = ap (λ q. is_some (maps.get q.pipes c.args.list)) (c.self.view_is ∙ c.take_out.ensures) ∙ ap is_some (get-insert_same c.args.self.now.pipes c.args.list _) in
    let off = pipes_apart c.self.inside.lines.items c.self.inside.answered c.args.list (list_shown c.self.inside.table _ _ _ there).0 in
    value-gone c.self.inside.table _ _ _ _ _ c.self.invariant.1 (freed c.self.inside.table _ c.args.list c.free_list.ensures) off.0 off.1 c.self.inside.nodes refl
    ∙ ap (λ q. without_list q c.args.list) (c.self.view_is ∙ c.take_out.ensures)
    ∙ ap (λ pipes. record c.args.self.now { pipes = pipes }) (remove-inserted c.args.self.now.pipes c.args.list _)
