use Rattle.std.proofs.Common.{◌≡◌, ◌∙◌, None, Some, ap, refl, unwrap_or, slice_get, sym}
use Rattle.std.proofs.lemmas.Option.{slice_get-map}
use Rattle.qx_lists.proofs.ListLemmas.{contains_slice_first}
use Rattle.qx_lists.specs.Table.{nodes_of}
use Rattle.qx_queues.specs.inner.Kept.{call_at, nobodys, waiting_of_node}
use Rattle.qx_queues.specs.Waiting.{call_carried}
use Rattle.qx_queues.proofs.BesideLemmas.{list_shown}
use Rattle.qx_queues.proofs.WaitLemmas.{carries-call, waiting-are}
use Rattle.qx_queues.proofs.queues.Queues.first_waiting.Goals as goal

pub first-requires : goal.first-requires
first-requires c = (list_shown c.self.inside.table _ _ _ (rw (← c.self.view_is) at c.requires.list)).1

pub value-requires : goal.value-requires
value-requires c = c.know.ensures.there c.args.list c.in_ok-node.node (contains_slice_first _ _ (sym c.first.ensures ∙ c.in_ok-node.was))

pub call-requires : goal.call-requires
call-requires c =
    let pipes = (list_shown c.self.inside.table _ _ _ (rw (← c.self.view_is) at c.requires.list)).0 in
    let carries = carries-call c.self.inside.table _ _ c.self.invariant.1 c.args.list pipes c.in_ok-node.node (contains_slice_first _ _ (sym c.first.ensures ∙ c.in_ok-node.was)) in
    record { waits = rw (ap (λ o. unwrap_or o nobodys) c.value.ensures) at carries.load }

pub returns-in_err-node : goal.returns-in_err-node
returns-in_err-node c =
    let table = c.self.inside.table in
    let pipes = (list_shown table _ _ _ (rw (← c.self.view_is) at c.requires.list)).0 in
    let first : slice_get (nodes_of table c.args.list) 0 ≡ None = sym c.first.ensures ∙ c.in_err-node.was in
    rw (c.from_residual.ensures, ← c.self.view_is, waiting-are table _ _ c.self.invariant.1 c.args.list pipes, slice_get-map (call_at table) (nodes_of table c.args.list) 0, first) refl

pub returns : goal.returns
returns c =
    let table = c.self.inside.table in
    let pipes = (list_shown table _ _ _ (rw (← c.self.view_is) at c.requires.list)).0 in
    let first : slice_get (nodes_of table c.args.list) 0 ≡ Some c.in_ok-node.node = sym c.first.ensures ∙ c.in_ok-node.was in
    let own : c.call.result.now ≡ call_carried (waiting_of_node table c.in_ok-node.node) = c.call.ensures.call ∙ ap (λ o. call_carried (unwrap_or o nobodys)) (sym c.value.ensures) in
    rw (← c.self.view_is, waiting-are table _ _ c.self.invariant.1 c.args.list pipes, slice_get-map (call_at table) (nodes_of table c.args.list) 0, first) (ap Some own)
