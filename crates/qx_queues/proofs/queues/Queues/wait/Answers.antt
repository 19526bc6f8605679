use Rattle.std.proofs.Common.{◌∙◌, [], ◌∷◌, ◌++◌, ◌==◌, ap, map, refl, sym}
use Rattle.qx_lists.specs.Table.{nodes_of}
use Rattle.qx_queues.specs.inner.Kept.{Carries, call_at, entry_of_node, users_call_carried as call_with}
use Rattle.qx_queues.specs.Nodes.{Message, node_of}
use Rattle.qx_queues.specs.Queues.{caller}
use Rattle.qx_queues.specs.Waiting.{Waits, carrying}
use Rattle.qx_queues.specs.Waits.{users_call}
use Rattle.qx_queues.proofs.BesideLemmas.{list_shown, pipes_apart}
use Rattle.qx_queues.proofs.CallLemmas.{Kept-in, Moved-in, differs_of, more-in, pulses-moved, value-moved}
use Rattle.qx_queues.proofs.PresenceLemmas.{threads-nodes}
use Rattle.qx_queues.proofs.WaitLemmas.{IsFree-received, call-carried, waiting-are, waits-carried}
use Rattle.qx_queues.proofs.queues.Queues.wait.Goals as goal

pub message_node-node-requires : goal.message_node-node-requires
message_node-node-requires c = record { there = rw c.thread.ensures.thread (sym (threads-nodes c.self.inside.nodes _) ∙ (rw (← c.self.view_is) at c.requires.received.own)) }

pub put_slot-requires-clause-list : goal.put_slot-requires-clause-list
put_slot-requires-clause-list c = (list_shown c.self.inside.table _ _ _ (rw (← c.self.view_is) at c.requires.list)).1

pub put_slot-requires-clause-free : goal.put_slot-requires-clause-free
put_slot-requires-clause-free c =
    let has = ap (λ thread. node_of c.self.inside.nodes (Message thread)) (sym c.thread.ensures.thread) ∙ c.message_node-node.ensures.node in
    IsFree-received c.self.inside.table c.self.inside.lines.items c.self.inside.nodes _ c.message_node-node.result c.self.invariant.1 has (rw (← c.self.view_is) at c.requires.received)

pub invariant_of-self : goal.invariant_of-self
invariant_of-self c =
    let table = c.self.inside.table in
    let kept = c.self.invariant.1 in
    let off = pipes_apart c.self.inside.lines.items c.self.inside.answered c.args.list (list_shown table _ _ _ (rw (← c.self.view_is) at c.requires.list)).0 in
    let has = ap (λ thread. node_of c.self.inside.nodes (Message thread)) (sym c.thread.ensures.thread) ∙ c.message_node-node.ensures.node in
    let free = IsFree-received c.self.inside.table c.self.inside.lines.items c.self.inside.nodes _ c.message_node-node.result c.self.invariant.1 has (rw (← c.self.view_is) at c.requires.received) in
    let names = kept.names (Message (caller (users_call c.args.user.0 c.args.call))) c.message_node-node.result has in
    let carries : Carries (c.args.list == c.self.inside.answered) (carrying (entry_of_node table c.message_node-node.result) (Waits c.args.call)) = rw (differs_of c.args.list c.self.inside.answered off.1) (waits-carried _ c.args.user.0 c.args.call names) in (
      c.self.invariant.0,
      Kept-in table _ _ _ _ _ _ kept c.put_slot.ensures.put free off.0 carries (ap (node_of c.self.inside.nodes) names ∙ has),
      pulses-moved table _ _ _ _ _ kept (Moved-in table _ _ _ _ _ _ kept c.put_slot.ensures.put free) off.0 _ c.self.invariant.2,
      c.self.invariant.3,
    )

pub returns : goal.returns
returns c =
    let table = c.self.inside.table in
    let kept = c.self.invariant.1 in
    let pipes = (list_shown table _ _ _ (rw (← c.self.view_is) at c.requires.list)).0 in
    let off = pipes_apart c.self.inside.lines.items c.self.inside.answered c.args.list pipes in
    let has = ap (λ thread. node_of c.self.inside.nodes (Message thread)) (sym c.thread.ensures.thread) ∙ c.message_node-node.ensures.node in
    let free = IsFree-received c.self.inside.table c.self.inside.lines.items c.self.inside.nodes _ c.message_node-node.result c.self.invariant.1 has (rw (← c.self.view_is) at c.requires.received) in
    let own = call-carried (entry_of_node table c.message_node-node.result) c.args.user.0 c.args.call (kept.names (Message (caller (users_call c.args.user.0 c.args.call))) c.message_node-node.result has) in
    let more = more-in table _ _ _ _ _ _ kept c.put_slot.ensures.put free call_with ∙ ap (λ last. map (call_at table) (nodes_of table c.args.list) ++ last ∷ []) own in
    rw (← c.self.view_is, waiting-are table _ _ kept c.args.list pipes, ← more) (value-moved table _ _ _ _ _ kept (Moved-in table _ _ _ _ _ _ kept c.put_slot.ensures.put free) off.0 off.1 c.self.inside.nodes _ refl)
