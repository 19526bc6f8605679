use Rattle.std.proofs.Common.{◌∙◌, ◌==◌, ap, sym}
use Rattle.qx_queues.specs.inner.Kept.{Carries, entry_of_node}
use Rattle.qx_queues.specs.Nodes.{Message, node_of}
use Rattle.qx_queues.specs.Waiting.{Answered, addressed_by, carrying}
use Rattle.qx_queues.specs.inner.Waiting.{given_of}
use Rattle.qx_queues.proofs.CallLemmas.{Kept-in, Moved-in, equal_itself, more-in, pulses-moved, value-answered}
use Rattle.qx_queues.proofs.PresenceLemmas.{threads-nodes}
use Rattle.qx_queues.proofs.WaitLemmas.{IsFree-received, answer-carried}
use Rattle.qx_queues.proofs.queues.Queues.give.Goals as goal

pub message_node-node-requires : goal.message_node-node-requires
message_node-node-requires c = record { there = sym (threads-nodes c.self.inside.nodes _) ∙ (rw (← c.self.view_is) at c.requires.received.own) }

pub put_slot-requires-clause-list : goal.put_slot-requires-clause-list
put_slot-requires-clause-list c = c.self.invariant.1.answers

pub put_slot-requires-clause-free : goal.put_slot-requires-clause-free
put_slot-requires-clause-free c =
    IsFree-received c.self.inside.table c.self.inside.lines.items c.self.inside.nodes _ c.message_node-node.result c.self.invariant.1 c.message_node-node.ensures.node (rw (← c.self.view_is) at c.requires.received)

pub invariant_of-self : goal.invariant_of-self
invariant_of-self c =
    let table = c.self.inside.table in
    let kept = c.self.invariant.1 in
    let has = c.message_node-node.ensures.node in
    let free = IsFree-received c.self.inside.table c.self.inside.lines.items c.self.inside.nodes _ c.message_node-node.result c.self.invariant.1 has (rw (← c.self.view_is) at c.requires.received) in
    let names = kept.names (Message c.args.answered.thread) c.message_node-node.result has in
    let carries : Carries (c.self.inside.answered == c.self.inside.answered) (carrying (entry_of_node table c.message_node-node.result) (Answered (addressed_by c.args.answered))) = rw (equal_itself c.self.inside.answered) (answer-carried _ (addressed_by c.args.answered) names) in (
      c.self.invariant.0,
      Kept-in table _ _ _ _ _ _ kept c.put_slot.ensures.put free kept.off_lines carries (ap (node_of c.self.inside.nodes) names ∙ has),
      pulses-moved table _ _ _ _ _ kept (Moved-in table _ _ _ _ _ _ kept c.put_slot.ensures.put free) kept.off_lines _ c.self.invariant.2,
      c.self.invariant.3,
    )

pub returns : goal.returns
returns c =
    let table = c.self.inside.table in
    let kept = c.self.invariant.1 in
    let free = IsFree-received c.self.inside.table c.self.inside.lines.items c.self.inside.nodes _ c.message_node-node.result c.self.invariant.1 c.message_node-node.ensures.node (rw (← c.self.view_is) at c.requires.received) in
    record {
      given = rw (← c.self.view_is) (value-answered table _ _ _ _ kept (Moved-in table _ _ _ _ _ _ kept c.put_slot.ensures.put free) c.self.inside.nodes _
          (more-in table _ _ _ _ _ _ kept c.put_slot.ensures.put free given_of));
    }
