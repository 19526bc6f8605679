use Rattle.std.proofs.Common.{◌≡◌, Some, ap, map, slice_get, refl, sym, ◌∙◌}
use Rattle.std.proofs.lemmas.Option.{slice_get-map}
use Rattle.qx_lists.proofs.ListLemmas.{contains_slice_first, without-first}
use Rattle.qx_lists.specs.Table.{nodes_of}
use Rattle.qx_queues.specs.inner.Kept.{given_at}
use Rattle.qx_queues.specs.Nodes.{Message, node_of}
use Rattle.qx_queues.specs.Waiting.{addressed_by}
use Rattle.qx_queues.specs.inner.Waiting.{given_in, given_of}
use Rattle.qx_queues.proofs.CallLemmas.{Kept-out, Moved-out, left-out, pulses-moved, value-answered}
use Rattle.qx_queues.proofs.EntryLemmas.{map-drop}
use Rattle.qx_queues.proofs.WaitLemmas.{carries-answer, given-owns, received-answered, received-waits}
use Rattle.qx_queues.proofs.queues.Queues.take_answered.Goals as goal

pub first-requires : goal.first-requires
first-requires c = c.self.invariant.1.answers

pub take_slot-requires-clause-there : goal.take_slot-requires-clause-there
take_slot-requires-clause-there c = c.know.ensures.there c.self.inside.answered c.in_ok-node.node (contains_slice_first _ _ (sym c.first.ensures ∙ c.in_ok-node.was))

pub into_answered-requires : goal.into_answered-requires
into_answered-requires c = record { answered = rw c.take_slot.ensures.carried (carries-answer c.self.inside.table c.self.inside.lines.items _ c.self.invariant.1 c.in_ok-node.node (contains_slice_first _ _ (sym c.first.ensures ∙ c.in_ok-node.was))).load; room = c.take_slot.ensures.room }

pub invariant_of-self : goal.invariant_of-self
invariant_of-self c =
    let at = contains_slice_first (nodes_of c.self.inside.table c.self.inside.answered) c.in_ok-node.node (sym c.first.ensures ∙ c.in_ok-node.was) in
    let there = c.know.ensures.there c.self.inside.answered c.in_ok-node.node at in
    let kept = c.self.invariant.1 in (
      c.self.invariant.0,
      Kept-out c.self.inside.table _ _ _ _ _ kept c.take_slot.ensures.taken at there c.know.ensures.apart kept.off_lines,
      pulses-moved c.self.inside.table _ _ _ _ _ kept (Moved-out c.self.inside.table _ _ _ _ _ kept c.take_slot.ensures.taken at there c.know.ensures.apart) kept.off_lines _ c.self.invariant.2,
      c.self.invariant.3,
    )

pub returns-clause-first : goal.returns-clause-first
returns-clause-first c =
    let first : slice_get (nodes_of c.self.inside.table c.self.inside.answered) 0 ≡ Some c.in_ok-node.node = sym c.first.ensures ∙ c.in_ok-node.was in
    let given : given_at c.self.inside.table c.in_ok-node.node ≡ addressed_by c.into_answered.result = ap given_in (sym c.take_slot.ensures.carried ∙ c.into_answered.ensures.answer) in
    rw (← c.self.view_is) (sym (slice_get-map (given_at c.self.inside.table) (nodes_of c.self.inside.table c.self.inside.answered) 0 ∙ rw (first, given) refl))

pub returns-clause-rest : goal.returns-clause-rest
returns-clause-rest c =
    let first = sym c.first.ensures ∙ c.in_ok-node.was in
    let nodes = nodes_of c.self.inside.table c.self.inside.answered in
    let at = contains_slice_first nodes c.in_ok-node.node first in
    let there = c.know.ensures.there c.self.inside.answered c.in_ok-node.node at in
    let moved = Moved-out c.self.inside.table _ _ _ _ _ c.self.invariant.1 c.take_slot.ensures.taken at there c.know.ensures.apart in
    rw (← c.self.view_is) (value-answered c.self.inside.table _ c.self.inside.lines.items _ _ c.self.invariant.1 moved c.self.inside.nodes _
    (left-out c.self.inside.table _ _ _ _ _ c.self.invariant.1 c.take_slot.ensures.taken at there c.know.ensures.apart given_of
    ∙ ap (map (given_at c.self.inside.table)) (without-first nodes c.in_ok-node.node (c.know.ensures.distinct c.self.inside.answered) first)
    ∙ map-drop (given_at c.self.inside.table) nodes))

pub returns-clause-gone : goal.returns-clause-gone
returns-clause-gone c =
    let at = contains_slice_first (nodes_of c.self.inside.table c.self.inside.answered) c.in_ok-node.node (sym c.first.ensures ∙ c.in_ok-node.was) in
    let kept = Kept-out c.self.inside.table _ _ _ _ _ c.self.invariant.1 c.take_slot.ensures.taken at (c.know.ensures.there c.self.inside.answered c.in_ok-node.node at) c.know.ensures.apart c.self.invariant.1.off_lines in
    let own : node_of c.self.inside.nodes (Message c.into_answered.result.thread) ≡ Some c.in_ok-node.node =
    ap (λ load. node_of c.self.inside.nodes (Message (given_in load).thread)) (sym c.into_answered.ensures.answer ∙ c.take_slot.ensures.carried) ∙ given-owns c.self.inside.table _ _ c.self.invariant.1 c.in_ok-node.node at in
    record {
      waiting = received-waits c.take_slot.new.table _ _ kept c.into_answered.result.thread c.in_ok-node.node own c.take_slot.ensures.free;
      answered = received-answered c.take_slot.new.table _ _ kept c.into_answered.result.thread c.in_ok-node.node own c.take_slot.ensures.free;
    }
