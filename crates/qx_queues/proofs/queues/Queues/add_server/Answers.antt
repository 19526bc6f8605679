use Rattle.std.proofs.Common.{◌≡◌, ◌≢◌, ◌-◌, is_some, false, true, sym, max, ap, arith, refl, rules, ◌∙◌}
use Rattle.qx_lines.specs.declared.Line.{Line}
use Rattle.qx_queues.specs.inner.Kept.{AreListsOfTable, entries}
use Rattle.qx_queues.specs.Nodes.{Disconnect, asked_in, disconnect_at, no_process, node_of, process_at}
use Rattle.qx_types.specs.Managers.{manager_number}
use Rattle.qx_queues.proofs.BesideLemmas.{same_calls-room}
use Rattle.qx_queues.proofs.KeptLemmas.{Kept-made, Kept-room, calls-made, entries-made, shown-kept}
use Rattle.qx_queues.proofs.NodesLemmas.{length-with_disconnect, node_of-with_disconnect, nodes_at-with_disconnect, none_of}
use Rattle.qx_queues.proofs.PresenceLemmas.{same_queues, server-had, servers-made, servers-nodes, started, threads-with_disconnect}
use Rattle.qx_queues.proofs.PulseLemmas.{KnowsPulses-same}
use Rattle.qx_queues.proofs.queues.Queues.add_server.Goals as goal

pub invariant_of-self : goal.invariant_of-self
invariant_of-self c = rw c.in_err-reserve.ensures.err c.self.invariant

pub returns-in_err-reserve-clause-had_node : goal.returns-in_err-reserve-clause-had_node
returns-in_err-reserve-clause-had_node c = λ had.
    let none : is_some (disconnect_at c.self.inside.nodes c.args.proc c.number-number.result) ≡ false = search rules in
    let lacked = rw c.number-number.ensures.number at none in
    let clash : false ≡ true = sym (servers-nodes c.self.inside.nodes c.args.proc (manager_number c.args.manager) ∙ lacked) ∙ rw (← c.self.view_is) at had in
    absurd (cc)

pub invariant_of-self-2 : goal.invariant_of-self-2
invariant_of-self-2 c =
    let kept : AreListsOfTable c.reserve.new.self c.self.inside.lines.items c.self.inside.answered (node_of c.self.inside.nodes) = Kept-room c.self.inside.table _ _ _ (ap (λ t. t.lists) c.in_ok-reserve.ensures.ok) (ap (λ t. t.values) c.in_ok-reserve.ensures.ok) c.self.invariant.1 in
    let there : process_at c.self.inside.nodes c.args.proc ≢ no_process = started _ _ (rw (← c.self.view_is) at c.requires.started) in
    let same : (line : Line) → entries c.new_node-node.new.table line ≡ entries c.self.inside.table line = λ line. entries-made c.reserve.new.self _ _ _ _ c.new_node-node.ensures.made c.new_node-node.ensures.was_new c.know.ensures.there line ∙ ap (λ t. entries t line) c.in_ok-reserve.ensures.ok in
    let gets = rw (rw c.number-number.ensures.number at c.set_disconnect.ensures.set) at (rw c.number-number.ensures.number at c.set_disconnect.ensures.there) there in (
      c.self.invariant.0,
      rw (rw c.number-number.ensures.number at c.set_disconnect.ensures.set) (Kept-made c.reserve.new.self _ _ _ _ c.new_node-node.ensures.made c.new_node-node.ensures.was_new c.know.ensures.there c.self.inside.lines.items _ _ (Disconnect c.args.proc (manager_number c.args.manager))
          (none_of _ (search rules)) gets (node_of-with_disconnect c.self.inside.nodes c.args.proc (manager_number c.args.manager) _) (rw (c.new.ensures.entry, c.queued_message.ensures.message) refl) (ap (λ w. w.load) c.new.ensures.entry) kept),
      KnowsPulses-same _ _ _ _ (shown-kept c.self.inside.table c.new_node-node.new.table c.self.inside.lines.items same) (λ thread. rw (rw c.number-number.ensures.number at c.set_disconnect.ensures.set) (ap asked_in (nodes_at-with_disconnect c.self.inside.nodes c.args.proc (manager_number c.args.manager) _ thread))) c.self.invariant.2,
      c.self.invariant.3,
    )

pub returns-then-is_some-clause-ok : goal.returns-then-is_some-clause-ok
returns-then-is_some-clause-ok c = rw (← c.self.view_is) (server-had _ c.self.inside.nodes _ _ _ c.args.proc (manager_number c.args.manager) (search rules))

pub returns-clause-ok : goal.returns-clause-ok
returns-clause-ok c =
    let there : process_at c.self.inside.nodes c.args.proc ≢ no_process = started _ _ (rw (← c.self.view_is) at c.requires.started) in
    let gets = rw (rw c.number-number.ensures.number at c.set_disconnect.ensures.set) at (rw c.number-number.ensures.number at c.set_disconnect.ensures.there) there in
    let none : is_some (disconnect_at c.self.inside.nodes c.args.proc c.number-number.result) ≡ false = search rules in
    let lacked = rw c.number-number.ensures.number at none in
    let absent = servers-nodes c.self.inside.nodes c.args.proc (manager_number c.args.manager) ∙ lacked in
    let same : (line : Line) → entries c.new_node-node.new.table line ≡ entries c.self.inside.table line = λ line. entries-made c.reserve.new.self _ _ _ _ c.new_node-node.ensures.made c.new_node-node.ensures.was_new c.know.ensures.there line ∙ ap (λ t. entries t line) c.in_ok-reserve.ensures.ok in
    let room : c.new_node-node.new.table.room ≡ max c.self.inside.table.room 1 - 1 = ap (λ t. t.room) c.new_node-node.ensures.made ∙ ap (λ t. t.room - 1) c.in_ok-reserve.ensures.ok in
    let reserved = same_calls-room c.self.inside.table c.reserve.new.self c.self.inside.lines.items c.self.inside.answered (ap (λ t. t.lists) c.in_ok-reserve.ensures.ok) (ap (λ t. t.values) c.in_ok-reserve.ensures.ok) in
    let calls = calls-made c.reserve.new.self _ _ _ _ c.new_node-node.ensures.made c.new_node-node.ensures.was_new c.know.ensures.there c.self.inside.lines.items c.self.inside.answered c.self.invariant.1.off_lines in
    rw (← c.self.view_is, (rw c.number-number.ensures.number at c.set_disconnect.ensures.set), absent) (same_queues (shown-kept c.self.inside.table c.new_node-node.new.table c.self.inside.lines.items same) (threads-with_disconnect c.self.inside.nodes c.args.proc (manager_number c.args.manager) _) (servers-made c.self.inside.nodes c.args.proc (manager_number c.args.manager) _ refl gets) (length-with_disconnect c.self.inside.nodes c.args.proc (manager_number c.args.manager) _) (room ∙ omega arith) (calls.waiting ∙ reserved.waiting) (calls.given ∙ reserved.given))
