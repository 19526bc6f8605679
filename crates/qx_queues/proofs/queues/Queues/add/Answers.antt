use Rattle.std.proofs.Common.{◌≡◌, ◌-◌, None, Some, map, option_map, refl, ap, arith, sym, ◌∙◌}
use Rattle.qx_queues.specs.inner.Kept.{entries}
use Rattle.qx_queues.specs.Nodes.{Message, Unblock, asked_in, nodes_of_thread}
use Rattle.qx_queues.proofs.KeptLemmas.{Kept-made, calls-made, entries-made, shown-kept}
use Rattle.qx_queues.proofs.NodesLemmas.{asked_at-same, half, half-first, half-second, length-with_nodes}
use Rattle.qx_queues.proofs.PresenceLemmas.{nodes-absent, same_queues, servers-with_nodes, threads-made}
use Rattle.qx_queues.proofs.PulseLemmas.{KnowsPulses-same}
use Rattle.qx_queues.proofs.queues.Queues.add.Goals as goal

pub invariant_of-self : goal.invariant_of-self
invariant_of-self c =
    let fresh : nodes_of_thread c.self.inside.nodes c.args.thread ≡ None = nodes-absent _ _ (rw (← c.self.view_is) at c.requires.fresh) in
    let gets = rw c.set.ensures.set at c.set.ensures.there in
    let shown : map (entries c.new_node-unblock.new.table) c.self.inside.lines.items ≡ map (entries c.self.inside.table) c.self.inside.lines.items = shown-kept c.self.inside.table c.new_node-unblock.new.table c.self.inside.lines.items (λ line. entries-made c.new_node-message.new.table _ _ _ _ c.new_node-unblock.ensures.made c.new_node-unblock.ensures.was_new c.know-2.ensures.there line ∙ entries-made c.self.inside.table _ _ _ _ c.new_node-message.ensures.made c.new_node-message.ensures.was_new c.know.ensures.there line) in
    let first = Kept-made c.self.inside.table _ _ _ _ c.new_node-message.ensures.made c.new_node-message.ensures.was_new c.know.ensures.there c.self.inside.lines.items _ (half c.self.inside.nodes c.args.thread (Some (record { message = c.new_node-message.result; unblock = c.new_node-unblock.result; asked = None }))) (Message c.args.thread)
    (ap (option_map (λ own. own.message)) fresh) (ap (option_map (λ own. own.message)) gets) (half-first c.self.inside.nodes c.args.thread _) (rw (c.new.ensures.entry, c.queued_message.ensures.message) refl) (ap (λ w. w.load) c.new.ensures.entry) c.self.invariant.1 in (
      c.self.invariant.0,
      rw c.set.ensures.set (Kept-made c.new_node-message.new.table _ _ _ _ c.new_node-unblock.ensures.made c.new_node-unblock.ensures.was_new c.know-2.ensures.there c.self.inside.lines.items _ _ (Unblock c.args.thread)
          (ap (option_map (λ own. own.unblock)) fresh) (ap (option_map (λ own. own.unblock)) gets) (half-second c.self.inside.nodes c.args.thread _) (rw (c.new-2.ensures.entry, c.queued_unblock.ensures.pulse) refl) (ap (λ w. w.load) c.new-2.ensures.entry) first),
      KnowsPulses-same _ _ _ _ shown (rw c.set.ensures.set (asked_at-same _ _ _ gets (sym (ap asked_in fresh)))) c.self.invariant.2,
      c.self.invariant.3,
    )

pub returns : goal.returns
returns c =
    let gets = rw c.set.ensures.set at c.set.ensures.there in
    let shown : map (entries c.new_node-unblock.new.table) c.self.inside.lines.items ≡ map (entries c.self.inside.table) c.self.inside.lines.items = shown-kept c.self.inside.table c.new_node-unblock.new.table c.self.inside.lines.items (λ line. entries-made c.new_node-message.new.table _ _ _ _ c.new_node-unblock.ensures.made c.new_node-unblock.ensures.was_new c.know-2.ensures.there line ∙ entries-made c.self.inside.table _ _ _ _ c.new_node-message.ensures.made c.new_node-message.ensures.was_new c.know.ensures.there line) in
    let first : c.new_node-message.new.table.room ≡ c.self.inside.table.room - 1 = ap (λ t. t.room) c.new_node-message.ensures.made in
    let second : c.new_node-unblock.new.table.room ≡ c.new_node-message.new.table.room - 1 = ap (λ t. t.room) c.new_node-unblock.ensures.made in
    let first_calls = calls-made c.self.inside.table _ _ _ _ c.new_node-message.ensures.made c.new_node-message.ensures.was_new c.know.ensures.there c.self.inside.lines.items c.self.inside.answered c.self.invariant.1.off_lines in
    let second_calls = calls-made c.new_node-message.new.table _ _ _ _ c.new_node-unblock.ensures.made c.new_node-unblock.ensures.was_new c.know-2.ensures.there c.self.inside.lines.items c.self.inside.answered c.self.invariant.1.off_lines in
    rw (← c.self.view_is, c.set.ensures.set) (record {
      added = same_queues
          shown
          (threads-made _ _ _ refl gets) (servers-with_nodes _ _ _) (length-with_nodes _ _ _) (omega (arith, first, second)) (second_calls.waiting ∙ first_calls.waiting) (second_calls.given ∙ first_calls.given);
    })
