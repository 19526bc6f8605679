use Rattle.std.proofs.Common.{nat_lt, ◌≡◌, ◌<◌, Some, true, length, option_map, map, slice_get, slice_set, sym, ◌∙◌, ap, refl, arith}
use Rattle.std.proofs.lemmas.List.{length-map, length-set}
use Rattle.std.proofs.lemmas.Option.{slice_get_read}
use Rattle.qx_types.specs.Managers.{manager_count, manager_number}
use Rattle.qx_lists.proofs.ListLemmas.{absent_without, contains_without}
use Rattle.qx_lists.specs.Table.{without}
use Rattle.qx_lines.specs.Line.{nodes_in}
use Rattle.qx_lines.proofs.LineFacts.{nodes_in-distinct}
use Rattle.qx_isolation.specs.declared.rows.OwnItem.TheVariants as item
use Rattle.qx_isolation.specs.Lines.{with_line}
use Rattle.qx_machine.specs.Machine.{line_without}
use Rattle.qx_queues.specs.Queues.{as_message, stands}
use Rattle.qx_queues.specs.inner.Kept.{entries, entry_of_node}
use Rattle.qx_queues.specs.Nodes.{Message, node_of}
use Rattle.qx_queues.specs.Waiting.{rank_of}
use Rattle.qx_queues.proofs.EntryLemmas.{reads-message}
use Rattle.qx_queues.proofs.KeptLemmas.{Kept-taken, calls-taken, gone-own, in_line-own, line_at-shown, message-leaves, shown-taken, stands-owned}
use Rattle.qx_queues.proofs.MarkLemmas.{remarked}
use Rattle.qx_queues.proofs.PresenceLemmas.{same_queues}
use Rattle.qx_queues.proofs.PulseLemmas.{pulses-withdrawn}
use Rattle.qx_queues.proofs.queues.Queues.withdraw.Goals as goal

pub unreachable-requires : goal.unreachable-requires
unreachable-requires c = stands-owned as_message c.args.thread (Message c.args.thread) (reads-message c.args.thread) c.self.inside.table _ _ c.self.invariant.1 (manager_number c.args.manager) (rw (← c.self.view_is) at c.requires.stands) (ap (option_map (λ own. own.message)) (sym c.at.ensures.own ∙ c.in_default.is))

pub remove-requires-clause-line : goal.remove-requires-clause-line
remove-requires-clause-line c = c.self.invariant.1.line c.number-number.result c.index_mut-line.result.now (slice_get_read c.self.inside.lines.items manager_count c.number-number.result c.index_mut-line.result.now (sym c.self.invariant.0) c.number-number.ensures.few c.index_mut-line.ensures.value)

pub remove-requires-clause-in_line : goal.remove-requires-clause-in_line
remove-requires-clause-in_line c =
    let is : slice_get c.self.inside.lines.items c.number-number.result ≡ Some c.index_mut-line.result.now = slice_get_read c.self.inside.lines.items manager_count c.number-number.result c.index_mut-line.result.now (sym c.self.invariant.0) c.number-number.ensures.few c.index_mut-line.ensures.value in
    let has : node_of c.self.inside.nodes (Message c.args.thread) ≡ Some c.in-Some.own.message = ap (option_map (λ own. own.message)) (sym c.at.ensures.own ∙ c.in-Some.is) in
    let stood : stands (entries c.self.inside.table c.index_mut-line.result.now) c.args.thread ≡ true = rw (← c.self.view_is, ← c.number-number.ensures.number, line_at-shown c.self.inside.table _ c.number-number.result _ is) at c.requires.stands in
    in_line-own as_message c.args.thread (Message c.args.thread) (reads-message c.args.thread) c.self.inside.table _ _ _ c.self.invariant.1 has c.index_mut-line.result.now stood

pub invariant_of-self : goal.invariant_of-self
invariant_of-self c =
    let is : slice_get c.self.inside.lines.items c.number-number.result ≡ Some c.index_mut-line.result.now = slice_get_read c.self.inside.lines.items manager_count c.number-number.result c.index_mut-line.result.now (sym c.self.invariant.0) c.number-number.ensures.few c.index_mut-line.ensures.value in
    let has : node_of c.self.inside.nodes (Message c.args.thread) ≡ Some c.in-Some.own.message = ap (option_map (λ own. own.message)) (sym c.at.ensures.own ∙ c.in-Some.is) in
    let within : c.number-number.result < length (map (entries c.self.inside.table) c.self.inside.lines.items) = omega (arith, length-map c.self.inside.lines.items (entries c.self.inside.table), c.self.invariant.0, c.number-number.ensures.few) in
    let shown : map (entries c.remove.new.table) (slice_set c.self.inside.lines.items c.number-number.result c.remove.new.line) ≡ with_line (map (entries c.self.inside.table) c.self.inside.lines.items) c.number-number.result (line_without c.args.thread.proc.user.0 (item.Message c.args.thread.proc.num c.args.thread.tid)) = shown-taken c.self.inside.table _ _ c.number-number.result _ _ (without c.in-Some.own.message) _ c.self.invariant.1 is c.remove.ensures.out (line_without c.args.thread.proc.user.0 (item.Message c.args.thread.proc.num c.args.thread.tid)) (message-leaves c.self.inside.table _ _ c.args.thread c.in-Some.own.message c.self.invariant.1 c.index_mut-line.result.now has (nodes_in-distinct rank_of _ _ (c.self.invariant.1.line _ _ is) c.know.ensures.distinct)) in (
      length-set c.self.inside.lines.items c.number-number.result c.remove.new.line ∙ c.self.invariant.0,
      Kept-taken c.self.inside.table _ _ c.number-number.result _ _ (without c.in-Some.own.message) _ c.self.invariant.1 is c.remove.ensures.out (λ x at. contains_without c.in-Some.own.message x _ at),
      rw shown (pulses-withdrawn _ c.number-number.result _ within c.self.invariant.2 c.args.thread),
      remarked _ c.marked-self-inside.result _ c.number-number.result _ _ _ refl is c.self.invariant.3 (c.marked-self-inside.ensures.set ∙ ap (nat_lt 0) c.len.ensures) c.marked-self-inside.ensures.others,
    )

pub returns-clause-withdrawn : goal.returns-clause-withdrawn
returns-clause-withdrawn c =
    let is : slice_get c.self.inside.lines.items c.number-number.result ≡ Some c.index_mut-line.result.now = slice_get_read c.self.inside.lines.items manager_count c.number-number.result c.index_mut-line.result.now (sym c.self.invariant.0) c.number-number.ensures.few c.index_mut-line.ensures.value in
    let has : node_of c.self.inside.nodes (Message c.args.thread) ≡ Some c.in-Some.own.message = ap (option_map (λ own. own.message)) (sym c.at.ensures.own ∙ c.in-Some.is) in
    let shown : map (entries c.remove.new.table) (slice_set c.self.inside.lines.items c.number-number.result c.remove.new.line) ≡ with_line (map (entries c.self.inside.table) c.self.inside.lines.items) c.number-number.result (line_without c.args.thread.proc.user.0 (item.Message c.args.thread.proc.num c.args.thread.tid)) = shown-taken c.self.inside.table _ _ c.number-number.result _ _ (without c.in-Some.own.message) _ c.self.invariant.1 is c.remove.ensures.out (line_without c.args.thread.proc.user.0 (item.Message c.args.thread.proc.num c.args.thread.tid)) (message-leaves c.self.inside.table _ _ c.args.thread c.in-Some.own.message c.self.invariant.1 c.index_mut-line.result.now has (nodes_in-distinct rank_of _ _ (c.self.invariant.1.line _ _ is) c.know.ensures.distinct)) in
    let calls = calls-taken c.self.inside.table _ _ c.number-number.result _ _ (without c.in-Some.own.message) _ c.self.invariant.1 is c.remove.ensures.out in
    rw (← c.self.view_is, ← c.number-number.ensures.number) (same_queues shown refl refl refl c.remove.ensures.out.elsewhere.room calls.waiting calls.given)

pub returns-clause-gone : goal.returns-clause-gone
returns-clause-gone c =
    let is : slice_get c.self.inside.lines.items c.number-number.result ≡ Some c.index_mut-line.result.now = slice_get_read c.self.inside.lines.items manager_count c.number-number.result c.index_mut-line.result.now (sym c.self.invariant.0) c.number-number.ensures.few c.index_mut-line.ensures.value in
    let has : node_of c.self.inside.nodes (Message c.args.thread) ≡ Some c.in-Some.own.message = ap (option_map (λ own. own.message)) (sym c.at.ensures.own ∙ c.in-Some.is) in
    let left : map (entry_of_node c.self.inside.table) (without c.in-Some.own.message (nodes_in c.self.inside.table c.index_mut-line.result.now)) ≡ line_without c.args.thread.proc.user.0 (item.Message c.args.thread.proc.num c.args.thread.tid) (entries c.self.inside.table c.index_mut-line.result.now) = message-leaves c.self.inside.table _ _ c.args.thread c.in-Some.own.message c.self.invariant.1 c.index_mut-line.result.now has (nodes_in-distinct rank_of _ _ (c.self.invariant.1.line _ _ is) c.know.ensures.distinct) in
    rw (← c.self.view_is, ← c.number-number.ensures.number, line_at-shown c.self.inside.table _ c.number-number.result _ is, ← left) (gone-own as_message c.args.thread (Message c.args.thread) (reads-message c.args.thread) c.self.inside.table _ _ c.in-Some.own.message c.self.invariant.1 has c.index_mut-line.result.now _ (λ x at. contains_without c.in-Some.own.message x _ at) (λ at. absent_without c.in-Some.own.message _ at))
