use Rattle.std.proofs.Common.{nat_lt, ◌≡◌, ◌<◌, Some, None, true, false, is_some, length, option_map, map, slice_get, slice_set, sym, ◌∙◌, ap, refl, arith}
use Rattle.std.proofs.lemmas.List.{length-map, length-set}
use Rattle.std.proofs.lemmas.Option.{slice_get_read}
use Rattle.qx_types.specs.Managers.{manager_count, manager_number}
use Rattle.qx_lists.proofs.ListLemmas.{absent_without, contains_without}
use Rattle.qx_lists.specs.Table.{without}
use Rattle.qx_lines.specs.Line.{nodes_in}
use Rattle.qx_lines.proofs.LineFacts.{nodes_in-distinct}
use Rattle.qx_isolation.specs.declared.rows.OwnItem.TheVariants as item
use Rattle.qx_isolation.specs.Lines.{line_at, with_line}
use Rattle.qx_machine.specs.Machine.{line_without}
use Rattle.qx_queues.specs.Queues.{pulse_call, unblock_call}
use Rattle.qx_queues.specs.inner.Kept.{entries, entry_of_node, is_line_at}
use Rattle.qx_queues.specs.Nodes.{Unblock, pulse_line_at, asked_in, node_of}
use Rattle.qx_queues.specs.Waiting.{rank_of}
use Rattle.qx_queues.proofs.EntryLemmas.{reads-call, with_line-same}
use Rattle.qx_queues.proofs.KeptLemmas.{Kept-owners, Kept-taken, calls-taken, gone-own, in_line-own, line_at-shown, other-stays, other-field, pulse-leaves, shown-taken}
use Rattle.qx_queues.proofs.NodesLemmas.{none_of}
use Rattle.qx_queues.proofs.MarkLemmas.{remarked}
use Rattle.qx_queues.proofs.PresenceLemmas.{same_queues}
use Rattle.qx_queues.proofs.PulseLemmas.{is_at-other, is_at-self, reply-none, pulses-replied}
use Rattle.qx_queues.proofs.queues.Queues.reply.Goals as goal

pub returns-in_default-clause-replied : goal.returns-in_default-clause-replied
returns-in_default-clause-replied c =
    let apart : is_line_at (manager_number c.args.manager) (pulse_line_at c.self.inside.nodes c.args.thread) ≡ false = ap (λ o. is_line_at (manager_number c.args.manager) (asked_in o)) (sym c.at.ensures.own ∙ c.in_default.is) in
    rw (← c.self.view_is) (same_queues (reply-none _ (manager_number c.args.manager) _ c.args.thread c.args.call c.self.invariant.2 apart) refl refl refl refl refl refl)

pub returns-in_default-asked-clause-replied : goal.returns-in_default-asked-clause-replied
returns-in_default-asked-clause-replied c =
    let asked : pulse_line_at c.self.inside.nodes c.args.thread ≡ None = ap asked_in (sym c.at.ensures.own ∙ c.in-Some.is) ∙ ap (option_map manager_number) c.in_default-asked.is in
    let apart : is_line_at (manager_number c.args.manager) (pulse_line_at c.self.inside.nodes c.args.thread) ≡ false = ap (is_line_at (manager_number c.args.manager)) asked in
    rw (← c.self.view_is) (same_queues (reply-none _ (manager_number c.args.manager) _ c.args.thread c.args.call c.self.invariant.2 apart) refl refl refl refl refl refl)

pub returns-then-number-clause-replied : goal.returns-then-number-clause-replied
returns-then-number-clause-replied c =
    let asked : pulse_line_at c.self.inside.nodes c.args.thread ≡ Some (manager_number c.in-Some-asked.asked) = ap asked_in (sym c.at.ensures.own ∙ c.in-Some.is) ∙ ap (option_map manager_number) c.in-Some-asked.is in
    let apart : is_line_at (manager_number c.args.manager) (pulse_line_at c.self.inside.nodes c.args.thread) ≡ false = ap (is_line_at (manager_number c.args.manager)) asked ∙ is_at-other (manager_number c.in-Some-asked.asked) (manager_number c.args.manager) (λ same. c.if-number.true (c.number.ensures.number ∙ sym same ∙ sym c.number-2.ensures.number)) in
    rw (← c.self.view_is) (same_queues (reply-none _ (manager_number c.args.manager) _ c.args.thread c.args.call c.self.invariant.2 apart) refl refl refl refl refl refl)

pub asked_call-requires-clause-there : goal.asked_call-requires-clause-there
asked_call-requires-clause-there c = c.self.invariant.1.there (Unblock c.args.thread) c.in-Some.own.unblock (ap (option_map (λ own. own.unblock)) (sym c.at.ensures.own ∙ c.in-Some.is))

pub asked_call-requires-clause-pulse : goal.asked_call-requires-clause-pulse
asked_call-requires-clause-pulse c = (c.args.thread, c.self.invariant.1.names (Unblock c.args.thread) c.in-Some.own.unblock (ap (option_map (λ own. own.unblock)) (sym c.at.ensures.own ∙ c.in-Some.is)))

pub returns-then-asked_call-call-clause-replied : goal.returns-then-asked_call-call-clause-replied
returns-then-asked_call-call-clause-replied c =
    let has : node_of c.self.inside.nodes (Unblock c.args.thread) ≡ Some c.in-Some.own.unblock = ap (option_map (λ own. own.unblock)) (sym c.at.ensures.own ∙ c.in-Some.is) in
    rw (← c.self.view_is) (same_queues (with_line-same _ (manager_number c.args.manager) (line_without c.args.thread.proc.user.0 (item.Unblock c.args.thread.proc.num c.args.thread.tid c.args.call)) (other-stays c.self.inside.table _ _ c.args.thread c.in-Some.own.unblock c.self.invariant.1 has c.args.call c.asked_call.result (manager_number c.args.manager) c.asked_call.ensures.call c.if-asked_call-call.true)) refl refl refl refl refl refl)

pub returns-then-asked_call-call-clause-gone : goal.returns-then-asked_call-call-clause-gone
returns-then-asked_call-call-clause-gone c = λ is.
    let has : node_of c.self.inside.nodes (Unblock c.args.thread) ≡ Some c.in-Some.own.unblock = ap (option_map (λ own. own.unblock)) (sym c.at.ensures.own ∙ c.in-Some.is) in
    absurd (other-field c.self.inside.table _ _ c.args.thread c.in-Some.own.unblock c.self.invariant.1 has c.args.call c.asked_call.result (manager_number c.args.manager) c.asked_call.ensures.call c.if-asked_call-call.true (rw (← c.self.view_is) at is))

pub remove-requires-clause-line : goal.remove-requires-clause-line
remove-requires-clause-line c = c.self.invariant.1.line c.number-3.result c.index_mut-line.result.now (slice_get_read c.self.inside.lines.items manager_count c.number-3.result c.index_mut-line.result.now (sym c.self.invariant.0) c.number-3.ensures.few c.index_mut-line.ensures.value)

pub remove-requires-clause-in_line : goal.remove-requires-clause-in_line
remove-requires-clause-in_line c =
    let is : slice_get c.self.inside.lines.items c.number-3.result ≡ Some c.index_mut-line.result.now = slice_get_read c.self.inside.lines.items manager_count c.number-3.result c.index_mut-line.result.now (sym c.self.invariant.0) c.number-3.ensures.few c.index_mut-line.ensures.value in
    let has : node_of c.self.inside.nodes (Unblock c.args.thread) ≡ Some c.in-Some.own.unblock = ap (option_map (λ own. own.unblock)) (sym c.at.ensures.own ∙ c.in-Some.is) in
    let asked : pulse_line_at c.self.inside.nodes c.args.thread ≡ Some c.number-3.result = ap asked_in (sym c.at.ensures.own ∙ c.in-Some.is) ∙ ap (option_map manager_number) c.in-Some-asked.is ∙ ap Some (sym c.number.ensures.number ∙ c.if-number.false ∙ c.number-2.ensures.number ∙ sym c.number-3.ensures.number) in
    let told : is_some (unblock_call (line_at (map (entries c.self.inside.table) c.self.inside.lines.items) c.number-3.result) c.args.thread) ≡ true = c.self.invariant.2 c.args.thread c.number-3.result ∙ ap (is_line_at c.number-3.result) asked ∙ is_at-self c.number-3.result in
    in_line-own pulse_call c.args.thread (Unblock c.args.thread) (reads-call c.args.thread) c.self.inside.table _ _ _ c.self.invariant.1 has c.index_mut-line.result.now (sym (ap (λ l. is_some (unblock_call l c.args.thread)) (line_at-shown c.self.inside.table _ c.number-3.result _ is)) ∙ told)

pub invariant_of-self : goal.invariant_of-self
invariant_of-self c =
    let is : slice_get c.self.inside.lines.items c.number-3.result ≡ Some c.index_mut-line.result.now = slice_get_read c.self.inside.lines.items manager_count c.number-3.result c.index_mut-line.result.now (sym c.self.invariant.0) c.number-3.ensures.few c.index_mut-line.ensures.value in
    let has : node_of c.self.inside.nodes (Unblock c.args.thread) ≡ Some c.in-Some.own.unblock = ap (option_map (λ own. own.unblock)) (sym c.at.ensures.own ∙ c.in-Some.is) in
    let asked : pulse_line_at c.self.inside.nodes c.args.thread ≡ Some c.number-3.result = ap asked_in (sym c.at.ensures.own ∙ c.in-Some.is) ∙ ap (option_map manager_number) c.in-Some-asked.is ∙ ap Some (sym c.number.ensures.number ∙ c.if-number.false ∙ c.number-2.ensures.number ∙ sym c.number-3.ensures.number) in
    let names : pulse_call (entry_of_node c.self.inside.table c.in-Some.own.unblock).item ≡ Some c.args.call = c.asked_call.ensures.call ∙ ap Some c.if-asked_call-call.false in
    let within : c.number-3.result < length (map (entries c.self.inside.table) c.self.inside.lines.items) = omega (arith, length-map c.self.inside.lines.items (entries c.self.inside.table), c.self.invariant.0, c.number-3.ensures.few) in
    let left : map (entry_of_node c.self.inside.table) (without c.in-Some.own.unblock (nodes_in c.self.inside.table c.index_mut-line.result.now)) ≡ line_without c.args.thread.proc.user.0 (item.Unblock c.args.thread.proc.num c.args.thread.tid c.args.call) (entries c.self.inside.table c.index_mut-line.result.now) = pulse-leaves c.self.inside.table _ _ c.args.thread c.in-Some.own.unblock c.self.invariant.1 c.index_mut-line.result.now has c.args.call names (nodes_in-distinct rank_of _ _ (c.self.invariant.1.line _ _ is) c.know.ensures.distinct) in
    let shown : map (entries c.remove.new.table) (slice_set c.self.inside.lines.items c.number-3.result c.remove.new.line) ≡ with_line (map (entries c.self.inside.table) c.self.inside.lines.items) c.number-3.result (line_without c.args.thread.proc.user.0 (item.Unblock c.args.thread.proc.num c.args.thread.tid c.args.call)) = shown-taken c.self.inside.table _ _ c.number-3.result _ _ (without c.in-Some.own.unblock) _ c.self.invariant.1 is c.remove.ensures.out (line_without c.args.thread.proc.user.0 (item.Unblock c.args.thread.proc.num c.args.thread.tid c.args.call)) left in
    let gone : unblock_call (line_without c.args.thread.proc.user.0 (item.Unblock c.args.thread.proc.num c.args.thread.tid c.args.call) (line_at (map (entries c.self.inside.table) c.self.inside.lines.items) c.number-3.result)) c.args.thread ≡ None = rw (line_at-shown c.self.inside.table _ c.number-3.result _ is, ← left) (none_of _ (gone-own pulse_call c.args.thread (Unblock c.args.thread) (reads-call c.args.thread) c.self.inside.table _ _ c.in-Some.own.unblock c.self.invariant.1 has c.index_mut-line.result.now _ (λ x at. contains_without c.in-Some.own.unblock x _ at) (λ at. absent_without c.in-Some.own.unblock _ at))) in (
      length-set c.self.inside.lines.items c.number-3.result c.remove.new.line ∙ c.self.invariant.0,
      Kept-owners _ _ _ _ c.set_asked.ensures.asked.nodes (Kept-taken c.self.inside.table _ _ c.number-3.result _ _ (without c.in-Some.own.unblock) _ c.self.invariant.1 is c.remove.ensures.out (λ x at. contains_without c.in-Some.own.unblock x _ at)),
      rw shown (pulses-replied _ c.number-3.result _ within c.self.invariant.2 c.args.thread c.args.call _ c.set_asked.ensures.asked.others c.set_asked.ensures.asked.here asked gone),
      remarked _ c.marked-self-inside.result _ c.number-3.result _ _ _ (c.number-4.ensures.number ∙ sym c.number-3.ensures.number) is c.self.invariant.3 (c.marked-self-inside.ensures.set ∙ ap (nat_lt 0) c.len.ensures) c.marked-self-inside.ensures.others,
    )

pub returns-clause-replied : goal.returns-clause-replied
returns-clause-replied c =
    let is : slice_get c.self.inside.lines.items c.number-3.result ≡ Some c.index_mut-line.result.now = slice_get_read c.self.inside.lines.items manager_count c.number-3.result c.index_mut-line.result.now (sym c.self.invariant.0) c.number-3.ensures.few c.index_mut-line.ensures.value in
    let has : node_of c.self.inside.nodes (Unblock c.args.thread) ≡ Some c.in-Some.own.unblock = ap (option_map (λ own. own.unblock)) (sym c.at.ensures.own ∙ c.in-Some.is) in
    let names : pulse_call (entry_of_node c.self.inside.table c.in-Some.own.unblock).item ≡ Some c.args.call = c.asked_call.ensures.call ∙ ap Some c.if-asked_call-call.false in
    let left : map (entry_of_node c.self.inside.table) (without c.in-Some.own.unblock (nodes_in c.self.inside.table c.index_mut-line.result.now)) ≡ line_without c.args.thread.proc.user.0 (item.Unblock c.args.thread.proc.num c.args.thread.tid c.args.call) (entries c.self.inside.table c.index_mut-line.result.now) = pulse-leaves c.self.inside.table _ _ c.args.thread c.in-Some.own.unblock c.self.invariant.1 c.index_mut-line.result.now has c.args.call names (nodes_in-distinct rank_of _ _ (c.self.invariant.1.line _ _ is) c.know.ensures.distinct) in
    let shown : map (entries c.remove.new.table) (slice_set c.self.inside.lines.items c.number-3.result c.remove.new.line) ≡ with_line (map (entries c.self.inside.table) c.self.inside.lines.items) c.number-3.result (line_without c.args.thread.proc.user.0 (item.Unblock c.args.thread.proc.num c.args.thread.tid c.args.call)) = shown-taken c.self.inside.table _ _ c.number-3.result _ _ (without c.in-Some.own.unblock) _ c.self.invariant.1 is c.remove.ensures.out (line_without c.args.thread.proc.user.0 (item.Unblock c.args.thread.proc.num c.args.thread.tid c.args.call)) left in
    let calls = calls-taken c.self.inside.table _ _ c.number-3.result _ _ (without c.in-Some.own.unblock) _ c.self.invariant.1 is c.remove.ensures.out in
    rw (← c.self.view_is, ← c.number-3.ensures.number) (same_queues shown c.set_asked.ensures.asked.threads c.set_asked.ensures.asked.servers c.set_asked.ensures.asked.users c.remove.ensures.out.elsewhere.room calls.waiting calls.given)

pub returns-clause-gone : goal.returns-clause-gone
returns-clause-gone c = λ stood.
    let is : slice_get c.self.inside.lines.items c.number-3.result ≡ Some c.index_mut-line.result.now = slice_get_read c.self.inside.lines.items manager_count c.number-3.result c.index_mut-line.result.now (sym c.self.invariant.0) c.number-3.ensures.few c.index_mut-line.ensures.value in
    let has : node_of c.self.inside.nodes (Unblock c.args.thread) ≡ Some c.in-Some.own.unblock = ap (option_map (λ own. own.unblock)) (sym c.at.ensures.own ∙ c.in-Some.is) in
    let names : pulse_call (entry_of_node c.self.inside.table c.in-Some.own.unblock).item ≡ Some c.args.call = c.asked_call.ensures.call ∙ ap Some c.if-asked_call-call.false in
    let left : map (entry_of_node c.self.inside.table) (without c.in-Some.own.unblock (nodes_in c.self.inside.table c.index_mut-line.result.now)) ≡ line_without c.args.thread.proc.user.0 (item.Unblock c.args.thread.proc.num c.args.thread.tid c.args.call) (entries c.self.inside.table c.index_mut-line.result.now) = pulse-leaves c.self.inside.table _ _ c.args.thread c.in-Some.own.unblock c.self.invariant.1 c.index_mut-line.result.now has c.args.call names (nodes_in-distinct rank_of _ _ (c.self.invariant.1.line _ _ is) c.know.ensures.distinct) in
    rw (← c.self.view_is, ← c.number-3.ensures.number, line_at-shown c.self.inside.table _ c.number-3.result _ is, ← left) (none_of _ (gone-own pulse_call c.args.thread (Unblock c.args.thread) (reads-call c.args.thread) c.self.inside.table _ _ c.in-Some.own.unblock c.self.invariant.1 has c.index_mut-line.result.now _ (λ x at. contains_without c.in-Some.own.unblock x _ at) (λ at. absent_without c.in-Some.own.unblock _ at)))
