use Rattle.std.proofs.Common.{◌≡◌, ◌<◌, ℕ, Some, None, is_some, length, option_map, map, slice_get, slice_set, sym, ◌∙◌, ap, refl, arith}
use Rattle.std.proofs.lemmas.List.{length-map, length-set}
use Rattle.std.proofs.lemmas.Option.{slice_get_read}
use Rattle.qx_types.specs.Managers.{manager_count}
use Rattle.qx_lists.specs.Table.{IsFree}
use Rattle.qx_isolation.specs.Lines.{into, line_at, with_line}
use Rattle.qx_machine.specs.Machine.{rank}
use Rattle.qx_queues.specs.Queues.{pulse_call, unblock_call, unblock_of}
use Rattle.qx_queues.specs.inner.Kept.{AreListsOfTable, entries}
use Rattle.qx_queues.specs.Nodes.{Unblock, node_of}
use Rattle.qx_queues.proofs.EntryLemmas.{reads-call}
use Rattle.qx_queues.proofs.KeptLemmas.{IsFree-own, Kept-owners, Kept-put, calls-put, no_call-unblock, shown-put}
use Rattle.qx_queues.proofs.MarkLemmas.{has_one, remarked}
use Rattle.qx_queues.proofs.PresenceLemmas.{nodes-there, same_queues}
use Rattle.qx_queues.proofs.PulseLemmas.{pulses-asked}
use Rattle.qx_queues.proofs.queues.Queues.ask_unblock.Goals as goal

pub unreachable-requires : goal.unreachable-requires
unreachable-requires c = nodes-there c.self.inside.nodes c.args.thread (sym c.at.ensures.own ∙ c.in_default.is) (rw (← c.self.view_is) at c.requires.own)

pub put_in-requires-clause-line : goal.put_in-requires-clause-line
put_in-requires-clause-line c = c.self.invariant.1.line c.number-number.result c.index_mut-line.result.now (slice_get_read c.self.inside.lines.items manager_count c.number-number.result c.index_mut-line.result.now (sym c.self.invariant.0) c.number-number.ensures.few c.index_mut-line.ensures.value)

pub put_in-requires-clause-free : goal.put_in-requires-clause-free
put_in-requires-clause-free c =
    let idle : (number : ℕ) → unblock_call (line_at (map (entries c.self.inside.table) c.self.inside.lines.items) number) c.args.thread ≡ None = rw (← c.self.view_is) at c.requires.idle in
    let has : node_of c.self.inside.nodes (Unblock c.args.thread) ≡ Some c.in-Some.own.unblock = ap (option_map (λ own. own.unblock)) (sym c.at.ensures.own ∙ c.in-Some.is) in
    IsFree-own pulse_call c.args.thread (Unblock c.args.thread) (reads-call c.args.thread) c.self.inside.table _ _ _ c.self.invariant.1 has (λ number. ap is_some (idle number)) (no_call-unblock c.self.inside.table _ _ c.args.thread _ c.self.invariant.1 has)

pub invariant_of-self : goal.invariant_of-self
invariant_of-self c =
    let placed : c.queued_unblock-pulse.result ≡ unblock_of c.args.thread c.args.call c.args.prio.0 = c.queued_unblock-pulse.ensures.pulse in
    let is : slice_get c.self.inside.lines.items c.number-number.result ≡ Some c.index_mut-line.result.now = slice_get_read c.self.inside.lines.items manager_count c.number-number.result c.index_mut-line.result.now (sym c.self.invariant.0) c.number-number.ensures.few c.index_mut-line.ensures.value in
    let has : node_of c.self.inside.nodes (Unblock c.args.thread) ≡ Some c.in-Some.own.unblock = ap (option_map (λ own. own.unblock)) (sym c.at.ensures.own ∙ c.in-Some.is) in
    let idle : (number : ℕ) → unblock_call (line_at (map (entries c.self.inside.table) c.self.inside.lines.items) number) c.args.thread ≡ None = rw (← c.self.view_is) at c.requires.idle in
    let free : IsFree c.self.inside.table c.in-Some.own.unblock = IsFree-own pulse_call c.args.thread (Unblock c.args.thread) (reads-call c.args.thread) c.self.inside.table _ _ _ c.self.invariant.1 has (λ number. ap is_some (idle number)) (no_call-unblock c.self.inside.table _ _ c.args.thread _ c.self.invariant.1 has) in
    let within : c.number-number.result < length (map (entries c.self.inside.table) c.self.inside.lines.items) = omega (arith, length-map c.self.inside.lines.items (entries c.self.inside.table), c.self.invariant.0, c.number-number.ensures.few) in
    let shown : map (entries c.put_in.new.table) (slice_set c.self.inside.lines.items c.number-number.result c.put_in.new.line) ≡ with_line (map (entries c.self.inside.table) c.self.inside.lines.items) c.number-number.result (λ line. into rank line (unblock_of c.args.thread c.args.call c.args.prio.0)) = rw (← placed) (shown-put c.self.inside.table _ _ c.number-number.result _ _ _ (Unblock c.args.thread) _ _ c.self.invariant.1 is has free c.put_in.ensures.put) in
    let kept : AreListsOfTable c.put_in.new.table (slice_set c.self.inside.lines.items c.number-number.result c.put_in.new.line) c.self.inside.answered (node_of c.self.inside.nodes) = Kept-put c.self.inside.table _ _ c.number-number.result _ _ _ (Unblock c.args.thread) _ _ c.self.invariant.1 is has free c.put_in.ensures.put (rw c.queued_unblock-pulse.ensures.pulse refl) refl refl in (
      length-set c.self.inside.lines.items c.number-number.result c.put_in.new.line ∙ c.self.invariant.0,
      Kept-owners _ _ _ _ c.set_asked.ensures.asked.nodes kept,
      rw shown (pulses-asked _ c.number-number.result _ within c.self.invariant.2 rank c.args.thread c.args.call c.args.prio.0 _ c.set_asked.ensures.asked.others (c.set_asked.ensures.asked.here ∙ ap Some (sym c.number-number.ensures.number)) idle),
      remarked _ c.marked-self-inside.result _ c.number-number.result _ _ _ refl is c.self.invariant.3 (c.marked-self-inside.ensures.set ∙ sym (has_one _ _ _ _ _ _ c.put_in.ensures.put)) c.marked-self-inside.ensures.others,
    )

pub returns : goal.returns
returns c =
    let placed : c.queued_unblock-pulse.result ≡ unblock_of c.args.thread c.args.call c.args.prio.0 = c.queued_unblock-pulse.ensures.pulse in
    let is : slice_get c.self.inside.lines.items c.number-number.result ≡ Some c.index_mut-line.result.now = slice_get_read c.self.inside.lines.items manager_count c.number-number.result c.index_mut-line.result.now (sym c.self.invariant.0) c.number-number.ensures.few c.index_mut-line.ensures.value in
    let has : node_of c.self.inside.nodes (Unblock c.args.thread) ≡ Some c.in-Some.own.unblock = ap (option_map (λ own. own.unblock)) (sym c.at.ensures.own ∙ c.in-Some.is) in
    let idle : (number : ℕ) → unblock_call (line_at (map (entries c.self.inside.table) c.self.inside.lines.items) number) c.args.thread ≡ None = rw (← c.self.view_is) at c.requires.idle in
    let free : IsFree c.self.inside.table c.in-Some.own.unblock = IsFree-own pulse_call c.args.thread (Unblock c.args.thread) (reads-call c.args.thread) c.self.inside.table _ _ _ c.self.invariant.1 has (λ number. ap is_some (idle number)) (no_call-unblock c.self.inside.table _ _ c.args.thread _ c.self.invariant.1 has) in
    let calls = calls-put c.self.inside.table _ _ c.number-number.result _ _ _ (Unblock c.args.thread) _ _ c.self.invariant.1 is has free c.put_in.ensures.put in
    rw (← c.self.view_is, ← c.number-number.ensures.number, ← placed) (record { asked = same_queues (shown-put c.self.inside.table _ _ c.number-number.result _ _ _ (Unblock c.args.thread) _ _ c.self.invariant.1 is has free c.put_in.ensures.put) c.set_asked.ensures.asked.threads c.set_asked.ensures.asked.servers c.set_asked.ensures.asked.users c.put_in.ensures.put.room calls.waiting calls.given })
