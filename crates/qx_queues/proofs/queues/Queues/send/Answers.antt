use Rattle.std.proofs.Common.{◌≡◌, ◌<◌, Some, length, option_map, map, slice_get, slice_set, sym, ◌∙◌, ap, refl, arith}
use Rattle.std.proofs.lemmas.List.{length-map, length-set}
use Rattle.std.proofs.lemmas.Option.{slice_get_read}
use Rattle.qx_types.specs.Managers.{manager_count}
use Rattle.qx_lists.specs.Table.{IsFree}
use Rattle.qx_isolation.specs.Lines.{into, with_line}
use Rattle.qx_machine.specs.Machine.{rank}
use Rattle.qx_queues.specs.Queues.{as_message, message_of}
use Rattle.qx_queues.specs.inner.Kept.{PutIn, entries}
use Rattle.qx_queues.specs.Nodes.{Message, node_of}
use Rattle.qx_queues.specs.Waiting.{idle}
use Rattle.qx_queues.proofs.EntryLemmas.{reads-message}
use Rattle.qx_queues.proofs.KeptLemmas.{IsFree-own, Kept-put, calls-put, no_call-message, ranked-message, shown-put}
use Rattle.qx_queues.proofs.MarkLemmas.{has_one, remarked}
use Rattle.qx_queues.proofs.PresenceLemmas.{nodes-known, same_queues}
use Rattle.qx_queues.proofs.PulseLemmas.{pulses-sent}
use Rattle.qx_queues.proofs.queues.Queues.send.Goals as goal

pub there-requires : goal.there-requires
there-requires c = record { there = nodes-known c.self.inside.nodes c.args.thread (rw (← c.self.view_is) at c.requires.own) }

pub put_again-requires-clause-line : goal.put_again-requires-clause-line
put_again-requires-clause-line c = c.self.invariant.1.line c.number-number.result c.index_mut-line.result.now (slice_get_read c.self.inside.lines.items manager_count c.number-number.result c.index_mut-line.result.now (sym c.self.invariant.0) c.number-number.ensures.few c.index_mut-line.ensures.value)

pub put_again-requires-clause-free : goal.put_again-requires-clause-free
put_again-requires-clause-free c =
    let has : node_of c.self.inside.nodes (Message c.args.thread) ≡ Some c.there.result.now.message = ap (option_map (λ own. own.message)) c.there.ensures.own in
    IsFree-own as_message c.args.thread (Message c.args.thread) (reads-message c.args.thread) c.self.inside.table _ _ _ c.self.invariant.1 has (rw (← c.self.view_is) at c.requires.idle) (no_call-message c.self.inside.table _ _ c.args.thread _ c.self.invariant.1 has (rw (← c.self.view_is) at c.requires.no_call.waiting) (rw (← c.self.view_is) at c.requires.no_call.answered))

pub invariant_of-self : goal.invariant_of-self
invariant_of-self c =
    let is : slice_get c.self.inside.lines.items c.number-number.result ≡ Some c.index_mut-line.result.now = slice_get_read c.self.inside.lines.items manager_count c.number-number.result c.index_mut-line.result.now (sym c.self.invariant.0) c.number-number.ensures.few c.index_mut-line.ensures.value in
    let has : node_of c.self.inside.nodes (Message c.args.thread) ≡ Some c.there.result.now.message = ap (option_map (λ own. own.message)) c.there.ensures.own in
    let free : IsFree c.self.inside.table c.there.result.now.message = IsFree-own as_message c.args.thread (Message c.args.thread) (reads-message c.args.thread) c.self.inside.table _ _ _ c.self.invariant.1 has (rw (← c.self.view_is) at c.requires.idle) (no_call-message c.self.inside.table _ _ c.args.thread _ c.self.invariant.1 has (rw (← c.self.view_is) at c.requires.no_call.waiting) (rw (← c.self.view_is) at c.requires.no_call.answered)) in
    let put : PutIn c.self.inside.table c.put_again.new.table c.index_mut-line.result.now c.put_again.new.line c.there.result.now.message (idle (message_of c.args.thread c.args.prio.0)) = rw (ranked-message c.self.inside.table _ _ c.args.thread _ c.self.invariant.1 has free c.args.prio) at c.put_again.ensures.put in
    let within : c.number-number.result < length (map (entries c.self.inside.table) c.self.inside.lines.items) = omega (arith, length-map c.self.inside.lines.items (entries c.self.inside.table), c.self.invariant.0, c.number-number.ensures.few) in
    let shown : map (entries c.put_again.new.table) (slice_set c.self.inside.lines.items c.number-number.result c.put_again.new.line) ≡ with_line (map (entries c.self.inside.table) c.self.inside.lines.items) c.number-number.result (λ line. into rank line (message_of c.args.thread c.args.prio.0)) = shown-put c.self.inside.table _ _ c.number-number.result _ _ _ (Message c.args.thread) _ _ c.self.invariant.1 is has free put in (
      length-set c.self.inside.lines.items c.number-number.result c.put_again.new.line ∙ c.self.invariant.0,
      Kept-put c.self.inside.table _ _ c.number-number.result _ _ _ (Message c.args.thread) _ _ c.self.invariant.1 is has free put refl refl refl,
      rw shown (pulses-sent _ c.number-number.result _ within c.self.invariant.2 rank c.args.thread c.args.prio.0),
      remarked _ c.marked-self-inside.result _ c.number-number.result _ _ _ refl is c.self.invariant.3 (c.marked-self-inside.ensures.set ∙ sym (has_one _ _ _ _ _ _ put)) c.marked-self-inside.ensures.others,
    )

pub returns : goal.returns
returns c =
    let is : slice_get c.self.inside.lines.items c.number-number.result ≡ Some c.index_mut-line.result.now = slice_get_read c.self.inside.lines.items manager_count c.number-number.result c.index_mut-line.result.now (sym c.self.invariant.0) c.number-number.ensures.few c.index_mut-line.ensures.value in
    let has : node_of c.self.inside.nodes (Message c.args.thread) ≡ Some c.there.result.now.message = ap (option_map (λ own. own.message)) c.there.ensures.own in
    let free : IsFree c.self.inside.table c.there.result.now.message = IsFree-own as_message c.args.thread (Message c.args.thread) (reads-message c.args.thread) c.self.inside.table _ _ _ c.self.invariant.1 has (rw (← c.self.view_is) at c.requires.idle) (no_call-message c.self.inside.table _ _ c.args.thread _ c.self.invariant.1 has (rw (← c.self.view_is) at c.requires.no_call.waiting) (rw (← c.self.view_is) at c.requires.no_call.answered)) in
    let put : PutIn c.self.inside.table c.put_again.new.table c.index_mut-line.result.now c.put_again.new.line c.there.result.now.message (idle (message_of c.args.thread c.args.prio.0)) = rw (ranked-message c.self.inside.table _ _ c.args.thread _ c.self.invariant.1 has free c.args.prio) at c.put_again.ensures.put in
    let calls = calls-put c.self.inside.table _ _ c.number-number.result _ _ _ (Message c.args.thread) _ _ c.self.invariant.1 is has free put in
    rw (← c.self.view_is, ← c.number-number.ensures.number) (record { sent = same_queues (shown-put c.self.inside.table _ _ c.number-number.result _ _ _ (Message c.args.thread) _ _ c.self.invariant.1 is has free put) refl refl refl put.room calls.waiting calls.given })
