use Rattle.std.proofs.Common.{◌≡◌, ◌<◌, ℕ, Some, None, length, drop, map, slice_get, sym, ◌∙◌, ap, refl, arith}
use Rattle.std.proofs.lemmas.List.{length-map, length-set}
use Rattle.std.proofs.lemmas.Option.{same_Some, slice_get_read}
use Rattle.qx_types.specs.Managers.{manager_count}
use Rattle.qx_types.specs.declared.names.Thread.{Thread}
use Rattle.qx_lines.proofs.LineFacts.{nodes_in-distinct}
use Rattle.qx_isolation.specs.Lines.{line_at}
use Rattle.qx_queues.specs.Queues.{IsGone, nodes_freed, nodes_freed_by, pulse_call, sender, sender_of, unblock_call}
use Rattle.qx_queues.specs.inner.Kept.{entries, entry_of_node, owner_in}
use Rattle.qx_queues.specs.Nodes.{Unblock}
use Rattle.qx_queues.specs.Waiting.{rank_of}
use Rattle.qx_queues.proofs.KeptLemmas.{Kept-first, Kept-freed, Kept-owners, calls-freed, calls-taken, entries-freed, first-owned, gone-if, line_at-shown, nobodys-disconnect, shown-first, shown-kept}
use Rattle.qx_queues.proofs.LineLemmas.{gone-pulse}
use Rattle.qx_queues.proofs.MarkLemmas.{remarked}
use Rattle.qx_queues.proofs.PresenceLemmas.{nodes-some, same_queues}
use Rattle.qx_queues.proofs.TableLemmas.{none_some}
use Rattle.qx_queues.proofs.PulseLemmas.{pulses-taken, pulses-received}
use Rattle.qx_queues.proofs.queues.Queues.receive.Goals as goal

abbrev thread_in : ℕ → ℕ → ℕ → Thread
thread_in user process thread = record { proc = record { user = record { 0 = user }; num = process }; tid = thread }

pub take_out-requires-clause-line : goal.take_out-requires-clause-line
take_out-requires-clause-line c = c.self.invariant.1.line c.number-number.result c.index_mut-line.result.now (slice_get_read c.self.inside.lines.items manager_count c.number-number.result c.index_mut-line.result.now (sym c.self.invariant.0) c.number-number.ensures.few c.index_mut-line.ensures.value)

pub invariant_of-self : goal.invariant_of-self
invariant_of-self c =
    let is : slice_get c.self.inside.lines.items c.number-number.result ≡ Some c.index_mut-line.result.now = slice_get_read c.self.inside.lines.items manager_count c.number-number.result c.index_mut-line.result.now (sym c.self.invariant.0) c.number-number.ensures.few c.index_mut-line.ensures.value in
    let within : c.number-number.result < length (map (entries c.self.inside.table) c.self.inside.lines.items) = omega (arith, length-map c.self.inside.lines.items (entries c.self.inside.table), c.self.invariant.0, c.number-number.ensures.few) in (
      length-set c.self.inside.lines.items c.number-number.result c.take_out.new.line ∙ c.self.invariant.0,
      Kept-first c.self.inside.table _ _ c.number-number.result _ _ _ c.self.invariant.1 is c.take_out.ensures.out,
      rw (shown-first c.self.inside.table _ _ c.number-number.result _ _ _ c.self.invariant.1 is c.take_out.ensures.out) (pulses-received _ c.number-number.result _ within c.self.invariant.2 (λ first at. absurd (none_some first _ (ap (λ l. slice_get l 0) (line_at-shown c.self.inside.table _ c.number-number.result _ is) ∙ sym c.in_err-node.ensures.first) at))),
      remarked _ c.take_out.new.marks _ c.number-number.result _ _ _ refl is c.self.invariant.3 c.take_out.ensures.mark c.take_out.ensures.others,
    )

pub returns-in_err-node-clause-rest : goal.returns-in_err-node-clause-rest
returns-in_err-node-clause-rest c =
    let is : slice_get c.self.inside.lines.items c.number-number.result ≡ Some c.index_mut-line.result.now = slice_get_read c.self.inside.lines.items manager_count c.number-number.result c.index_mut-line.result.now (sym c.self.invariant.0) c.number-number.ensures.few c.index_mut-line.ensures.value in
    let calls = calls-taken c.self.inside.table _ _ c.number-number.result _ _ (drop 1) _ c.self.invariant.1 is c.take_out.ensures.out in
    let freed = ap nodes_freed (ap (λ l. slice_get l 0) (line_at-shown c.self.inside.table _ c.number-number.result _ is) ∙ sym c.in_err-node.ensures.first) in
    rw (← c.self.view_is, ← c.number-number.ensures.number) (same_queues (shown-first c.self.inside.table _ _ c.number-number.result _ _ _ c.self.invariant.1 is c.take_out.ensures.out) refl refl refl (omega (arith, c.take_out.ensures.out.elsewhere.room, freed)) calls.waiting calls.given)

pub invariant_of-self-in-Message : goal.invariant_of-self-in-Message
invariant_of-self-in-Message c =
    let is : slice_get c.self.inside.lines.items c.number-number.result ≡ Some c.index_mut-line.result.now = slice_get_read c.self.inside.lines.items manager_count c.number-number.result c.index_mut-line.result.now (sym c.self.invariant.0) c.number-number.ensures.few c.index_mut-line.ensures.value in
    let within : c.number-number.result < length (map (entries c.self.inside.table) c.self.inside.lines.items) = omega (arith, length-map c.self.inside.lines.items (entries c.self.inside.table), c.self.invariant.0, c.number-number.ensures.few) in
    let first : slice_get (line_at (map (entries c.self.inside.table) c.self.inside.lines.items) c.number-number.result) 0 ≡ Some c.in_ok-node.first = ap (λ l. slice_get l 0) (line_at-shown c.self.inside.table _ c.number-number.result _ is) ∙ sym c.in_ok-node.ensures.first in (
      length-set c.self.inside.lines.items c.number-number.result c.take_out.new.line ∙ c.self.invariant.0,
      Kept-first c.self.inside.table _ _ c.number-number.result _ _ _ c.self.invariant.1 is c.take_out.ensures.out,
      rw (shown-first c.self.inside.table _ _ c.number-number.result _ _ _ c.self.invariant.1 is c.take_out.ensures.out) (pulses-received _ c.number-number.result _ within c.self.invariant.2 (λ other at. ap (λ entry. pulse_call entry.item) (same_Some other c.in_ok-node.first (sym at ∙ first)) ∙ ap pulse_call c.in-Message.is)),
      remarked _ c.take_out.new.marks _ c.number-number.result _ _ _ refl is c.self.invariant.3 c.take_out.ensures.mark c.take_out.ensures.others,
    )

pub returns-in-Message-clause-first : goal.returns-in-Message-clause-first
returns-in-Message-clause-first c =
    let is : slice_get c.self.inside.lines.items c.number-number.result ≡ Some c.index_mut-line.result.now = slice_get_read c.self.inside.lines.items manager_count c.number-number.result c.index_mut-line.result.now (sym c.self.invariant.0) c.number-number.ensures.few c.index_mut-line.ensures.value in
    rw (← c.self.view_is, ← c.number-number.ensures.number, line_at-shown c.self.inside.table _ c.number-number.result _ is) c.in_ok-node.ensures.first

pub returns-in-Message-clause-rest : goal.returns-in-Message-clause-rest
returns-in-Message-clause-rest c =
    let is : slice_get c.self.inside.lines.items c.number-number.result ≡ Some c.index_mut-line.result.now = slice_get_read c.self.inside.lines.items manager_count c.number-number.result c.index_mut-line.result.now (sym c.self.invariant.0) c.number-number.ensures.few c.index_mut-line.ensures.value in
    let calls = calls-taken c.self.inside.table _ _ c.number-number.result _ _ (drop 1) _ c.self.invariant.1 is c.take_out.ensures.out in
    let first : slice_get (line_at (map (entries c.self.inside.table) c.self.inside.lines.items) c.number-number.result) 0 ≡ Some c.in_ok-node.first = ap (λ l. slice_get l 0) (line_at-shown c.self.inside.table _ c.number-number.result _ is) ∙ sym c.in_ok-node.ensures.first in
    let freed = ap nodes_freed first ∙ ap nodes_freed_by c.in-Message.is in
    rw (← c.self.view_is, ← c.number-number.ensures.number) (same_queues (shown-first c.self.inside.table _ _ c.number-number.result _ _ _ c.self.invariant.1 is c.take_out.ensures.out) refl refl refl (omega (arith, c.take_out.ensures.out.elsewhere.room, freed)) calls.waiting calls.given)

pub returns-in-Message-clause-gone : goal.returns-in-Message-clause-gone
returns-in-Message-clause-gone c =
    let is : slice_get c.self.inside.lines.items c.number-number.result ≡ Some c.index_mut-line.result.now = slice_get_read c.self.inside.lines.items manager_count c.number-number.result c.index_mut-line.result.now (sym c.self.invariant.0) c.number-number.ensures.few c.index_mut-line.ensures.value in
    rw (← c.self.view_is, ← c.number-number.ensures.number, line_at-shown c.self.inside.table _ c.number-number.result _ is) (gone-if c.self.inside.table _ _ c.index_mut-line.result.now c.self.invariant.1 (Some c.in_ok-node.first) (nodes_in-distinct rank_of _ _ (c.self.invariant.1.line _ _ is) c.know.ensures.distinct) c.in_ok-node.ensures.first)

pub set_asked-requires : goal.set_asked-requires
set_asked-requires c =
    let pulse : owner_in (sender c.in_ok-node.first) c.in_ok-node.first.item ≡ Unblock (thread_in c.in_ok-node.first.user.0 c.in-Unblock.process c.in-Unblock.thread) = ap (λ it. owner_in (sender_of c.in_ok-node.first.user.0 it) it) c.in-Unblock.is in
    let own = first-owned c.self.inside.table _ _ c.index_mut-line.result.now c.self.invariant.1 c.in_ok-node.first c.in_ok-node.ensures.first _ refl pulse in
    record { there = nodes-some (λ own. own.unblock) _ own.0 own.1 }

pub invariant_of-self-in-Unblock : goal.invariant_of-self-in-Unblock
invariant_of-self-in-Unblock c =
    let is : slice_get c.self.inside.lines.items c.number-number.result ≡ Some c.index_mut-line.result.now = slice_get_read c.self.inside.lines.items manager_count c.number-number.result c.index_mut-line.result.now (sym c.self.invariant.0) c.number-number.ensures.few c.index_mut-line.ensures.value in
    let within : c.number-number.result < length (map (entries c.self.inside.table) c.self.inside.lines.items) = omega (arith, length-map c.self.inside.lines.items (entries c.self.inside.table), c.self.invariant.0, c.number-number.ensures.few) in
    let first : slice_get (line_at (map (entries c.self.inside.table) c.self.inside.lines.items) c.number-number.result) 0 ≡ Some c.in_ok-node.first = ap (λ l. slice_get l 0) (line_at-shown c.self.inside.table _ c.number-number.result _ is) ∙ sym c.in_ok-node.ensures.first in
    let pulse : sender c.in_ok-node.first ≡ thread_in c.in_ok-node.first.user.0 c.in-Unblock.process c.in-Unblock.thread = ap (sender_of c.in_ok-node.first.user.0) c.in-Unblock.is in
    let gone : IsGone c.in_ok-node.first (drop 1 (entries c.self.inside.table c.index_mut-line.result.now)) = gone-if c.self.inside.table _ _ c.index_mut-line.result.now c.self.invariant.1 (Some c.in_ok-node.first) (nodes_in-distinct rank_of _ _ (c.self.invariant.1.line _ _ is) c.know.ensures.distinct) c.in_ok-node.ensures.first in
    let none : unblock_call (drop 1 (entries c.self.inside.table c.index_mut-line.result.now)) (sender c.in_ok-node.first) ≡ None = gone-pulse c.in_ok-node.first.item (sender c.in_ok-node.first) _ _ (ap pulse_call c.in-Unblock.is) gone in (
      length-set c.self.inside.lines.items c.number-number.result c.take_out.new.line ∙ c.self.invariant.0,
      Kept-owners _ _ _ _ c.set_asked.ensures.asked.nodes (Kept-first c.self.inside.table _ _ c.number-number.result _ _ _ c.self.invariant.1 is c.take_out.ensures.out),
      rw (shown-first c.self.inside.table _ _ c.number-number.result _ _ _ c.self.invariant.1 is c.take_out.ensures.out) (pulses-taken _ c.number-number.result _ within c.self.invariant.2 c.in_ok-node.first c.in-Unblock.call _ first (ap pulse_call c.in-Unblock.is)
          (λ other differs. c.set_asked.ensures.asked.others other (λ same. differs (same ∙ sym pulse)))
          (rw pulse c.set_asked.ensures.asked.here) (ap (λ l. unblock_call (drop 1 l) (sender c.in_ok-node.first)) (line_at-shown c.self.inside.table _ c.number-number.result _ is) ∙ none)),
      remarked _ c.take_out.new.marks _ c.number-number.result _ _ _ refl is c.self.invariant.3 c.take_out.ensures.mark c.take_out.ensures.others,
    )

pub returns-in-Unblock-clause-rest : goal.returns-in-Unblock-clause-rest
returns-in-Unblock-clause-rest c =
    let is : slice_get c.self.inside.lines.items c.number-number.result ≡ Some c.index_mut-line.result.now = slice_get_read c.self.inside.lines.items manager_count c.number-number.result c.index_mut-line.result.now (sym c.self.invariant.0) c.number-number.ensures.few c.index_mut-line.ensures.value in
    let calls = calls-taken c.self.inside.table _ _ c.number-number.result _ _ (drop 1) _ c.self.invariant.1 is c.take_out.ensures.out in
    let first : slice_get (line_at (map (entries c.self.inside.table) c.self.inside.lines.items) c.number-number.result) 0 ≡ Some c.in_ok-node.first = ap (λ l. slice_get l 0) (line_at-shown c.self.inside.table _ c.number-number.result _ is) ∙ sym c.in_ok-node.ensures.first in
    let freed = ap nodes_freed first ∙ ap nodes_freed_by c.in-Unblock.is in
    rw (← c.self.view_is, ← c.number-number.ensures.number) (same_queues (shown-first c.self.inside.table _ _ c.number-number.result _ _ _ c.self.invariant.1 is c.take_out.ensures.out) c.set_asked.ensures.asked.threads c.set_asked.ensures.asked.servers c.set_asked.ensures.asked.users (omega (arith, c.take_out.ensures.out.elsewhere.room, freed)) calls.waiting calls.given)

pub returns-in-Unblock-clause-gone : goal.returns-in-Unblock-clause-gone
returns-in-Unblock-clause-gone c =
    let is : slice_get c.self.inside.lines.items c.number-number.result ≡ Some c.index_mut-line.result.now = slice_get_read c.self.inside.lines.items manager_count c.number-number.result c.index_mut-line.result.now (sym c.self.invariant.0) c.number-number.ensures.few c.index_mut-line.ensures.value in
    rw (← c.self.view_is, ← c.number-number.ensures.number, line_at-shown c.self.inside.table _ c.number-number.result _ is) (gone-if c.self.inside.table _ _ c.index_mut-line.result.now c.self.invariant.1 (Some c.in_ok-node.first) (nodes_in-distinct rank_of _ _ (c.self.invariant.1.line _ _ is) c.know.ensures.distinct) c.in_ok-node.ensures.first)

pub invariant_of-self-in-Disconnect : goal.invariant_of-self-in-Disconnect
invariant_of-self-in-Disconnect c =
    let is : slice_get c.self.inside.lines.items c.number-number.result ≡ Some c.index_mut-line.result.now = slice_get_read c.self.inside.lines.items manager_count c.number-number.result c.index_mut-line.result.now (sym c.self.invariant.0) c.number-number.ensures.few c.index_mut-line.ensures.value in
    let within : c.number-number.result < length (map (entries c.self.inside.table) c.self.inside.lines.items) = omega (arith, length-map c.self.inside.lines.items (entries c.self.inside.table), c.self.invariant.0, c.number-number.ensures.few) in
    let first : slice_get (line_at (map (entries c.self.inside.table) c.self.inside.lines.items) c.number-number.result) 0 ≡ Some c.in_ok-node.first = ap (λ l. slice_get l 0) (line_at-shown c.self.inside.table _ c.number-number.result _ is) ∙ sym c.in_ok-node.ensures.first in
    let nobodys = nobodys-disconnect (entry_of_node c.take_out.new.table c.in_ok-node.node) _ _ (ap (λ entry. entry.item) c.in_ok-node.ensures.entry ∙ c.in-Disconnect.is) in
    let shown = shown-kept c.take_out.new.table c.give_back.new.table _ (entries-freed c.take_out.new.table _ c.in_ok-node.node _ c.give_back.ensures.freed c.in_ok-node.ensures.free) ∙ shown-first c.self.inside.table _ _ c.number-number.result _ _ _ c.self.invariant.1 is c.take_out.ensures.out in (
      length-set c.self.inside.lines.items c.number-number.result c.take_out.new.line ∙ c.self.invariant.0,
      Kept-freed c.take_out.new.table _ c.in_ok-node.node _ c.give_back.ensures.freed c.in_ok-node.ensures.free _ _ (Kept-first c.self.inside.table _ _ c.number-number.result _ _ _ c.self.invariant.1 is c.take_out.ensures.out) nobodys,
      rw shown (pulses-received _ c.number-number.result _ within c.self.invariant.2 (λ other at. ap (λ entry. pulse_call entry.item) (same_Some other c.in_ok-node.first (sym at ∙ first)) ∙ ap pulse_call c.in-Disconnect.is)),
      remarked _ c.take_out.new.marks _ c.number-number.result _ _ _ refl is c.self.invariant.3 c.take_out.ensures.mark c.take_out.ensures.others,
    )

pub returns-in-Disconnect-clause-rest : goal.returns-in-Disconnect-clause-rest
returns-in-Disconnect-clause-rest c =
    let is : slice_get c.self.inside.lines.items c.number-number.result ≡ Some c.index_mut-line.result.now = slice_get_read c.self.inside.lines.items manager_count c.number-number.result c.index_mut-line.result.now (sym c.self.invariant.0) c.number-number.ensures.few c.index_mut-line.ensures.value in
    let calls = calls-taken c.self.inside.table _ _ c.number-number.result _ _ (drop 1) _ c.self.invariant.1 is c.take_out.ensures.out in
    let first : slice_get (line_at (map (entries c.self.inside.table) c.self.inside.lines.items) c.number-number.result) 0 ≡ Some c.in_ok-node.first = ap (λ l. slice_get l 0) (line_at-shown c.self.inside.table _ c.number-number.result _ is) ∙ sym c.in_ok-node.ensures.first in
    let kept = Kept-first c.self.inside.table _ _ c.number-number.result _ _ _ c.self.invariant.1 is c.take_out.ensures.out in
    let freed = ap nodes_freed first ∙ ap nodes_freed_by c.in-Disconnect.is in
    let room = ap (λ t. t.room) c.give_back.ensures.freed in
    let shown = shown-kept c.take_out.new.table c.give_back.new.table _ (entries-freed c.take_out.new.table _ c.in_ok-node.node _ c.give_back.ensures.freed c.in_ok-node.ensures.free) ∙ shown-first c.self.inside.table _ _ c.number-number.result _ _ _ c.self.invariant.1 is c.take_out.ensures.out in
    let still = calls-freed c.take_out.new.table _ c.in_ok-node.node _ c.give_back.ensures.freed c.in_ok-node.ensures.free _ c.self.inside.answered kept.off_lines in
    rw (← c.self.view_is, ← c.number-number.ensures.number) (same_queues shown refl refl refl (omega (arith, c.take_out.ensures.out.elsewhere.room, freed, room)) (still.waiting ∙ calls.waiting) (still.given ∙ calls.given))

pub returns-in-Unblock-clause-first : goal.returns-in-Unblock-clause-first
returns-in-Unblock-clause-first c =
    let is : slice_get c.self.inside.lines.items c.number-number.result ≡ Some c.index_mut-line.result.now = slice_get_read c.self.inside.lines.items manager_count c.number-number.result c.index_mut-line.result.now (sym c.self.invariant.0) c.number-number.ensures.few c.index_mut-line.ensures.value in
    rw (← c.self.view_is, ← c.number-number.ensures.number, line_at-shown c.self.inside.table _ c.number-number.result _ is) c.in_ok-node.ensures.first

pub returns-in-Disconnect-clause-first : goal.returns-in-Disconnect-clause-first
returns-in-Disconnect-clause-first c =
    let is : slice_get c.self.inside.lines.items c.number-number.result ≡ Some c.index_mut-line.result.now = slice_get_read c.self.inside.lines.items manager_count c.number-number.result c.index_mut-line.result.now (sym c.self.invariant.0) c.number-number.ensures.few c.index_mut-line.ensures.value in
    rw (← c.self.view_is, ← c.number-number.ensures.number, line_at-shown c.self.inside.table _ c.number-number.result _ is) c.in_ok-node.ensures.first
