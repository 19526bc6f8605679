use Rattle.std.proofs.Common.{◌≡◌, ◌≢◌, ◌<◌, Some, None, length, map, slice_get, slice_set, sym, ◌∙◌, ap, refl, arith}
use Rattle.std.proofs.lemmas.List.{length-map, length-set}
use Rattle.std.proofs.lemmas.Option.{slice_get_read}
use Rattle.qx_types.specs.Managers.{manager_count, manager_number}
use Rattle.qx_isolation.specs.Lines.{into, with_line}
use Rattle.qx_machine.specs.Machine.{rank}
use Rattle.qx_queues.specs.Queues.{disconnect_of}
use Rattle.qx_queues.specs.inner.Kept.{entries, named}
use Rattle.qx_queues.specs.Nodes.{Disconnect, asked_in, disconnect_at}
use Rattle.qx_queues.proofs.KeptLemmas.{IsFree-disconnect, Kept-lost, calls-put, nobodys-disconnect, shown-put}
use Rattle.qx_queues.proofs.NodesLemmas.{length-with_disconnect, node_of-with_disconnect, nodes_at-with_disconnect, started-server}
use Rattle.qx_queues.proofs.MarkLemmas.{has_one, remarked}
use Rattle.qx_queues.proofs.PresenceLemmas.{same_queues, servers-freed, servers-nodes, threads-with_disconnect}
use Rattle.qx_queues.proofs.PulseLemmas.{KnowsPulses-same, pulses-disconnected}
use Rattle.qx_queues.proofs.TableLemmas.{absent_is}
use Rattle.qx_queues.proofs.queues.Queues.disconnect.Goals as goal

pub unreachable-requires : goal.unreachable-requires
unreachable-requires c = absent_is _ (sym (servers-nodes c.self.inside.nodes c.args.proc (manager_number c.args.server.manager)) ∙ rw (← c.self.view_is) at c.requires.there) (sym (rw c.number-number.ensures.number at c.disconnect.ensures.node) ∙ c.in_default.is)

pub put_in-requires-clause-line : goal.put_in-requires-clause-line
put_in-requires-clause-line c = c.self.invariant.1.line c.number-number.result c.index_mut-line.result.now (slice_get_read c.self.inside.lines.items manager_count c.number-number.result c.index_mut-line.result.now (sym c.self.invariant.0) c.number-number.ensures.few c.index_mut-line.ensures.value)

pub put_in-requires-clause-free : goal.put_in-requires-clause-free
put_in-requires-clause-free c = IsFree-disconnect c.self.inside.table _ _ c.args.proc (manager_number c.args.server.manager) c.in-Some.node c.self.invariant.1 (sym (rw c.number-number.ensures.number at c.disconnect.ensures.node) ∙ c.in-Some.is)

pub invariant_of-self : goal.invariant_of-self
invariant_of-self c =
    let placed : c.queued_disconnect-pulse.result ≡ disconnect_of c.args.proc c.args.server c.args.prio.0 = c.queued_disconnect-pulse.ensures.pulse in
    let is : slice_get c.self.inside.lines.items c.number-number.result ≡ Some c.index_mut-line.result.now = slice_get_read c.self.inside.lines.items manager_count c.number-number.result c.index_mut-line.result.now (sym c.self.invariant.0) c.number-number.ensures.few c.index_mut-line.ensures.value in
    let had : disconnect_at c.self.inside.nodes c.args.proc (manager_number c.args.server.manager) ≡ Some c.in-Some.node = sym (rw c.number-number.ensures.number at c.disconnect.ensures.node) ∙ c.in-Some.is in
    let free = IsFree-disconnect c.self.inside.table _ _ c.args.proc (manager_number c.args.server.manager) c.in-Some.node c.self.invariant.1 had in
    let gone = rw (rw c.number-number.ensures.number at c.set_disconnect.ensures.set) at (rw c.number-number.ensures.number at c.set_disconnect.ensures.there) (started-server c.self.inside.nodes c.args.proc _ _ had) in
    let within : c.number-number.result < length (map (entries c.self.inside.table) c.self.inside.lines.items) = omega (arith, length-map c.self.inside.lines.items (entries c.self.inside.table), c.self.invariant.0, c.number-number.ensures.few) in
    let shown : map (entries c.put_in.new.table) (slice_set c.self.inside.lines.items c.number-number.result c.put_in.new.line) ≡ with_line (map (entries c.self.inside.table) c.self.inside.lines.items) c.number-number.result (λ line. into rank line (disconnect_of c.args.proc c.args.server c.args.prio.0)) = rw (← placed) (shown-put c.self.inside.table _ _ c.number-number.result _ _ _ (Disconnect c.args.proc (manager_number c.args.server.manager)) _ _ c.self.invariant.1 is had free c.put_in.ensures.put) in
    let nobodys = nobodys-disconnect c.queued_disconnect-pulse.result _ _ (ap (λ entry. entry.item) placed) in
    let lost : named (Disconnect c.args.proc (manager_number c.args.server.manager)) ≢ Disconnect c.args.proc (manager_number c.args.server.manager) = λ same. cc in (
      length-set c.self.inside.lines.items c.number-number.result c.put_in.new.line ∙ c.self.invariant.0,
      rw (rw c.number-number.ensures.number at c.set_disconnect.ensures.set) (Kept-lost c.self.inside.table _ _ c.number-number.result _ _ _ (Disconnect c.args.proc (manager_number c.args.server.manager)) _ _ c.self.invariant.1 is had free c.put_in.ensures.put _ gone (node_of-with_disconnect c.self.inside.nodes c.args.proc (manager_number c.args.server.manager) None) lost nobodys refl),
      KnowsPulses-same _ _ _ _ shown (λ thread. rw (rw c.number-number.ensures.number at c.set_disconnect.ensures.set) (ap asked_in (nodes_at-with_disconnect c.self.inside.nodes c.args.proc (manager_number c.args.server.manager) None thread))) (pulses-disconnected _ c.number-number.result _ within c.self.invariant.2 rank c.args.proc c.args.server c.args.prio.0),
      remarked _ c.marked-self-inside.result _ c.number-number.result _ _ _ refl is c.self.invariant.3 (c.marked-self-inside.ensures.set ∙ sym (has_one _ _ _ _ _ _ c.put_in.ensures.put)) c.marked-self-inside.ensures.others,
    )

pub returns : goal.returns
returns c =
    let placed : c.queued_disconnect-pulse.result ≡ disconnect_of c.args.proc c.args.server c.args.prio.0 = c.queued_disconnect-pulse.ensures.pulse in
    let is : slice_get c.self.inside.lines.items c.number-number.result ≡ Some c.index_mut-line.result.now = slice_get_read c.self.inside.lines.items manager_count c.number-number.result c.index_mut-line.result.now (sym c.self.invariant.0) c.number-number.ensures.few c.index_mut-line.ensures.value in
    let had : disconnect_at c.self.inside.nodes c.args.proc (manager_number c.args.server.manager) ≡ Some c.in-Some.node = sym (rw c.number-number.ensures.number at c.disconnect.ensures.node) ∙ c.in-Some.is in
    let free = IsFree-disconnect c.self.inside.table _ _ c.args.proc (manager_number c.args.server.manager) c.in-Some.node c.self.invariant.1 had in
    let gone = rw (rw c.number-number.ensures.number at c.set_disconnect.ensures.set) at (rw c.number-number.ensures.number at c.set_disconnect.ensures.there) (started-server c.self.inside.nodes c.args.proc _ _ had) in
    let shown : map (entries c.put_in.new.table) (slice_set c.self.inside.lines.items c.number-number.result c.put_in.new.line) ≡ with_line (map (entries c.self.inside.table) c.self.inside.lines.items) c.number-number.result (λ line. into rank line (disconnect_of c.args.proc c.args.server c.args.prio.0)) = rw (← placed) (shown-put c.self.inside.table _ _ c.number-number.result _ _ _ (Disconnect c.args.proc (manager_number c.args.server.manager)) _ _ c.self.invariant.1 is had free c.put_in.ensures.put) in
    let calls = calls-put c.self.inside.table _ _ c.number-number.result _ _ _ (Disconnect c.args.proc (manager_number c.args.server.manager)) _ _ c.self.invariant.1 is had free c.put_in.ensures.put in
    rw (← c.self.view_is, (rw c.number-number.ensures.number at c.set_disconnect.ensures.set)) (record { disconnected = same_queues (shown ∙ ap (λ number. with_line (map (entries c.self.inside.table) c.self.inside.lines.items) number (λ line. into rank line (disconnect_of c.args.proc c.args.server c.args.prio.0))) c.number-number.ensures.number) (threads-with_disconnect c.self.inside.nodes c.args.proc (manager_number c.args.server.manager) None) (servers-freed c.self.inside.nodes c.args.proc (manager_number c.args.server.manager) None refl gone) (length-with_disconnect c.self.inside.nodes c.args.proc (manager_number c.args.server.manager) None) c.put_in.ensures.put.room calls.waiting calls.given })
