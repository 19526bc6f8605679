use Rattle.std.proofs.Common.{Some, option_map, sym, ap, ◌∙◌}
use Rattle.qx_notify.specs.inner.Kept.{event_at, given}
use Rattle.qx_notify.proofs.PulseLemmas.{first-is, queue-list, takes, takes-none}
use Rattle.qx_notify.proofs.all.AllEvents.take_pulse.Goals as goal

pub first-requires : goal.first-requires
first-requires c =
    let own = queue-list c.self.inside.table c.self.inside.lists.items c.self.inside.counts.items c.self.invariant c.args.proc.user.0 c.args.self.now c.self.view_is c.requires.user c.deref.result.now c.deref.ensures.value c.args.proc.num c.pulses_of-queue.result c.pulses_of-queue.ensures in
    own.there

pub returns-in_err-node-clause-first : goal.returns-in_err-node-clause-first
returns-in_err-node-clause-first c =
    let own = queue-list c.self.inside.table c.self.inside.lists.items c.self.inside.counts.items c.self.invariant c.args.proc.user.0 c.args.self.now c.self.view_is c.requires.user c.deref.result.now c.deref.ensures.value c.args.proc.num c.pulses_of-queue.result c.pulses_of-queue.ensures in
    rw (← c.self.view_is) (c.from_residual.ensures ∙ sym (first-is c.self.inside.table c.self.inside.lists.items c.self.inside.counts.items c.self.invariant c.args.proc.user.0 own.within c.args.proc.num c.pulses_of-queue.result own.is ∙ ap (option_map (λ node. given (event_at c.self.inside.table node))) (sym c.first.ensures ∙ c.in_err-node.was)))

pub returns-in_err-node-clause-rest : goal.returns-in_err-node-clause-rest
returns-in_err-node-clause-rest c =
    let own = queue-list c.self.inside.table c.self.inside.lists.items c.self.inside.counts.items c.self.invariant c.args.proc.user.0 c.args.self.now c.self.view_is c.requires.user c.deref.result.now c.deref.ensures.value c.args.proc.num c.pulses_of-queue.result c.pulses_of-queue.ensures in
    rw (← c.self.view_is) (takes-none c.self.inside.table c.self.inside.lists.items c.self.inside.counts.items c.self.invariant c.args.proc.user.0 own.within c.args.proc.num c.pulses_of-queue.result own.is (sym c.first.ensures ∙ c.in_err-node.was))

pub overflow_sub-index_mut : goal.overflow_sub-index_mut
overflow_sub-index_mut c =
    let own = queue-list c.self.inside.table c.self.inside.lists.items c.self.inside.counts.items c.self.invariant c.args.proc.user.0 c.args.self.now c.self.view_is c.requires.user c.deref.result.now c.deref.ensures.value c.args.proc.num c.pulses_of-queue.result c.pulses_of-queue.ensures in
    (takes c.self.inside.table c.self.inside.lists.items c.self.inside.counts.items c.self.invariant c.args.proc.user.0 own.within c.args.proc.num c.pulses_of-queue.result own.is c.in_ok-node.node c.index_mut.result.now c.know.ensures.distinct c.know.ensures.apart (sym c.first.ensures ∙ c.in_ok-node.was) c.index_mut.ensures.value).some

pub invariant_of-self : goal.invariant_of-self
invariant_of-self c =
    let own = queue-list c.self.inside.table c.self.inside.lists.items c.self.inside.counts.items c.self.invariant c.args.proc.user.0 c.args.self.now c.self.view_is c.requires.user c.deref.result.now c.deref.ensures.value c.args.proc.num c.pulses_of-queue.result c.pulses_of-queue.ensures in
    rw c.take_out-event.ensures.taken (takes c.self.inside.table c.self.inside.lists.items c.self.inside.counts.items c.self.invariant c.args.proc.user.0 own.within c.args.proc.num c.pulses_of-queue.result own.is c.in_ok-node.node c.index_mut.result.now c.know.ensures.distinct c.know.ensures.apart (sym c.first.ensures ∙ c.in_ok-node.was) c.index_mut.ensures.value).kept_is

pub returns-clause-first : goal.returns-clause-first
returns-clause-first c =
    let own = queue-list c.self.inside.table c.self.inside.lists.items c.self.inside.counts.items c.self.invariant c.args.proc.user.0 c.args.self.now c.self.view_is c.requires.user c.deref.result.now c.deref.ensures.value c.args.proc.num c.pulses_of-queue.result c.pulses_of-queue.ensures in
    rw (← c.self.view_is) ((λ i. Some (record { code = c.take_out-event.result.code; value = c.number_of.ensures i })) ∙ ap (λ event. Some (given event)) c.take_out-event.ensures.event ∙ sym (first-is c.self.inside.table c.self.inside.lists.items c.self.inside.counts.items c.self.invariant c.args.proc.user.0 own.within c.args.proc.num c.pulses_of-queue.result own.is ∙ ap (option_map (λ node. given (event_at c.self.inside.table node))) (sym c.first.ensures ∙ c.in_ok-node.was)))

pub returns-clause-rest : goal.returns-clause-rest
returns-clause-rest c =
    let own = queue-list c.self.inside.table c.self.inside.lists.items c.self.inside.counts.items c.self.invariant c.args.proc.user.0 c.args.self.now c.self.view_is c.requires.user c.deref.result.now c.deref.ensures.value c.args.proc.num c.pulses_of-queue.result c.pulses_of-queue.ensures in
    rw (c.take_out-event.ensures.taken, ← c.self.view_is) (takes c.self.inside.table c.self.inside.lists.items c.self.inside.counts.items c.self.invariant c.args.proc.user.0 own.within c.args.proc.num c.pulses_of-queue.result own.is c.in_ok-node.node c.index_mut.result.now c.know.ensures.distinct c.know.ensures.apart (sym c.first.ensures ∙ c.in_ok-node.was) c.index_mut.ensures.value).told_is
