use Rattle.std.proofs.Common.{is_some, option_map, refl, sym, ap, ◌∙◌}
use Rattle.qx_notify.specs.inner.Kept.{event_at, given}
use Rattle.qx_notify.proofs.PulseLemmas.{any-pulse, first-is, queue-list}
use Rattle.qx_notify.proofs.all.AllEvents.has_pulse.Goals as goal

pub first-requires : goal.first-requires
first-requires c = (queue-list c.self.inside.table c.self.inside.lists.items c.self.inside.counts.items c.self.invariant c.args.proc.user.0 c.args.self.now c.self.view_is c.requires.user c.deref.result.now c.deref.ensures.value c.args.proc.num c.pulses_of.result c.pulses_of.ensures).there

pub returns : goal.returns
returns c =
    let own = queue-list c.self.inside.table c.self.inside.lists.items c.self.inside.counts.items c.self.invariant c.args.proc.user.0 c.args.self.now c.self.view_is c.requires.user c.deref.result.now c.deref.ensures.value c.args.proc.num c.pulses_of.result c.pulses_of.ensures in
    rw (← c.self.view_is) (c.is_some.ensures ∙ ap is_some c.first.ensures ∙ any-pulse (λ node. given (event_at c.self.inside.table node)) _ ∙ sym (ap is_some (first-is c.self.inside.table c.self.inside.lists.items c.self.inside.counts.items c.self.invariant c.args.proc.user.0 own.within c.args.proc.num c.pulses_of.result own.is)))
