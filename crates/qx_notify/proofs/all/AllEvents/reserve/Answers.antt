use Rattle.std.proofs.Common.{ap}
use Rattle.qx_notify.specs.inner.Kept.{shown_events}
use Rattle.qx_notify.proofs.KeptLemmas.{kept-reserved}
use Rattle.qx_notify.proofs.all.AllEvents.reserve.Goals as goal

pub invariant_of-self : goal.invariant_of-self
invariant_of-self c = rw c.in_err-reserve.ensures.err c.self.invariant

pub invariant_of-self-2 : goal.invariant_of-self-2
invariant_of-self-2 c = kept-reserved c.self.inside.table c.reserve.new.self c.self.inside.lists.items c.self.inside.counts.items _ c.in_ok-reserve.ensures.ok c.self.invariant

pub returns-clause-ok : goal.returns-clause-ok
returns-clause-ok c = rw (← c.self.view_is) (ap (λ t. shown_events t c.self.inside.lists.items) c.in_ok-reserve.ensures.ok)
