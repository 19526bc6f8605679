use Rattle.std.proofs.Common.{◌==◌, not, is_some, length, ap, ◌∙◌}
use Rattle.qx_notify.specs.inner.Kept.{armed_in, event_at}
use Rattle.qx_notify.proofs.KeptLemmas.{armed-list, told-of}
use Rattle.qx_notify.proofs.NodeLemmas.{any-node}
use Rattle.qx_notify.proofs.all.AllEvents.has_armed.Goals as goal

pub first-requires : goal.first-requires
first-requires c = (armed-list c.self.inside.table c.self.inside.lists.items c.self.inside.counts.items c.self.invariant c.args.user.0 c.args.self.now c.self.view_is c.requires.user c.deref.result.now c.deref.ensures.value c.armed_of.result c.armed_of.ensures).there

pub returns : goal.returns
returns c =
    let own = armed-list c.self.inside.table c.self.inside.lists.items c.self.inside.counts.items c.self.invariant c.args.user.0 c.args.self.now c.self.view_is c.requires.user c.deref.result.now c.deref.ensures.value c.armed_of.result c.armed_of.ensures in
    rw (← c.self.view_is, told-of c.self.inside.table c.self.inside.lists.items c.args.user.0 own.within) (c.is_some.ensures ∙ ap is_some c.first.ensures ∙ any-node (event_at c.self.inside.table) _ ∙ ap (λ l. not (length (armed_in c.self.inside.table l) == 0)) own.is)
