use Rattle.std.proofs.Common.{sym, ◌∙◌}
use Rattle.qx_notify.proofs.KeptLemmas.{armed-list, block-found, disarms, nothing-disarmed}
use Rattle.qx_notify.proofs.all.AllEvents.disarm.Goals as goal

pub find-requires : goal.find-requires
find-requires c =
    let own = armed-list c.self.inside.table c.self.inside.lists.items c.self.inside.counts.items c.self.invariant c.args.user.0 c.args.self.now c.self.view_is c.requires.user c.deref.result.now c.deref.ensures.value c.armed_of-armed.result c.armed_of-armed.ensures in
    record { list = own.there }

pub take_out-requires : goal.take_out-requires
take_out-requires c =
    let own = armed-list c.self.inside.table c.self.inside.lists.items c.self.inside.counts.items c.self.invariant c.args.user.0 c.args.self.now c.self.view_is c.requires.user c.deref.result.now c.deref.ensures.value c.armed_of-armed.result c.armed_of-armed.ensures in
    record { node = (block-found c.self.inside.table c.self.inside.lists.items c.self.inside.counts.items c.self.invariant c.args.user.0 own.within c.armed_of-armed.result own.is c.args.block c.in-Some.node c.know.ensures.distinct (sym c.find.ensures ∙ c.in-Some.is)).there }

pub overflow_sub-index_mut : goal.overflow_sub-index_mut
overflow_sub-index_mut c =
    let own = armed-list c.self.inside.table c.self.inside.lists.items c.self.inside.counts.items c.self.invariant c.args.user.0 c.args.self.now c.self.view_is c.requires.user c.deref.result.now c.deref.ensures.value c.armed_of-armed.result c.armed_of-armed.ensures in
    (disarms c.self.inside.table c.self.inside.lists.items c.self.inside.counts.items c.self.invariant c.args.user.0 own.within c.armed_of-armed.result own.is c.args.block c.in-Some.node c.index_mut.result.now c.know.ensures.distinct c.know.ensures.apart (sym c.find.ensures ∙ c.in-Some.is) c.index_mut.ensures.value).some

pub invariant_of-self : goal.invariant_of-self
invariant_of-self c =
    let own = armed-list c.self.inside.table c.self.inside.lists.items c.self.inside.counts.items c.self.invariant c.args.user.0 c.args.self.now c.self.view_is c.requires.user c.deref.result.now c.deref.ensures.value c.armed_of-armed.result c.armed_of-armed.ensures in
    rw c.take_out.ensures.taken (disarms c.self.inside.table c.self.inside.lists.items c.self.inside.counts.items c.self.invariant c.args.user.0 own.within c.armed_of-armed.result own.is c.args.block c.in-Some.node c.index_mut.result.now c.know.ensures.distinct c.know.ensures.apart (sym c.find.ensures ∙ c.in-Some.is) c.index_mut.ensures.value).kept_is

pub returns-in-Some : goal.returns-in-Some
returns-in-Some c =
    let own = armed-list c.self.inside.table c.self.inside.lists.items c.self.inside.counts.items c.self.invariant c.args.user.0 c.args.self.now c.self.view_is c.requires.user c.deref.result.now c.deref.ensures.value c.armed_of-armed.result c.armed_of-armed.ensures in
    rw (c.take_out.ensures.taken, ← c.self.view_is) (disarms c.self.inside.table c.self.inside.lists.items c.self.inside.counts.items c.self.invariant c.args.user.0 own.within c.armed_of-armed.result own.is c.args.block c.in-Some.node c.index_mut.result.now c.know.ensures.distinct c.know.ensures.apart (sym c.find.ensures ∙ c.in-Some.is) c.index_mut.ensures.value).told_is

pub returns-in_default : goal.returns-in_default
returns-in_default c =
    let own = armed-list c.self.inside.table c.self.inside.lists.items c.self.inside.counts.items c.self.invariant c.args.user.0 c.args.self.now c.self.view_is c.requires.user c.deref.result.now c.deref.ensures.value c.armed_of-armed.result c.armed_of-armed.ensures in
    rw (← c.self.view_is) (nothing-disarmed c.self.inside.table c.self.inside.lists.items c.self.inside.counts.items c.self.invariant c.args.user.0 own.within c.armed_of-armed.result own.is c.args.block (sym c.find.ensures ∙ c.in_default.is))
