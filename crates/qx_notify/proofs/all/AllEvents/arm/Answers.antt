use Rattle.std.proofs.Common.{◌≡◌, ◌<◌, true, false, sym, ◌∙◌, arith}
use Rattle.qx_notify.proofs.ArmLemmas.{arms-new, arms-none, rearms, rearms-none, wanted-node}
use Rattle.qx_notify.proofs.KeptLemmas.{armed-list, block-found, count-of}
use Rattle.qx_notify.proofs.all.AllEvents.arm.Goals as goal

pub find-requires : goal.find-requires
find-requires c =
    let own = armed-list c.self.inside.table c.self.inside.lists.items c.self.inside.counts.items c.self.invariant c.args.user.0 c.args.self.now c.self.view_is c.requires.user c.deref.result.now c.deref.ensures.value c.armed_of-armed.result c.armed_of-armed.ensures in
    record { list = own.there }

pub move_to-requires-clause-node : goal.move_to-requires-clause-node
move_to-requires-clause-node c =
    let own = armed-list c.self.inside.table c.self.inside.lists.items c.self.inside.counts.items c.self.invariant c.args.user.0 c.args.self.now c.self.view_is c.requires.user c.deref.result.now c.deref.ensures.value c.armed_of-armed.result c.armed_of-armed.ensures in
    (block-found c.self.inside.table c.self.inside.lists.items c.self.inside.counts.items c.self.invariant c.args.user.0 own.within c.armed_of-armed.result own.is c.args.event.block c.in-Some.node c.know.ensures.distinct (sym c.find.ensures ∙ c.in-Some.is)).there

pub invariant_of-self : goal.invariant_of-self
invariant_of-self c =
    let own = armed-list c.self.inside.table c.self.inside.lists.items c.self.inside.counts.items c.self.invariant c.args.user.0 c.args.self.now c.self.view_is c.requires.user c.deref.result.now c.deref.ensures.value c.armed_of-armed.result c.armed_of-armed.ensures in
    (rearms c.self.inside.table c.self.inside.lists.items c.self.inside.counts.items c.self.invariant c.args.user.0 own.within c.armed_of-armed.result own.is c.args.most c.requires.few c.args.event c.in-Some.node c.move_to.new.table c.know.ensures.distinct c.know.ensures.apart (sym c.find.ensures ∙ c.in-Some.is) c.requires.process c.move_to.ensures.put c.move_to.ensures.room c.index-count.result.now c.index-count.ensures (omega (arith, c.if-count-most.false))).kept_is

pub returns-in-Some-clause-judged : goal.returns-in-Some-clause-judged
returns-in-Some-clause-judged c =
    let own = armed-list c.self.inside.table c.self.inside.lists.items c.self.inside.counts.items c.self.invariant c.args.user.0 c.args.self.now c.self.view_is c.requires.user c.deref.result.now c.deref.ensures.value c.armed_of-armed.result c.armed_of-armed.ensures in
    rw (← c.self.view_is) (rearms c.self.inside.table c.self.inside.lists.items c.self.inside.counts.items c.self.invariant c.args.user.0 own.within c.armed_of-armed.result own.is c.args.most c.requires.few c.args.event c.in-Some.node c.move_to.new.table c.know.ensures.distinct c.know.ensures.apart (sym c.find.ensures ∙ c.in-Some.is) c.requires.process c.move_to.ensures.put c.move_to.ensures.room c.index-count.result.now c.index-count.ensures (omega (arith, c.if-count-most.false))).done_is

pub returns-in-Some-clause-armed : goal.returns-in-Some-clause-armed
returns-in-Some-clause-armed c =
    let own = armed-list c.self.inside.table c.self.inside.lists.items c.self.inside.counts.items c.self.invariant c.args.user.0 c.args.self.now c.self.view_is c.requires.user c.deref.result.now c.deref.ensures.value c.armed_of-armed.result c.armed_of-armed.ensures in
    rw (← c.self.view_is) (rearms c.self.inside.table c.self.inside.lists.items c.self.inside.counts.items c.self.invariant c.args.user.0 own.within c.armed_of-armed.result own.is c.args.most c.requires.few c.args.event c.in-Some.node c.move_to.new.table c.know.ensures.distinct c.know.ensures.apart (sym c.find.ensures ∙ c.in-Some.is) c.requires.process c.move_to.ensures.put c.move_to.ensures.room c.index-count.result.now c.index-count.ensures (omega (arith, c.if-count-most.false))).told_is

pub append-requires : goal.append-requires
append-requires c =
    let own = armed-list c.self.inside.table c.self.inside.lists.items c.self.inside.counts.items c.self.invariant c.args.user.0 c.args.self.now c.self.view_is c.requires.user c.deref.result.now c.deref.ensures.value c.armed_of-armed.result c.armed_of-armed.ensures in
    record { list = own.there }

pub returns-in_err-append-clause-sure : goal.returns-in_err-append-clause-sure
returns-in_err-append-clause-sure c =
    let own = armed-list c.self.inside.table c.self.inside.lists.items c.self.inside.counts.items c.self.invariant c.args.user.0 c.args.self.now c.self.view_is c.requires.user c.deref.result.now c.deref.ensures.value c.armed_of-armed.result c.armed_of-armed.ensures in
    let wanted = wanted-node c.self.inside.table c.self.inside.lists.items c.self.inside.counts.items c.self.invariant c.args.user.0 own.within c.armed_of-armed.result own.is c.args.most c.requires.few c.args.event c.index-count.result.now (sym c.find.ensures ∙ c.in_default.is) c.index-count.ensures c.if-count-most-2.false in
    rw (← c.self.view_is) (λ no. let clash : true ≡ false = sym wanted ∙ no in absurd (cc))

pub invariant_of-self-2 : goal.invariant_of-self-2
invariant_of-self-2 c =
    let own = armed-list c.self.inside.table c.self.inside.lists.items c.self.inside.counts.items c.self.invariant c.args.user.0 c.args.self.now c.self.view_is c.requires.user c.deref.result.now c.deref.ensures.value c.armed_of-armed.result c.armed_of-armed.ensures in
    let counted = count-of c.self.inside.table c.self.inside.lists.items c.self.inside.counts.items c.self.invariant c.args.user.0 own.within c.index-count.result.now c.index-count.ensures in
    let also = count-of c.self.inside.table c.self.inside.lists.items c.self.inside.counts.items c.self.invariant c.args.user.0 own.within c.index_mut.result.now c.index_mut.ensures.value in
    let few : c.index_mut.result.now < c.args.most = omega (arith, counted, also, c.if-count-most-2.false) in
    (arms-new c.self.inside.table c.self.inside.lists.items c.self.inside.counts.items c.self.invariant c.args.user.0 own.within c.armed_of-armed.result own.is c.args.most c.requires.few c.args.event c.in_ok-append.field-0 c.index_mut.result.now c.append.new.table (sym c.find.ensures ∙ c.in_default.is) c.requires.process c.in_ok-append.ensures.put c.in_ok-append.ensures.room c.index_mut.ensures.value few).kept_is

pub returns-clause-judged : goal.returns-clause-judged
returns-clause-judged c =
    let own = armed-list c.self.inside.table c.self.inside.lists.items c.self.inside.counts.items c.self.invariant c.args.user.0 c.args.self.now c.self.view_is c.requires.user c.deref.result.now c.deref.ensures.value c.armed_of-armed.result c.armed_of-armed.ensures in
    let counted = count-of c.self.inside.table c.self.inside.lists.items c.self.inside.counts.items c.self.invariant c.args.user.0 own.within c.index-count.result.now c.index-count.ensures in
    let also = count-of c.self.inside.table c.self.inside.lists.items c.self.inside.counts.items c.self.invariant c.args.user.0 own.within c.index_mut.result.now c.index_mut.ensures.value in
    let few : c.index_mut.result.now < c.args.most = omega (arith, counted, also, c.if-count-most-2.false) in
    rw (← c.self.view_is) (arms-new c.self.inside.table c.self.inside.lists.items c.self.inside.counts.items c.self.invariant c.args.user.0 own.within c.armed_of-armed.result own.is c.args.most c.requires.few c.args.event c.in_ok-append.field-0 c.index_mut.result.now c.append.new.table (sym c.find.ensures ∙ c.in_default.is) c.requires.process c.in_ok-append.ensures.put c.in_ok-append.ensures.room c.index_mut.ensures.value few).done_is

pub returns-clause-armed : goal.returns-clause-armed
returns-clause-armed c =
    let own = armed-list c.self.inside.table c.self.inside.lists.items c.self.inside.counts.items c.self.invariant c.args.user.0 c.args.self.now c.self.view_is c.requires.user c.deref.result.now c.deref.ensures.value c.armed_of-armed.result c.armed_of-armed.ensures in
    let counted = count-of c.self.inside.table c.self.inside.lists.items c.self.inside.counts.items c.self.invariant c.args.user.0 own.within c.index-count.result.now c.index-count.ensures in
    let also = count-of c.self.inside.table c.self.inside.lists.items c.self.inside.counts.items c.self.invariant c.args.user.0 own.within c.index_mut.result.now c.index_mut.ensures.value in
    let few : c.index_mut.result.now < c.args.most = omega (arith, counted, also, c.if-count-most-2.false) in
    rw (← c.self.view_is) (arms-new c.self.inside.table c.self.inside.lists.items c.self.inside.counts.items c.self.invariant c.args.user.0 own.within c.armed_of-armed.result own.is c.args.most c.requires.few c.args.event c.in_ok-append.field-0 c.index_mut.result.now c.append.new.table (sym c.find.ensures ∙ c.in_default.is) c.requires.process c.in_ok-append.ensures.put c.in_ok-append.ensures.room c.index_mut.ensures.value few).told_is

pub returns-then-count-most-clause-judged : goal.returns-then-count-most-clause-judged
returns-then-count-most-clause-judged c =
    let own = armed-list c.self.inside.table c.self.inside.lists.items c.self.inside.counts.items c.self.invariant c.args.user.0 c.args.self.now c.self.view_is c.requires.user c.deref.result.now c.deref.ensures.value c.armed_of-armed.result c.armed_of-armed.ensures in
    rw (← c.self.view_is) (rearms-none c.self.inside.table c.self.inside.lists.items c.self.inside.counts.items c.self.invariant c.args.user.0 own.within c.armed_of-armed.result own.is c.args.most c.requires.few c.args.event c.in-Some.node c.index-count.result.now c.know.ensures.distinct (sym c.find.ensures ∙ c.in-Some.is) c.index-count.ensures c.if-count-most.true).done_is

pub returns-then-count-most-clause-armed : goal.returns-then-count-most-clause-armed
returns-then-count-most-clause-armed c =
    let own = armed-list c.self.inside.table c.self.inside.lists.items c.self.inside.counts.items c.self.invariant c.args.user.0 c.args.self.now c.self.view_is c.requires.user c.deref.result.now c.deref.ensures.value c.armed_of-armed.result c.armed_of-armed.ensures in
    rw (← c.self.view_is) (rearms-none c.self.inside.table c.self.inside.lists.items c.self.inside.counts.items c.self.invariant c.args.user.0 own.within c.armed_of-armed.result own.is c.args.most c.requires.few c.args.event c.in-Some.node c.index-count.result.now c.know.ensures.distinct (sym c.find.ensures ∙ c.in-Some.is) c.index-count.ensures c.if-count-most.true).told_is

pub returns-then-count-most-2-clause-judged : goal.returns-then-count-most-2-clause-judged
returns-then-count-most-2-clause-judged c =
    let own = armed-list c.self.inside.table c.self.inside.lists.items c.self.inside.counts.items c.self.invariant c.args.user.0 c.args.self.now c.self.view_is c.requires.user c.deref.result.now c.deref.ensures.value c.armed_of-armed.result c.armed_of-armed.ensures in
    rw (← c.self.view_is) (arms-none c.self.inside.table c.self.inside.lists.items c.self.inside.counts.items c.self.invariant c.args.user.0 own.within c.armed_of-armed.result own.is c.args.most c.requires.few c.args.event c.index-count.result.now (sym c.find.ensures ∙ c.in_default.is) c.index-count.ensures c.if-count-most-2.true).done_is

pub returns-then-count-most-2-clause-armed : goal.returns-then-count-most-2-clause-armed
returns-then-count-most-2-clause-armed c =
    let own = armed-list c.self.inside.table c.self.inside.lists.items c.self.inside.counts.items c.self.invariant c.args.user.0 c.args.self.now c.self.view_is c.requires.user c.deref.result.now c.deref.ensures.value c.armed_of-armed.result c.armed_of-armed.ensures in
    rw (← c.self.view_is) (arms-none c.self.inside.table c.self.inside.lists.items c.self.inside.counts.items c.self.invariant c.args.user.0 own.within c.armed_of-armed.result own.is c.args.most c.requires.few c.args.event c.index-count.result.now (sym c.find.ensures ∙ c.in_default.is) c.index-count.ensures c.if-count-most-2.true).told_is
