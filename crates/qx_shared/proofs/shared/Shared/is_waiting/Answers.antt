use Rattle.std.proofs.Common.{◌∙◌, ◌||◌, ap, ap₂, option_map, sym}
use Rattle.qx_machine.specs.Waiting.{is_call}
use Rattle.qx_shared.proofs.CallLemmas.{holds-none, holds-once, holds-told}
use Rattle.qx_shared.specs.inner.Row.{list_on, place}
use Rattle.qx_shared.specs.declared.side.Side.TheVariants.{Reading, Writing}
use Rattle.qx_shared.proofs.shared.Shared.is_waiting.Goals as goal

pub returns-in_default-clause-holds : goal.returns-in_default-clause-holds
returns-in_default-clause-holds c = rw (← c.self.view_is) (sym (holds-none c.self.inside.queues c.self.inside.pipes.items c.args.thread.proc.user.0 c.args.inode (is_call c.args.thread.proc.num c.args.thread.tid c.args.call) (rw c.deref.ensures.value at (sym c.in_default.ensures.row))))

pub is_waiting-reads-requires : goal.is_waiting-reads-requires
is_waiting-reads-requires c = record { list = rw c.list.ensures.list (c.self.invariant.there (place c.args.thread.proc.user.0 c.args.inode Reading) _ (ap (option_map (list_on Reading)) (rw c.deref.ensures.value at (sym c.in-Some.ensures.row)))) }

pub is_waiting-writes-requires : goal.is_waiting-writes-requires
is_waiting-writes-requires c = record { list = rw c.list-2.ensures.list (c.self.invariant.there (place c.args.thread.proc.user.0 c.args.inode Writing) _ (ap (option_map (list_on Writing)) (rw c.deref.ensures.value at (sym c.in-Some.ensures.row)))) }

pub returns-clause-holds : goal.returns-clause-holds
returns-clause-holds c =
    rw (← c.self.view_is)
    (ap₂ (λ a b. a || b) (rw c.list.ensures.list at c.is_waiting-reads.ensures) (rw c.list-2.ensures.list at c.is_waiting-writes.ensures)
    ∙ sym (holds-told c.self.inside.queues c.self.inside.pipes.items c.args.thread.proc.user.0 c.args.inode (is_call c.args.thread.proc.num c.args.thread.tid c.args.call) c.in-Some.row.now (rw c.deref.ensures.value at (sym c.in-Some.ensures.row))))

pub returns-clause-only : goal.returns-clause-only
returns-clause-only c =
    let is = rw (← c.self.view_is) at (returns-clause-holds c) in
    rw (← c.self.view_is) (λ holds. holds-once c.self.inside.queues c.self.inside.pipes.items c.self.invariant c.args.thread c.args.call c.know.ensures.once c.args.inode (sym is ∙ holds))
