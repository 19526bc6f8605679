use Rattle.qx_queues.specs.Waits.{leaves}
use Rattle.qx_shared.proofs.ChangeLemmas.{left, taken-out}
use Rattle.qx_shared.proofs.OwnLemmas.{has_row}
use Rattle.qx_shared.specs.inner.Row.{place}
use Rattle.qx_shared.specs.declared.side.Side.TheVariants.{Reading, Writing}
use Rattle.qx_shared.proofs.shared.Shared.take_out.Goals as goal

pub list-readers-requires : goal.list-readers-requires
list-readers-requires c = record { there = rw c.deref.ensures.value (has_row c.self.inside.queues c.self.inside.pipes.items c.args.user.0 c.args.inode (rw (← c.self.view_is) at c.requires.pipe)) }

pub list-writers-requires : goal.list-writers-requires
list-writers-requires c = record { there = rw c.deref-2.ensures.value (has_row c.self.inside.queues c.self.inside.pipes.items c.args.user.0 c.args.inode (rw (← c.self.view_is) at c.requires.pipe)) }

pub take_out-requires : goal.take_out-requires
take_out-requires c = record { list = c.self.invariant.there (place c.args.user.0 c.args.inode Reading) _ (rw c.deref.ensures.value at c.list-readers.ensures.list) }

pub take_out-requires-2 : goal.take_out-requires-2
take_out-requires-2 c =
    record { list = (left _ _ c.self.invariant _ _ Reading _ (rw c.deref.ensures.value at c.list-readers.ensures.list) (leaves c.args.which) _ c.take_out.ensures).all_are.there (place c.args.user.0 c.args.inode Writing) _ (rw c.deref-2.ensures.value at c.list-writers.ensures.list) }

pub invariant_of-self : goal.invariant_of-self
invariant_of-self c = (taken-out c.self.inside.queues c.self.inside.pipes.items c.self.invariant c.args.user.0 c.args.inode _ _ (rw c.deref.ensures.value at c.list-readers.ensures.list) (rw c.deref-2.ensures.value at c.list-writers.ensures.list) (rw (← c.self.view_is) at c.requires.pipe) (leaves c.args.which) _ _ c.take_out.ensures c.take_out-2.ensures).all_are

pub returns : goal.returns
returns c = rw (← c.self.view_is) (taken-out c.self.inside.queues c.self.inside.pipes.items c.self.invariant c.args.user.0 c.args.inode _ _ (rw c.deref.ensures.value at c.list-readers.ensures.list) (rw c.deref-2.ensures.value at c.list-writers.ensures.list) (rw (← c.self.view_is) at c.requires.pipe) (leaves c.args.which) _ _ c.take_out.ensures c.take_out-2.ensures).told_is
