use Rattle.qx_shared.proofs.OwnLemmas.{has_row}
use Rattle.qx_shared.proofs.PlaceLemmas.{other-there, removed}
use Rattle.qx_shared.specs.inner.Row.{place}
use Rattle.qx_shared.specs.declared.side.Side.TheVariants.{Reading}
use Rattle.qx_shared.proofs.shared.Shared.remove_pipe.Goals as goal

pub list-readers-requires : goal.list-readers-requires
list-readers-requires c = record { there = rw c.deref.ensures.value (has_row c.self.inside.queues c.self.inside.pipes.items c.args.user.0 c.args.inode (rw (← c.self.view_is) at c.requires.pipe)) }

pub list-writers-requires : goal.list-writers-requires
list-writers-requires c = record { there = rw c.deref-2.ensures.value (has_row c.self.inside.queues c.self.inside.pipes.items c.args.user.0 c.args.inode (rw (← c.self.view_is) at c.requires.pipe)) }

pub free_list-requires : goal.free_list-requires
free_list-requires c = record { list = c.self.invariant.there (place c.args.user.0 c.args.inode Reading) _ (rw c.deref.ensures.value at c.list-readers.ensures.list) }

pub free_list-requires-2 : goal.free_list-requires-2
free_list-requires-2 c =
    let row = has_row c.self.inside.queues c.self.inside.pipes.items c.args.user.0 c.args.inode (rw (← c.self.view_is) at c.requires.pipe) in
    record { list = rw c.free_list.ensures (other-there c.self.inside.queues c.self.inside.pipes.items c.self.invariant c.args.user.0 c.args.inode row.0 row.1 _ _ (rw c.deref.ensures.value at c.list-readers.ensures.list) (rw c.deref-2.ensures.value at c.list-writers.ensures.list)) }

pub invariant_of-self : goal.invariant_of-self
invariant_of-self c =
    let row = has_row c.self.inside.queues c.self.inside.pipes.items c.args.user.0 c.args.inode (rw (← c.self.view_is) at c.requires.pipe) in
    (removed c.self.inside.queues c.self.inside.pipes.items c.self.invariant c.args.user.0 c.args.inode row.0 row.1 _ _ (rw c.deref.ensures.value at c.list-readers.ensures.list) (rw c.deref-2.ensures.value at c.list-writers.ensures.list) _ _ _ _ c.free_list.ensures c.free_list-2.ensures c.index_mut.ensures.value c.remove.ensures.removed).1

pub returns : goal.returns
returns c =
    let row = has_row c.self.inside.queues c.self.inside.pipes.items c.args.user.0 c.args.inode (rw (← c.self.view_is) at c.requires.pipe) in
    rw (← c.self.view_is) (removed c.self.inside.queues c.self.inside.pipes.items c.self.invariant c.args.user.0 c.args.inode row.0 row.1 _ _ (rw c.deref.ensures.value at c.list-readers.ensures.list) (rw c.deref-2.ensures.value at c.list-writers.ensures.list) _ _ _ _ c.free_list.ensures c.free_list-2.ensures c.index_mut.ensures.value c.remove.ensures.removed).0
