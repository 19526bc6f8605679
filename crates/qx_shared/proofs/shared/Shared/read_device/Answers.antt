use Rattle.std.proofs.Common.{◌<◌, [], length, rules, sym}
use Rattle.qx_machine.specs.Verdicts.{read_of}
use Rattle.qx_shared.proofs.AnswerLemmas.{became-own, bytes-own, device-own, left-own}
use Rattle.qx_shared.proofs.ChangeLemmas.{no_answers}
use Rattle.qx_shared.proofs.OwnLemmas.{has_row, row_of-within}
use Rattle.qx_shared.proofs.shared.Shared.read_device.Goals as goal

pub index_mut-requires : goal.index_mut-requires
index_mut-requires c =
    let row = has_row c.self.inside.queues c.self.inside.pipes.items c.args.user.0 c.args.inode (rw (← c.self.view_is) at c.requires.pipe) in
    let within : c.args.user.0 < length c.self.inside.pipes.items = (row_of-within c.self.inside.pipes.items c.args.user.0 c.args.inode row.0 row.1).0 in
    search rules

pub read-told-requires-clause-device : goal.read-told-requires-clause-device
read-told-requires-clause-device c =
    let row = has_row c.self.inside.queues c.self.inside.pipes.items c.args.user.0 c.args.inode (rw (← c.self.view_is) at c.requires.pipe) in
    device-own _ _ c.self.invariant _ _ row.0 row.1 _ c.index_mut.ensures.value (rw (← c.self.view_is) at c.requires.device)

pub invariant_of-self : goal.invariant_of-self
invariant_of-self c =
    let row = has_row c.self.inside.queues c.self.inside.pipes.items c.args.user.0 c.args.inode (rw (← c.self.view_is) at c.requires.pipe) in
    (became-own _ _ c.self.invariant _ _ row.0 row.1 _ c.index_mut.ensures.value _ c.read-told.ensures.others [] c.self.inside.queues (sym (no_answers _))).all_are

pub returns-clause-left : goal.returns-clause-left
returns-clause-left c =
    let row = has_row c.self.inside.queues c.self.inside.pipes.items c.args.user.0 c.args.inode (rw (← c.self.view_is) at c.requires.pipe) in
    rw (← c.self.view_is, c.take.ensures.taken, bytes-own _ _ c.self.invariant _ _ row.0 row.1 _ c.index_mut.ensures.value _ c.read-told.ensures.others c.self.inside.queues)
    (left-own _ _ c.self.invariant _ _ row.0 row.1 _ c.index_mut.ensures.value _ (λ device bytes. read_of device c.args.count bytes) c.read-told.ensures.left)

pub returns-clause-others : goal.returns-clause-others
returns-clause-others c =
    let row = has_row c.self.inside.queues c.self.inside.pipes.items c.args.user.0 c.args.inode (rw (← c.self.view_is) at c.requires.pipe) in
    rw (← c.self.view_is, bytes-own _ _ c.self.invariant _ _ row.0 row.1 _ c.index_mut.ensures.value _ c.read-told.ensures.others c.self.inside.queues)
    (became-own _ _ c.self.invariant _ _ row.0 row.1 _ c.index_mut.ensures.value _ c.read-told.ensures.others [] c.self.inside.queues (sym (no_answers _))).told_is
