use Rattle.std.proofs.Common.{◌-◌, refl, arith}
use Rattle.qx_queues.proofs.PresenceLemmas.{has-process, not_earlier, room-process, users-process}
use Rattle.qx_queues.proofs.queues.Queues.+add_process.Goals as goal

pub add-requires-clause-fresh : goal.add-requires-clause-fresh
add-requires-clause-fresh t c = rw (c.add_process.ensures.added, has-process c.args.self.now c.args.proc (c.args.threads - 1) (record { proc = c.args.proc; tid = c.args.threads }), c.requires.fresh c.args.threads, not_earlier c.args.proc c.args.threads c.if-threads-eq0.false) refl

pub add-requires-clause-user : goal.add-requires-clause-user
add-requires-clause-user t c = rw (c.add_process.ensures.added, users-process c.args.self.now c.args.proc (c.args.threads - 1)) c.requires.user

pub add-requires-clause-room : goal.add-requires-clause-room
add-requires-clause-room t c =
    let less = room-process c.args.self.now c.args.proc (c.args.threads - 1) in
    rw (c.add_process.ensures.added, less) (omega (arith, c.requires.room, c.if-threads-eq0.false))
