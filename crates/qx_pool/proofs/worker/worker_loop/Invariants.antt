use Rattle.qx_world.specs.Seats.{Works}
use Rattle.qx_pool.proofs.worker.worker_loop.Given as goal

abbrev pub invariant-working : goal.invariant-working
invariant-working g l = Works g.S.UnderLock.adds g.S.UnderLock.keeps l.worker.0 l.fn.seat l.seat
