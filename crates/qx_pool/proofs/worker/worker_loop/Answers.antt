use Rattle.qx_world.proofs.WorkLemmas.{works_more}
use Rattle.qx_pool.proofs.worker.worker_loop.Goals as goal

pub returns-in_default-received : goal.returns-in_default-received
returns-in_default-received g c = works_more g.S.UnderLock.adds g.S.UnderLock.keeps _ _ _ _ c.working.invariant c.receive-received.ensures.seat

pub returns-in_default-perform : goal.returns-in_default-perform
returns-in_default-perform g c = works_more g.S.UnderLock.adds g.S.UnderLock.keeps _ _ _ _ (works_more g.S.UnderLock.adds g.S.UnderLock.keeps _ _ _ _ c.working.invariant c.receive-received.ensures.seat) c.perform.ensures.seat

pub working-preserved : goal.working-preserved
working-preserved g c = works_more g.S.UnderLock.adds g.S.UnderLock.keeps _ _ _ _ (works_more g.S.UnderLock.adds g.S.UnderLock.keeps _ _ _ _ c.working.invariant c.receive-received.ensures.seat) c.perform.ensures.seat
