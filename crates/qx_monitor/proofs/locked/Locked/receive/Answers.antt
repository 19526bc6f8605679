use Rattle.qx_world.proofs.WorkLemmas.{own, works_on}
use Rattle.qx_monitor.proofs.locked.Locked.receive.Goals as goal

pub returns-in_default-item_taken-clause-seat : goal.returns-in_default-item_taken-clause-seat
returns-in_default-item_taken-clause-seat g c = works_on g.S.UnderLock.adds g.S.UnderLock.keeps c.args.worker.0 _ _ _ c.take.result (own c.args.worker.0) c.take.ensures.seat c.take.ensures.kept

pub returns-in-Ok-Some-clause-seat : goal.returns-in-Ok-Some-clause-seat
returns-in-Ok-Some-clause-seat g c = works_on g.S.UnderLock.adds g.S.UnderLock.keeps c.args.worker.0 _ _ _ c.take.result (own c.args.worker.0) c.take.ensures.seat c.take.ensures.kept

pub returns-in-Ok-None-clause-seat : goal.returns-in-Ok-None-clause-seat
returns-in-Ok-None-clause-seat g c = works_on g.S.UnderLock.adds g.S.UnderLock.keeps c.args.worker.0 _ _ _ c.take.result (own c.args.worker.0) c.take.ensures.seat c.take.ensures.kept

pub returns-in-Ok-clause-seat : goal.returns-in-Ok-clause-seat
returns-in-Ok-clause-seat g c = works_on g.S.UnderLock.adds g.S.UnderLock.keeps c.args.worker.0 _ _ _ c.take.result (own c.args.worker.0) c.take.ensures.seat c.take.ensures.kept

pub returns-clause-seat : goal.returns-clause-seat
returns-clause-seat g c = works_on g.S.UnderLock.adds g.S.UnderLock.keeps c.args.worker.0 _ _ _ c.take.result (own c.args.worker.0) c.take.ensures.seat c.take.ensures.kept
