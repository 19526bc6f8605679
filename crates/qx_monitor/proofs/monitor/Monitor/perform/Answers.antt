use Rattle.qx_types.specs.declared.step.Step.TheVariants.{Perform}
use Rattle.qx_world.proofs.WorkLemmas.{own, works_on}
use Rattle.qx_monitor.proofs.monitor.Monitor.perform.Goals as goal

pub returns-then-not-is_handled-clause-seat : goal.returns-then-not-is_handled-clause-seat
returns-then-not-is_handled-clause-seat g c = works_on g.S.UnderLock.adds g.S.UnderLock.keeps c.args.worker.0 _ _ (Perform c.args.worker c.args.moment) c.perform-done.result (own c.args.worker.0) c.perform-done.ensures.seat c.perform-done.ensures.kept

pub returns-else-not-is_handled-clause-seat : goal.returns-else-not-is_handled-clause-seat
returns-else-not-is_handled-clause-seat g c = works_on g.S.UnderLock.adds g.S.UnderLock.keeps c.args.worker.0 _ _ (Perform c.args.worker c.args.moment) c.perform-done.result (own c.args.worker.0) c.perform-done.ensures.seat c.perform-done.ensures.kept

pub returns-in-Err-Stale-clause-seat : goal.returns-in-Err-Stale-clause-seat
returns-in-Err-Stale-clause-seat g c = works_on g.S.UnderLock.adds g.S.UnderLock.keeps c.args.worker.0 _ _ (Perform c.args.worker c.args.moment) c.perform-done.result (own c.args.worker.0) c.perform-done.ensures.seat c.perform-done.ensures.kept

pub returns-in-Err-NoMemory-clause-seat : goal.returns-in-Err-NoMemory-clause-seat
returns-in-Err-NoMemory-clause-seat g c = works_on g.S.UnderLock.adds g.S.UnderLock.keeps c.args.worker.0 _ _ (Perform c.args.worker c.args.moment) c.perform-done.result (own c.args.worker.0) c.perform-done.ensures.seat c.perform-done.ensures.kept
