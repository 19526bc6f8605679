use Rattle.qx_monitor.specs.Awaits.{is_to_come_of}
use Rattle.qx_monitor.proofs.ReleasedLemmas.{AreReleased}
use Rattle.qx_monitor.proofs.locked.Locked.came.Given as goal

abbrev pub invariant-looking : goal.invariant-looking
invariant-looking g l = AreReleased (is_to_come_of (g.S.UnderLock.world_of l.self.under) l.what) l.initial.waiting l.waiting l.came

abbrev pub decreases-looking : goal.decreases-looking
decreases-looking g l = l.waiting.bits
