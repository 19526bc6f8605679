use Rattle.qx_chan.specs.inner.Ending.{DropsBelow}
use Rattle.qx_chan.proofs.ending.drop_all_items.Given as goal

-- those of the threads before it are gone
abbrev pub invariant-loop-tid : goal.invariant-loop-tid
invariant-loop-tid l = DropsBelow l.users l.initial.queues l.queues l.proc l.tid
