use Rattle.std.proofs.Common.{add-one}
use Rattle.qx_chan.proofs.EndLemmas.{drops-suc, stands-next}
use Rattle.qx_chan.proofs.ending.drop_all_items.Goals as goal

pub drop_items-requires-clause-stands : goal.drop_items-requires-clause-stands
drop_items-requires-clause-stands c =
    rw c.thread.ensures.row (stands-next c.args.users.now c.args.proc c.args.queues.now c.loop-tid.queues c.loop-tid.queues c.loop-tid.tid c.loop-tid.invariant (c.requires.stands c.loop-tid.tid))

pub loop-tid-preserved : goal.loop-tid-preserved
loop-tid-preserved c =
    rw (add-one c.loop-tid.tid) (drops-suc c.args.users.now c.args.proc c.args.queues.now c.loop-tid.queues c.drop_items.new.queues c.loop-tid.tid c.loop-tid.invariant (rw c.thread.ensures.row at c.drop_items.ensures.dropped))
