use Rattle.qx_shared.proofs.CallLemmas.{holds-nowhere}
use Rattle.qx_shared.proofs.OwnLemmas.{places-told}
use Rattle.qx_shared.proofs.shared.Shared.waits.Goals as goal

pub returns : goal.returns
returns c = rw (← c.self.view_is) (record {
  nowhere = holds-nowhere c.self.inside.queues c.self.inside.pipes.items c.self.invariant c.args.thread c.args.call c.waits.result c.waits.ensures.nowhere;
  places = places-told c.self.inside.queues c.self.inside.pipes.items c.self.invariant c.args.thread.proc.user.0;
})
