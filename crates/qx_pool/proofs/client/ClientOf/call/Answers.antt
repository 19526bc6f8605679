use Rattle.std.proofs.Common.{refl}
use Rattle.qx_pool.proofs.EndLemmas.{taken_ends, unsent_ends}
use Rattle.qx_pool.proofs.client.ClientOf.call.Goals as goal

pub returns-in-Unsent-clause-seat : goal.returns-in-Unsent-clause-seat
returns-in-Unsent-clause-seat g c = rw c.call_end.ensures (unsent_ends g.S.UnderLock.adds g.S.UnderLock.keeps _ c.args.self.now.thread c.args.request _ _ c.in-Unsent.outcome c.in-Unsent.ensures.told c.in-Unsent.ensures.unsent c.in-Unsent.ensures.ended)

pub returns-in-Ok-clause-seat : goal.returns-in-Ok-clause-seat
returns-in-Ok-clause-seat g c = rw c.call_end-in-Ok.ensures (taken_ends g.S.UnderLock.adds g.S.UnderLock.keeps _ c.args.self.now.thread c.args.request _ _ _ _ c.in-Ok.outcome refl c.in-Sent.ensures.sent c.in-Ok.ensures.told c.in-Ok.ensures.seat)
