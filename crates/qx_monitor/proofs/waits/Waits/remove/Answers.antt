use Rattle.std.proofs.Common.{arith}
use Rattle.qx_monitor.proofs.WaitLemmas.{waits_no_longer}
use Rattle.qx_monitor.proofs.waits.Waits.remove.Goals as goal

pub returns : goal.returns
returns c = λ thread. rw c.from.ensures (waits_no_longer c.args.self.now.words c.args.threads.now.user.0 c.args.threads.now.bits (omega arith) (omega arith) thread)
