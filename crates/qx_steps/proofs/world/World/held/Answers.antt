use Rattle.std.proofs.Common.{rules}
use Rattle.qx_steps.proofs.WorkerLemmas.{held-message}
use Rattle.qx_steps.proofs.world.World.held.Goals as goal

pub returns-in_err-bytes : goal.returns-in_err-bytes
returns-in_err-bytes c = rw (held-message c.args.self.now c.args.worker.0 c.in_ok-held.held c.in-Message.process c.in-Message.thread c.in_ok-held.ensures c.in-Message.is, ← (rw c.named_thread.ensures at c.in_err-bytes.ensures)) (search rules)

pub returns : goal.returns
returns c = rw (held-message c.args.self.now c.args.worker.0 c.in_ok-held.held c.in-Message.process c.in-Message.thread c.in_ok-held.ensures c.in-Message.is, ← (rw c.named_thread.ensures at c.in_ok-bytes.ensures)) (search rules)
