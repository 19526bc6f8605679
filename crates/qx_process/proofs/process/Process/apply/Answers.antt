use Rattle.std.proofs.Common.{refl, ap}
use Rattle.qx_process.proofs.AttachLemmas.{loses-none}
use Rattle.qx_process.proofs.process.Process.apply.Goals as goal

pub returns-in-Keeps-clause-lost : goal.returns-in-Keeps-clause-lost
returns-in-Keeps-clause-lost c = loses-none c.args.self.now c.args.self.now refl

pub returns-in-Opens-clause-lost : goal.returns-in-Opens-clause-lost
returns-in-Opens-clause-lost c = loses-none c.args.self.now c.set_block.new.self (ap (λ process. process.servers) c.set_block.ensures.process)
