use Rattle.std.proofs.Common.{refl}
use Rattle.qx_process.proofs.AttachLemmas.{loses-none}
use Rattle.qx_process.proofs.process.Process.give_back.Goals as goal

pub returns-in-Existing-clause-lost : goal.returns-in-Existing-clause-lost
returns-in-Existing-clause-lost c = loses-none c.args.self.now c.args.self.now refl
