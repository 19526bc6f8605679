use Rattle.qx_resources.proofs.KeptLemmas.{own-with}
use Rattle.qx_resources.proofs.pipe.PipeIoResourcesTablesTold.close.Goals as goal

pub returns-clause-did : goal.returns-clause-did
returns-clause-did c = rw (c.manager.ensures, own-with c.args.self.now.device) at c.close.ensures.did
