use Rattle.qx_resources.proofs.pipe.PipeIoResourcesTablesTold.dup.Goals as goal

pub returns-clause-did : goal.returns-clause-did
returns-clause-did c = c.dup.ensures.did c.args._tables.now
