use Rattle.qx_resources.proofs.pipe.PipeIoResourcesTablesTold.fstat.Goals as goal

pub returns-clause-did : goal.returns-clause-did
returns-clause-did c = c.fstat.ensures.did c.args._tables.now
