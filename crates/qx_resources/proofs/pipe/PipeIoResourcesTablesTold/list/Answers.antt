use Rattle.qx_resources.proofs.pipe.PipeIoResourcesTablesTold.list.Goals as goal

pub returns-clause-did : goal.returns-clause-did
returns-clause-did c = c.list.ensures.did c.args._tables.now
