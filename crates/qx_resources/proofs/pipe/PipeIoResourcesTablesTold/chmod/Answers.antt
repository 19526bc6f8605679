use Rattle.qx_resources.proofs.pipe.PipeIoResourcesTablesTold.chmod.Goals as goal

pub returns-clause-did : goal.returns-clause-did
returns-clause-did c = c.chmod.ensures.did c.args._tables.now
