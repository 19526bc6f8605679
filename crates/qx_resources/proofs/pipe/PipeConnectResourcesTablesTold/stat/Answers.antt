use Rattle.qx_resources.proofs.pipe.PipeConnectResourcesTablesTold.stat.Goals as goal

pub returns-clause-did : goal.returns-clause-did
returns-clause-did c = c.stat.ensures.did c.args._tables.now c.args._moment
