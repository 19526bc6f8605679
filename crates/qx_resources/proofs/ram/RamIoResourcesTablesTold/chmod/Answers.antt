use Rattle.qx_resources.proofs.ram.RamIoResourcesTablesTold.chmod.Goals as goal

pub returns-clause-did : goal.returns-clause-did
returns-clause-did c = c.chmod.ensures.did c.args._tables.now
