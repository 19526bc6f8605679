use Rattle.qx_resources.proofs.ram.RamIoResourcesTablesTold.list.Goals as goal

pub returns-clause-did : goal.returns-clause-did
returns-clause-did c = c.list.ensures.did c.args._tables.now
