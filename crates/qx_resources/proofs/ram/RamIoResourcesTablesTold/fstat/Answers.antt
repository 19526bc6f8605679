use Rattle.qx_resources.proofs.ram.RamIoResourcesTablesTold.fstat.Goals as goal

pub returns-clause-did : goal.returns-clause-did
returns-clause-did c = c.fstat.ensures.did c.args._tables.now
