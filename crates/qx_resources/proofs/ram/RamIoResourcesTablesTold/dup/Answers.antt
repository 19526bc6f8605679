use Rattle.qx_resources.proofs.ram.RamIoResourcesTablesTold.dup.Goals as goal

pub returns-clause-did : goal.returns-clause-did
returns-clause-did c = c.dup.ensures.did c.args._tables.now
