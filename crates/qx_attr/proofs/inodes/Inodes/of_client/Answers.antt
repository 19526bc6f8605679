use Rattle.qx_attr.proofs.inodes.Inodes.of_client.Goals as goal

pub returns-clause-once : goal.returns-clause-once
returns-clause-once c = rw (← c.self.view_is) c.of_client.ensures.once
