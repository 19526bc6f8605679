use Rattle.std.proofs.Common.{◌∙◌}
use Rattle.std.proofs.lemmas.List.{length-set}
use Rattle.qx_types.specs.Managers.{manager_number}
use Rattle.qx_process.proofs.ServerLemmas.{from-freed}
use Rattle.qx_process.proofs.process.Process.free_server.Goals as goal

pub invariant_of-self : goal.invariant_of-self
invariant_of-self c = rw c.free.ensures.servers
    (from-freed _ 0 (manager_number c.args.server.manager) c.args.server.number c.self.inside.servers.items c.self.invariant.0, length-set c.self.inside.servers.items _ _ ∙ c.self.invariant.1)
