use Rattle.std.proofs.lemmas.List.{length-replicate}
use Rattle.qx_types.specs.Managers.{manager_count}
use Rattle.qx_machine.specs.Servers.{no_servers}
use Rattle.qx_process.proofs.AttachLemmas.{new-settled}
use Rattle.qx_process.proofs.process.Process.new.Goals as goal

pub invariant_of-result : goal.invariant_of-result
invariant_of-result c =
    let none = c.in_ok-servers.ensures.none in
    rw (c.no_connections.ensures.none, none) (new-settled manager_count 0, length-replicate manager_count no_servers)
