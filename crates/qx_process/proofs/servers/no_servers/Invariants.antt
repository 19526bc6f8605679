use Rattle.std.proofs.Common.{◌≡◌, replicate}
use Rattle.qx_machine.specs.Servers as machine
use Rattle.qx_process.proofs.servers.no_servers.Given as goal

abbrev pub invariant-loop : goal.invariant-loop
invariant-loop l = l.servers.items ≡ replicate l.counter machine.no_servers
