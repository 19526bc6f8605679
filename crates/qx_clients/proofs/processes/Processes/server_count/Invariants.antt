use Rattle.std.proofs.Common.{◌≡◌, ◌≤◌, ◌*◌, ◌+◌, take}
use Rattle.std.specs.List.{sum_by}
use Rattle.qx_types.specs.declared.limits.TheConstants.Limits.{SERVERS}
use Rattle.qx_machine.specs.Calls.{server_count}
use Rattle.qx_clients.proofs.processes.Processes.server_count.Given as goal

abbrev pub invariant-loop-place : goal.invariant-loop-place
invariant-loop-place l = record {
  counted : l.count ≡ sum_by (server_count l.manager) (take l.place-index l.self);
  few : l.count ≤ l.place-index * (SERVERS + 1);
}
