use Rattle.std.proofs.Common.{◌≡◌, ◌++◌, map, take}
use Rattle.std.specs.Prelude.{drop}
use Rattle.qx_process.proofs.EndLemmas.{left}
use Rattle.qx_process.proofs.servers.leave.Given as goal

-- those at the managers that were passed are left
abbrev pub invariant-loop-number : goal.invariant-loop-number
invariant-loop-number l = take l.number l.servers.items ++ map left (drop l.number l.servers.items) ≡ map left l.initial.servers.items
