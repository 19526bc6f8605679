use Rattle.std.proofs.Common.{◌≡◌, ◌++◌, map, option_map, take}
use Rattle.std.specs.Prelude.{drop}
use Rattle.qx_machine.specs.Servers.{leaving}
use Rattle.qx_process.proofs.servers.Servers.leave.Given as goal

-- those that were passed are left
abbrev pub invariant-loop-number : goal.invariant-loop-number
invariant-loop-number l = take l.number l.self-inside.places.items ++ map (option_map leaving) (drop l.number l.self-inside.places.items) ≡ map (option_map leaving) l.initial.self-inside.places.items
