use Rattle.std.proofs.Common.{◌≡◌, length, map, take}
use Rattle.std.specs.Prelude.{drop}
use Rattle.qx_machine.specs.Processes.{received_by}
use Rattle.qx_process.proofs.threads.end.Given as goal

-- what is kept is of the threads that were passed
abbrev pub invariant-loop-number : goal.invariant-loop-number
invariant-loop-number l = record {
  held : l.held.items ≡ map received_by (take l.number l.initial.threads.items);
  rest : drop l.number l.threads.items ≡ drop l.number l.initial.threads.items;
  count : length l.threads.items ≡ length l.initial.threads.items;
}
