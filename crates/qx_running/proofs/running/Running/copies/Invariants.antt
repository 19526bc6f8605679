use Rattle.std.proofs.Common.{◌≡◌, ◌≤◌, drop, take, vec_capacity, vec_len}
use Rattle.qx_running.proofs.running.Running.copies.Given as goal

abbrev pub invariant-loop-number : goal.invariant-loop-number
invariant-loop-number l = record {
  copied : l.steps.items ≡ take l.number (drop l.skipped l.self.last);
  room : vec_capacity l.steps ≡ l.count;
  few : vec_len l.steps ≤ l.number;
}
