use Rattle.qx_isolation.proofs.Places.{lowest_from_free, lowest_from_lowest}
use Rattle.std.proofs.Common.{arith}
use Rattle.qx_machine.proofs.laws.lowest_free.Goals as goal

pub returns : goal.returns
returns g c = record {
  free = λ first places. lowest_from_free first places;
  not_below = λ first places. omega arith;
  lowest = λ first number places from below. lowest_from_lowest first number places from below;
}
