use Rattle.std.proofs.Common.{◌≢◌, AllPairs, take}
use Rattle.qx_types.proofs.config.are_different.Given as goal

abbrev pub invariant-loop-index : goal.invariant-loop-index
invariant-loop-index l = AllPairs (λ one other. one ≢ other) (take l.index l.names)
