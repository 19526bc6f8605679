use Rattle.std.proofs.Common.{◌≡◌, length}
use Rattle.qx_paths.specs.Paths.{first_fault, path_components}
use Rattle.qx_paths.proofs.path.fault_in.Given as goal

abbrev pub invariant-loop-component : goal.invariant-loop-component
invariant-loop-component l = first_fault l.walk ≡ first_fault (path_components l.fn.bytes)

abbrev pub decreases-loop-component : goal.decreases-loop-component
decreases-loop-component l = length l.walk
