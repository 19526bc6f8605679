use Rattle.std.proofs.Common.{◌≡◌, ◌≤◌, length}
use Rattle.qx_paths.specs.Paths.{path_components}
use Rattle.qx_paths.proofs.path.without_slashes.Given as goal

abbrev pub invariant-loop-first : goal.invariant-loop-first
invariant-loop-first l = record {
  same : path_components l.left ≡ path_components l.fn.bytes;
  shorter : length l.left ≤ length l.fn.bytes;
}

abbrev pub decreases-loop-first : goal.decreases-loop-first
decreases-loop-first l = length l.left
