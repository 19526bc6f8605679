use Rattle.std.proofs.Common.{◌≡◌, ◌≤◌, length, drop}
use Rattle.qx_paths.specs.Paths.{path_components}
use Rattle.qx_paths.specs.Prefixes.{behind}
use Rattle.qx_paths.proofs.path.left_behind.Given as goal

abbrev pub invariant-loop-name : goal.invariant-loop-name
invariant-loop-name l = record {
  same : behind (path_components l.left) (drop l.name-index l.prefix) ≡ behind (path_components l.fn.bytes) l.prefix;
  shorter : length l.left ≤ length l.fn.bytes;
}
