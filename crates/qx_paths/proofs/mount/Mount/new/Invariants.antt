use Rattle.std.proofs.Common.{◌≡◌, ◌++◌, length}
use Rattle.qx_paths.proofs.mount.Mount.new.Given as goal

abbrev pub invariant-loop-component : goal.invariant-loop-component
invariant-loop-component l = l.prefix.items ++ l.walk ≡ l.fn.path

abbrev pub decreases-loop-component : goal.decreases-loop-component
decreases-loop-component l = length l.walk
