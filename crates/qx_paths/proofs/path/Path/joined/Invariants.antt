use Rattle.std.proofs.Common.{◌≡◌, ◌∷◌, length}
use Rattle.qx_wire.specs.Rests.{joined}
use Rattle.qx_paths.proofs.path.Path.joined.Given as goal

abbrev pub invariant-loop-component : goal.invariant-loop-component
invariant-loop-component l = joined (l.text.items ∷ l.walk) ≡ joined l.fn.self

abbrev pub decreases-loop-component : goal.decreases-loop-component
decreases-loop-component l = length l.walk
