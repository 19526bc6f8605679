use Rattle.std.proofs.Common.{◌≡◌, ◌∷◌, []}
use Rattle.qx_paths.proofs.RowLemmas.{begun}
use Rattle.qx_paths.proofs.mounts.Mounts.boot.Given as goal

abbrev pub invariant-loop-number : goal.invariant-loop-number
invariant-loop-number l = l.mounts ≡ [] ∷ begun l.root l.config.users l.number
