use Rattle.std.proofs.Common.{◌≡◌, subst, Some, List, ℕ}
use Rattle.qx_paths.specs.Prefixes.{behind}
use Rattle.qx_paths.proofs.MountLemmas.{behind_append, behind_together}
use Rattle.qx_paths.proofs.laws.behind_exactly.Goals as goal

pub returns : goal.returns
returns c = record { behind_exactly = λ path prefix rest. (behind_together path prefix rest, λ e. subst (λ (xs : List (List ℕ)). behind xs prefix ≡ Some rest) e (behind_append prefix rest)) }
