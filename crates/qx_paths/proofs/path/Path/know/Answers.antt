use Rattle.std.proofs.Common.{◌≡◌, subst, true, List, ℕ}
use Rattle.qx_wire.specs.Rests.{is_rest}
use Rattle.qx_paths.proofs.ReadLemmas.{good_rest}
use Rattle.qx_paths.proofs.path.Path.know.Goals as goal

pub returns : goal.returns
returns c = record { rest = subst (λ (names : List (List ℕ)). is_rest names ≡ true) c.self.view_is (good_rest c.self.inside.bytes.now c.self.invariant) }
