use Rattle.std.proofs.Common.{ap, sym, ◌∙◌}
use Rattle.qx_isolation.specs.System.{received, run}
use Rattle.qx_isolation.proofs.Runs.{run_received}
use Rattle.qx_isolation.proofs.laws.same_erasure.Goals as goal

pub returns : goal.returns
returns g c b config steps others user same =
    run_received b config steps user ∙ (ap (λ left. received user (run b config left).entries) same ∙ sym (run_received b config others user))
