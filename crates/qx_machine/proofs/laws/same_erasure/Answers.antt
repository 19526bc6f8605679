use Rattle.std.proofs.Common.{ap, sym, ◌∙◌}
use Rattle.qx_machine.specs.Runs.{received, run}
use Rattle.qx_machine.specs.Machine.{machine}
use Rattle.qx_isolation.proofs.Runs.{run_received}
use Rattle.qx_machine.proofs.laws.same_erasure.Goals as goal

pub returns : goal.returns
returns c config steps others user same =
    run_received machine config steps user ∙ (ap (λ left. received user (run config left).entries) same ∙ sym (run_received machine config others user))
