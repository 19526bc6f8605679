use Rattle.qx_isolation.proofs.Steps.{step_idle}
use Rattle.qx_machine.proofs.laws.nobody_idle.Goals as goal

pub returns : goal.returns
returns c = step_idle
