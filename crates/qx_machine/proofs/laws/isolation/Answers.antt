use Rattle.qx_machine.specs.Machine.{machine}
use Rattle.qx_isolation.proofs.Runs.{run_received}
use Rattle.qx_machine.proofs.laws.isolation.Goals as goal

pub returns : goal.returns
returns c = run_received machine
