use Rattle.qx_machine.specs.Machine.{machine}
use Rattle.qx_isolation.proofs.Runs.{run_world}
use Rattle.qx_machine.proofs.laws.ends_in_view.Goals as goal

pub returns : goal.returns
returns c = run_world machine
