use Rattle.qx_machine.specs.Machine.{machine}
use Rattle.qx_isolation.proofs.Runs.{run_erased}
use Rattle.qx_machine.proofs.laws.erased_once.Goals as goal

pub returns : goal.returns
returns c = run_erased machine
