use Rattle.qx_machine.specs.Machine.{machine}
use Rattle.qx_isolation.proofs.Runs.{run_entries}
use Rattle.qx_machine.proofs.laws.same_entries.Goals as goal

pub returns : goal.returns
returns c = run_entries machine
