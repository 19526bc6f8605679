use Rattle.qx_machine.specs.Runs.{run}
use Rattle.qx_machine.specs.Machine.{machine}
use Rattle.qx_isolation.proofs.Runs.{run_reached}
use Rattle.qx_isolation.proofs.Views.{in_order_line}
use Rattle.qx_machine.proofs.laws.lines_in_order.Goals as goal

pub returns : goal.returns
returns c config steps manager = in_order_line (run config steps).world manager (run_reached machine config steps)
