use Rattle.qx_isolation.specs.System.{run}
use Rattle.qx_isolation.proofs.Runs.{run_reached}
use Rattle.qx_isolation.proofs.Views.{in_order_line}
use Rattle.qx_isolation.proofs.laws.lines_in_order.Goals as goal

pub returns : goal.returns
returns g c b config steps manager = in_order_line (run b config steps).world manager (run_reached b config steps)
