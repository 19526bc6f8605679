use Rattle.qx_isolation.proofs.Runs.{run_received}
use Rattle.qx_isolation.proofs.laws.isolation.Goals as goal

pub returns : goal.returns
returns g c = run_received
