use Rattle.qx_isolation.proofs.Runs.{run_world}
use Rattle.qx_isolation.proofs.laws.ends_in_view.Goals as goal

pub returns : goal.returns
returns g c = run_world
