use Rattle.qx_isolation.proofs.Runs.{run_erased}
use Rattle.qx_isolation.proofs.laws.erased_once.Goals as goal

pub returns : goal.returns
returns g c = run_erased
