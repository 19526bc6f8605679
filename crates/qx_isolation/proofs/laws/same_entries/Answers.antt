use Rattle.qx_isolation.proofs.Runs.{run_entries}
use Rattle.qx_isolation.proofs.laws.same_entries.Goals as goal

pub returns : goal.returns
returns g c = run_entries
