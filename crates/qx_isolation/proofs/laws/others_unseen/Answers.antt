use Rattle.qx_isolation.specs.System.{run}
use Rattle.qx_isolation.proofs.Steps.{step_other}
use Rattle.qx_isolation.proofs.laws.others_unseen.Goals as goal

pub returns : goal.returns
returns g c b config steps user e other = step_other (run b config steps).world user e other
