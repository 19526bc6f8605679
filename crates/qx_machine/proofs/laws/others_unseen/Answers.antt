use Rattle.qx_machine.specs.Runs.{run}
use Rattle.qx_isolation.proofs.Steps.{step_other}
use Rattle.qx_machine.proofs.laws.others_unseen.Goals as goal

pub returns : goal.returns
returns c config steps user e other = step_other (run config steps).world user e other
