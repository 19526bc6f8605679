use Rattle.qx_machine.specs.Runs.{run}
use Rattle.qx_machine.proofs.Refusals.{refused_same}
use Rattle.qx_machine.proofs.Settled.{run_settled}
use Rattle.qx_machine.proofs.laws.refusal_changes_nothing.Goals as goal

pub returns : goal.returns
returns c config steps e refused = refused_same (run config steps).world e (run_settled config steps) refused
