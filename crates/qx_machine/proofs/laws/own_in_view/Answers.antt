use Rattle.std.proofs.Common.{ap}
use Rattle.qx_machine.specs.Runs.{run}
use Rattle.qx_machine.specs.Machine.{machine}
use Rattle.qx_isolation.proofs.Runs.{run_reached}
use Rattle.qx_isolation.proofs.Steps.{owner_own, step_own}
use Rattle.qx_machine.proofs.laws.own_in_view.Goals as goal

pub returns : goal.returns
returns c = record {
  same_owner = λ config steps user e own. owner_own (run config steps).world user e own;
  same_outcome = λ config steps user e own. ap (λ after. after.outcome) (step_own (run config steps).world user e (run_reached machine config steps) own);
  same_world = λ config steps user e own. ap (λ after. after.world) (step_own (run config steps).world user e (run_reached machine config steps) own);
}
