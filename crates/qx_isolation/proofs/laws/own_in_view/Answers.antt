use Rattle.std.proofs.Common.{ap}
use Rattle.qx_isolation.specs.System.{run}
use Rattle.qx_isolation.proofs.Runs.{run_reached}
use Rattle.qx_isolation.proofs.Steps.{owner_own, step_own}
use Rattle.qx_isolation.proofs.laws.own_in_view.Goals as goal

pub returns : goal.returns
returns g c = record {
  same_owner = λ b config steps user e own. owner_own (run b config steps).world user e own;
  same_outcome = λ b config steps user e own. ap (λ after. after.outcome) (step_own (run b config steps).world user e (run_reached b config steps) own);
  same_world = λ b config steps user e own. ap (λ after. after.world) (step_own (run b config steps).world user e (run_reached b config steps) own);
}
