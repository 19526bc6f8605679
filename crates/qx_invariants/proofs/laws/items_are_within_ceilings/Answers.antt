use Rattle.qx_invariants.proofs.Priorities.{run_below, run_ranked}
use Rattle.qx_invariants.proofs.laws.items_are_within_ceilings.Goals as goal

pub returns : goal.returns
returns c = record { kinds = run_ranked; greater = run_below }
