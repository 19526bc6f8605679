use Rattle.qx_invariants.proofs.Reached.{run_holds}
use Rattle.qx_invariants.proofs.laws.events_are_within_the_limit.Goals as goal

pub returns : goal.returns
returns c = record {
  limit = λ config steps user part there. (run_holds config steps user part there).events.few;
  queues = λ config steps user part there. (run_holds config steps user part there).events.queues;
}
