use Rattle.qx_invariants.proofs.Once.{call_waits_once}
use Rattle.qx_invariants.proofs.Reached.{run_stands}
use Rattle.qx_invariants.proofs.laws.threads_wait_once.Goals as goal

pub returns : goal.returns
returns c = record {
  threads = λ config steps user part there. (run_stands config steps user part there).waits_once;
  calls = λ config steps user part there. call_waits_once part (run_stands config steps user part there).waits_once;
}
