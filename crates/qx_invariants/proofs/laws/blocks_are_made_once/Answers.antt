use Rattle.qx_invariants.proofs.Made.{client_blocks}
use Rattle.qx_invariants.proofs.Reached.{run_holds}
use Rattle.qx_invariants.proofs.laws.blocks_are_made_once.Goals as goal

pub returns : goal.returns
returns c = record {
  made = λ config steps user part there. (run_holds config steps user part there).made;
  of_clients = λ config steps user part there. client_blocks part.resources (run_holds config steps user part there).made;
}
