use Rattle.qx_invariants.proofs.Reached.{run_holds}
use Rattle.qx_invariants.proofs.laws.names_form_a_tree.Goals as goal

pub returns : goal.returns
returns c = λ config steps user part there. (run_holds config steps user part there).tree
