use Rattle.qx_invariants.proofs.Reached.{run_holds}
use Rattle.qx_invariants.proofs.laws.links_tell_names.Goals as goal

pub returns : goal.returns
returns c = λ config steps user part there. (run_holds config steps user part there).names
