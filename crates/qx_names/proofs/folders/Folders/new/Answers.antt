use Rattle.qx_names.proofs.RenameLemmas.{kept-none}
use Rattle.qx_names.proofs.folders.Folders.new.Goals as goal

pub invariant_of-result : goal.invariant_of-result
invariant_of-result c = kept-none c.new.result c.new-2.result c.new.ensures c.new-2.ensures.none
