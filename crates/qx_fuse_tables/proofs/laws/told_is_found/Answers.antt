use Rattle.qx_fuse_tables.proofs.ToldLemmas.{told_found}
use Rattle.qx_fuse_tables.proofs.laws.told_is_found.Goals as goal

pub returns : goal.returns
returns c = record { told_is_found = told_found }
