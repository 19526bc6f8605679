use Rattle.qx_paths.proofs.MountLemmas.{at_prefix, prefix_at}
use Rattle.qx_paths.proofs.laws.at_exactly.Goals as goal

pub returns : goal.returns
returns c = record { at_exactly = λ path mount. (at_prefix path mount, prefix_at path mount) }
