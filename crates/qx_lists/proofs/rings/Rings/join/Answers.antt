use Rattle.std.proofs.Common.{rules}
use Rattle.qx_lists.proofs.rings.Rings.join.Goals as goal
use Rattle.qx_lists.specs.Rings.{with_adjacent}

pub returns-clause-joined : goal.returns-clause-joined
unfolding with_adjacent
returns-clause-joined g c = search rules
