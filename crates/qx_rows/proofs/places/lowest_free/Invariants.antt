use Rattle.std.proofs.Common.{◌≡◌}
use Rattle.qx_isolation.specs.Rows.{lowest_from}
use Rattle.qx_rows.proofs.places.lowest_free.Given as goal

-- the rows that were passed are taken
abbrev pub invariant-loop-number : goal.invariant-loop-number
invariant-loop-number g l = lowest_from l.first l.places ≡ lowest_from l.number l.places
