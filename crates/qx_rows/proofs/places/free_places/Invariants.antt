use Rattle.std.proofs.Common.{◌≡◌, None, replicate}
use Rattle.qx_rows.proofs.places.free_places.Given as goal

abbrev pub invariant-loop : goal.invariant-loop
invariant-loop g l = l.places.items ≡ replicate l.counter None
