use Rattle.std.proofs.Common.{◌≡◌, All, [], map}
use Rattle.std.specs.List.{range_with_len}
use Rattle.qx_tied.proofs.tied.seats_of.Given as goal

abbrev pub invariant-making : goal.invariant-making
invariant-making g l = record {
  numbers : map (λ s. s.seat) l.made.items ≡ range_with_len 0 l.number;
  none : All (λ s. s.events ≡ []) l.made.items;
}
