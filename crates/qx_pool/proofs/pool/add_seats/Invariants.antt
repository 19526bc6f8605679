use Rattle.std.proofs.Common.{◌≡◌, ◌+◌, [], vec_len}
use Rattle.std.specs.List.{All}
use Rattle.qx_pool.proofs.pool.add_seats.Given as goal

abbrev pub invariant-adding : goal.invariant-adding
invariant-adding g l = record {
  parts : l.all.parts + l._number ≡ l.initial.all.parts;
  amount : l.all.amount ≡ 0;
  seats : vec_len l.seats ≡ vec_len l.initial.seats + l._number;
  empty : All (λ s. s.notes.items ≡ []) l.seats.items;
}
