use Rattle.std.proofs.Common.{◌≡◌, ◌+◌, ◌≤◌, ◌++◌, replicate, vec_capacity, vec_len, None}
use Rattle.qx_files.proofs.places.make_places.Given as goal

abbrev pub invariant-loop : goal.invariant-loop
invariant-loop l = record {
  added : l.places.items ≡ l.initial.places.items ++ replicate l.counter None;
  room : vec_len l.initial.places + l.more ≤ vec_capacity l.places;
  count : vec_len l.places ≡ vec_len l.initial.places + l.counter;
}
