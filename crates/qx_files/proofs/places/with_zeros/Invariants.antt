use Rattle.std.proofs.Common.{◌≡◌, ◌+◌, ◌++◌, replicate, vec_capacity, vec_len}
use Rattle.qx_files.proofs.places.with_zeros.Given as goal

abbrev pub invariant-loop : goal.invariant-loop
invariant-loop l = record {
  added : l.bytes.items ≡ l.initial.bytes.items ++ replicate l.counter 0;
  capacity : vec_capacity l.bytes ≡ vec_capacity l.initial.bytes;
  count : vec_len l.bytes ≡ vec_len l.initial.bytes + l.counter;
}
