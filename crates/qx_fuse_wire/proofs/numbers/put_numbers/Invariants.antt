use Rattle.std.proofs.Common.{◌≡◌, ◌≤◌, ◌+◌, ◌++◌, drop, length, vec_len, vec_capacity}
use Rattle.qx_fuse_wire.specs.Replies.{numbers_bytes}
use Rattle.qx_fuse_wire.proofs.numbers.put_numbers.Given as goal

abbrev pub invariant-loop-number : goal.invariant-loop-number
invariant-loop-number l = record {
  bytes : l.out.items ++ numbers_bytes (drop l.number-index l.numbers) ≡ l.fn.out.items ++ numbers_bytes l.fn.numbers;
  len : vec_len l.out + length (numbers_bytes (drop l.number-index l.numbers)) ≡ vec_len l.fn.out + length (numbers_bytes l.fn.numbers);
  room : vec_capacity l.fn.out ≤ vec_capacity l.out;
}
