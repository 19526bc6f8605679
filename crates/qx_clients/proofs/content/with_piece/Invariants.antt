use Rattle.std.proofs.Common.{◌≡◌, ◌+◌, ◌++◌, take, vec_capacity, vec_len}
use Rattle.qx_clients.proofs.content.with_piece.Given as goal

abbrev pub invariant-loop-number : goal.invariant-loop-number
invariant-loop-number l = record {
  added : l.bytes.items ≡ l.initial.bytes.items ++ take l.number l.piece;
  capacity : vec_capacity l.bytes ≡ vec_capacity l.initial.bytes;
  count : vec_len l.bytes ≡ vec_len l.initial.bytes + l.number;
}
