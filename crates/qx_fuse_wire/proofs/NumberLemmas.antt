-- Numbers, one behind the other.
use Rattle.std.proofs.Common.{◌≡◌, ℕ, suc, ◌<◌, ◌+◌, List, ◌++◌, get_or, drop, length, ap, drop-cons, arith}
use Rattle.qx_fuse_wire.specs.declared.numbers.Number.{Number}
use Rattle.qx_fuse_wire.specs.Replies.{number_bytes, numbers_bytes}

-- the next one and those behind it
pub numbers_left : (xs : List Number) (i : ℕ) (d : Number) → i < length xs → numbers_bytes (drop i xs) ≡ number_bytes (get_or xs i d) ++ numbers_bytes (drop (i + 1) xs)
numbers_left xs i d lt = let e : i + 1 ≡ suc i = omega arith in rw e (ap numbers_bytes (drop-cons xs i d lt))
