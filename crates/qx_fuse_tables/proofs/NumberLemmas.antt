-- Numbers of two users, and two numbers of one, are apart.
use Rattle.std.proofs.Common.{◌≡◌, ◌∙◌, ℕ, ◌+◌, ◌*◌, ◌/◌, ◌%◌, ◌<◌, Bool, cond, ltb, ap, arith, Option, Some, None}
use Rattle.std.proofs.lemmas.Bool.{lt-ltb}
use Rattle.qx_types.specs.declared.names.User.{User}
use Rattle.qx_fuse_tables.specs.Numbers.{NumbersApart}

quotient : (user own : ℕ) → own < 4294967296 → (4294967296 * user + own % 4294967296) / 4294967296 ≡ user
quotient user own small = omega arith

remainder : (user own : ℕ) → own < 4294967296 → (4294967296 * user + own % 4294967296) % 4294967296 ≡ own
remainder user own small = omega arith

pub numbers_apart : NumbersApart
numbers_apart user own few small =
    let whose : User → Bool → Option User = λ one is. cond is (Some one) None in (
      ap (λ (n : ℕ). whose (record { 0 = n }) (ltb n 256)) (quotient user.0 own small) ∙ ap (whose user) (lt-ltb user.0 256 few),
      remainder user.0 own small,
    )
