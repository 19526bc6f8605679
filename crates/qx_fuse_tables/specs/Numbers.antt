-- Numbers of nodes and handles as they leave to the kernel.
use Rattle.std.specs.Prelude.{ℕ, ◌≡◌, ◌+◌, ◌*◌, ◌/◌, ◌%◌, ◌^◌, ◌<◌, nat_lt, Option, Some, None, if◌then◌else◌}
use Rattle.qx_types.specs.declared.names.User.{User}

-- each user has 2^32 of them
abbrev pub number_of : User → ℕ → ℕ
number_of user own = 2 ^ 32 * user.0 + own % 2 ^ 32

abbrev pub owner : ℕ → Option User
owner number = if nat_lt (number / 2 ^ 32) 256 then Some (record { 0 = number / 2 ^ 32 }) else None

abbrev pub own_part : ℕ → ℕ
own_part number = number % 2 ^ 32

-- a number that was made of a user and of an own number is that user's, and that one
abbrev pub NumbersApart : Type 0
NumbersApart = (user : User) (own : ℕ) → user.0 < 256 → own < 2 ^ 32 → (owner (number_of user own) ≡ Some user) × (own_part (number_of user own) ≡ own)
