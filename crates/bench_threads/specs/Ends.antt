-- The ends of the lengths of time that are told apart, in nanoseconds: each is a quarter longer than the one before.
use Rattle.std.specs.Prelude.{ℕ, zero, suc, ◌+◌, ◌/◌, ◌-◌, ◌^◌, cond, Bool, min}

abbrev pub end_of : ℕ → ℕ
end_of zero = 1
end_of (suc k) = end_of k + end_of k / 4 + 1

-- one more, if that is so; a number of 64 bits stays at the greatest
abbrev pub one_more : Bool → ℕ → ℕ
one_more counts n = cond counts (min (n + 1) (2 ^ 64 - 1)) n
