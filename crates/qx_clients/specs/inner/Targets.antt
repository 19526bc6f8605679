-- What only the proofs need of Targets.
use Rattle.std.specs.Prelude.{ℕ, ◌≤◌}
use Rattle.qx_types.specs.declared.limits.TheConstants.Limits.{FIRST_CONNECTION, LAST_CONNECTION}

-- a number that a connection may have
abbrev pub IsConnection : ℕ → Type 0
IsConnection coid = (FIRST_CONNECTION ≤ coid) × (coid ≤ LAST_CONNECTION)
