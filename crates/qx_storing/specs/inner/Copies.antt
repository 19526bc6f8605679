-- Copies of an outcome that were made before its step was taken.
use Rattle.std.specs.Prelude.{◌≡◌, Option, Some, None, false}
use Rattle.qx_types.specs.declared.outcome.Outcome.{Outcome}
use Rattle.qx_world.specs.Outcomes.{is_reply}

-- both are the outcome; or there are none, and the outcome is no reply
abbrev pub AreCopies : Option (Outcome × Outcome) → Outcome → Type 0
AreCopies None outcome = is_reply outcome ≡ false
AreCopies (Some both) outcome = (both.0 ≡ outcome) × (both.1 ≡ outcome)
