-- What bytes mean has its values in their ranges.
use Rattle.std.proofs.Common.{inl, inr, ℕ, List}
use Rattle.std.proofs.lemmas.Bool.{cases_Bool}
use Rattle.qx_wire.specs.declared.message.Meaning.{Meaning}
use Rattle.qx_wire.specs.declared.message.Meaning.TheVariants.{Known, Unknown, Malformed}
use Rattle.qx_wire.specs.Reading.{cut, judged, meaning}
use Rattle.qx_wire.specs.Table.{in_ranges}
use Rattle.qx_resources.specs.Ranges.{IsInRanges}

-- bytes mean no message whose values are out of their ranges
judged-in_ranges : (given : Meaning) → IsInRanges (judged given)
judged-in_ranges Unknown = tt
judged-in_ranges Malformed = tt
judged-in_ranges (Known message) = elim (cases_Bool (in_ranges message)) [
  | inl good ↦ rw good good
  | inr wrong ↦ rw wrong tt
]

pub meaning-in_ranges : (bytes : List ℕ) → IsInRanges (meaning bytes)
unfolding meaning
meaning-in_ranges bytes = judged-in_ranges (cut bytes)
