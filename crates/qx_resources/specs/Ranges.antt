-- Which bytes may be done.
use Rattle.std.specs.Prelude.{⊤, IsTrue}
use Rattle.qx_wire.specs.declared.message.Meaning.{Meaning}
use Rattle.qx_wire.specs.declared.message.Meaning.TheVariants.{Known}
use Rattle.qx_wire.specs.Table.{in_ranges}

-- a message whose values are in their ranges, or none
abbrev pub IsInRanges : Meaning → Type 0
IsInRanges (Known message) = IsTrue (in_ranges message)
IsInRanges _ = ⊤
