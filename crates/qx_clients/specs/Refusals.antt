-- Why a call sends nothing, as the outcome that it gets.
use Rattle.std.specs.Prelude.{Option, Some, None}
use Rattle.qx_base.specs.declared.errno.Errno.{Errno}
use Rattle.qx_types.specs.declared.outcome.Outcome.{Outcome}
use Rattle.qx_types.specs.declared.outcome.Outcome.TheVariants.{Refused, WrongState}

abbrev pub outcome_of : Option Errno → Outcome
outcome_of None = WrongState
outcome_of (Some error) = Refused error
