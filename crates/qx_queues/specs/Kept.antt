-- How the lines and the nodes stand in the table. No public clause cites this module.
use Rattle.std.specs.Prelude.{Bool, true, false}
use Rattle.qx_queues.specs.Waiting.{Answered, Load, Waits}

abbrev pub HasLoad : Bool → Load → Type 0
HasLoad true (Answered given) = Unit {0}
HasLoad false (Waits call) = Unit {0}
HasLoad _ _ = ⊥
