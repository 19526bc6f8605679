-- What only the proofs need of Reads.
use Rattle.std.specs.Prelude.{Bool, false, Option, Some, None}
use Rattle.qx_machine.specs.declared.rows.ThreadRow.{ThreadRow}
use Rattle.qx_machine.specs.Calls.{is_ready}

abbrev pub is_thread_ready : Option ThreadRow → Bool
is_thread_ready None = false
is_thread_ready (Some row) = is_ready row.state
