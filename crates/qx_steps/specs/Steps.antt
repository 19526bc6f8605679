-- How a call is judged.
use Rattle.std.specs.Prelude.{Option, Some, None, Result, Err}
use Rattle.qx_types.specs.Configuration.{Configuration}
use Rattle.qx_types.specs.declared.names.Thread.{Thread}
use Rattle.qx_types.specs.declared.outcome.Outcome.{Outcome}
use Rattle.qx_types.specs.declared.outcome.Outcome.TheVariants.{WrongState}
use Rattle.qx_types.specs.declared.request.Request.{Request}
use Rattle.qx_machine.specs.declared.rows.Addressed.{Addressed}
use Rattle.qx_machine.specs.Clients.{target_by}
use Rattle.qx_machine.specs.Machine.{World}
use Rattle.qx_machine.specs.Parts.{Part}
use Rattle.qx_isolation.specs.Rows.{row_at}

abbrev pub target_from : Configuration → Thread → Request → Option Part → Result Addressed Outcome
target_from config thread request None = Err WrongState
target_from config thread request (Some part) = target_by config thread.proc.user.0 part.resources.mounts part.processes thread request

-- where a call goes, or the outcome of one that goes nowhere
abbrev pub target_in : World → Thread → Request → Result Addressed Outcome
target_in w thread request = target_from w.config thread request (row_at w.parts thread.proc.user.0)
