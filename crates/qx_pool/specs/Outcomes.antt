-- The end of a call, and of the waiting for a pulse, as the last outcome tells it.
use Rattle.qx_types.specs.declared.outcome.Outcome.{Outcome}
use Rattle.qx_types.specs.declared.outcome.Outcome.TheVariants as outcome
use Rattle.qx_types.specs.declared.step.Step.{Step}
use Rattle.qx_pool.specs.declared.ends.CallEnd.{CallEnd}
use Rattle.qx_pool.specs.declared.ends.CallEnd.TheVariants.{Reply, Failed, Refused, WrongState}
use Rattle.qx_pool.specs.declared.ends.PulseEnd.{PulseEnd}
use Rattle.qx_pool.specs.declared.ends.PulseEnd.TheVariants as pulse
use Rattle.qx_pool.specs.declared.ends.StepFault.{StepFault}
use Rattle.qx_pool.specs.declared.ends.StepFault.TheVariants as fault

abbrev pub call_end : Outcome → CallEnd
call_end (outcome.Reply status bytes) = Reply status bytes
call_end (outcome.Failed errno) = Failed errno
call_end (outcome.Refused errno) = Refused errno
call_end _ = WrongState

abbrev pub pulse_end : Outcome → PulseEnd
pulse_end (outcome.Pulse code value) = pulse.Pulse code value
pulse_end _ = pulse.WrongState

-- the step that was not taken
abbrev pub step_of : StepFault → Step
step_of (fault.Stopped step stopped) = step
step_of (fault.NoMemory step) = step
