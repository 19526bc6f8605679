-- Which outcomes a step can have.
use Rattle.std.specs.Prelude.{Bool, true, false, not}
use Rattle.qx_types.specs.declared.outcome.Outcome.{Outcome}
use Rattle.qx_types.specs.declared.outcome.Outcome.TheVariants.{Refused, Sent, Reply, Failed, Pulse, NoPulse, WrongState}
use Rattle.qx_types.specs.declared.step.Step.{Step}
use Rattle.qx_types.specs.declared.step.Step.TheVariants.{Call, TakePulse, TakeReply}

abbrev pub is_reply : Outcome → Bool
is_reply (Reply status bytes) = true
is_reply _ = false

-- what a call gives at once
abbrev pub may_end_call : Outcome → Bool
may_end_call Sent = true
may_end_call (Refused errno) = true
may_end_call WrongState = true
may_end_call _ = false

-- what a thread is told that takes its answer
abbrev pub may_be_taken : Outcome → Bool
may_be_taken (Reply status bytes) = true
may_be_taken (Failed errno) = true
may_be_taken WrongState = true
may_be_taken _ = false

-- what a process is told that takes a pulse
abbrev pub may_be_pulse : Outcome → Bool
may_be_pulse (Pulse code value) = true
may_be_pulse NoPulse = true
may_be_pulse WrongState = true
may_be_pulse _ = false

-- what a step may give: a reply only where an answer is taken
abbrev pub may_give : Step → Outcome → Bool
may_give (Call thread request) outcome = may_end_call outcome
may_give (TakeReply thread) outcome = may_be_taken outcome
may_give (TakePulse proc) outcome = may_be_pulse outcome
may_give _ outcome = not (is_reply outcome)
