-- What a call and the waiting for a pulse do at a seat, by how they ended, and how a server ends.
use Rattle.std.specs.Prelude.{◌≡◌, ◌⊎◌}
use Rattle.qx_types.specs.declared.names.Proc.{Proc}
use Rattle.qx_types.specs.declared.names.Thread.{Thread}
use Rattle.qx_types.specs.declared.outcome.Outcome.{Outcome}
use Rattle.qx_types.specs.declared.outcome.Outcome.TheVariants as outcome
use Rattle.qx_types.specs.declared.request.Request.{Request}
use Rattle.qx_types.specs.declared.step.Step.{Step}
use Rattle.qx_types.specs.declared.step.Step.TheVariants.{Call, TakePulse, TakeReply}
use Rattle.qx_world.specs.Trace.{Trace}
use Rattle.qx_pool.specs.declared.ends.CallEnd.{CallEnd}
use Rattle.qx_pool.specs.declared.ends.CallEnd.TheVariants.{Reply, Failed, Refused, WrongState, Stopped, NoMemory}
use Rattle.qx_pool.specs.declared.ends.PulseEnd.{PulseEnd}
use Rattle.qx_pool.specs.declared.ends.PulseEnd.TheVariants as pulse
use Rattle.qx_pool.specs.declared.ends.StepFault.{StepFault}
use Rattle.qx_pool.specs.declared.ends.StepFault.TheVariants as fault
use Rattle.qx_pool.specs.declared.ending.FinishFault.{FinishFault}
use Rattle.qx_pool.specs.declared.ending.FinishFault.TheVariants.{Missing, Disagrees}
use Rattle.qx_world.specs.Seats.{AddsTwo}

module _ {Seat : Type 0} (adds : Seat → Seat → Step → Outcome → Type 0) (keeps : Seat → Seat → Type 0) where
  -- a call by how it ended: of one that has an answer the two steps, of one that was refused the one; of one that the stop of the
  -- server or want of memory ended what was taken before that
  abbrev pub CallAdds : Thread → Request → Seat → Seat → CallEnd → Type 0
  CallAdds thread request old new (Reply status bytes) = AddsTwo adds keeps old new (Call thread request) outcome.Sent (TakeReply thread) (outcome.Reply status bytes)
  CallAdds thread request old new (Failed errno) = AddsTwo adds keeps old new (Call thread request) outcome.Sent (TakeReply thread) (outcome.Failed errno)
  CallAdds thread request old new (Refused errno) = adds old new (Call thread request) (outcome.Refused errno)
  CallAdds thread request old new WrongState =
      adds old new (Call thread request) outcome.WrongState ⊎ AddsTwo adds keeps old new (Call thread request) outcome.Sent (TakeReply thread) outcome.WrongState
  CallAdds thread request old new (Stopped stopped) = (new ≡ old) ⊎ adds old new (Call thread request) outcome.Sent
  CallAdds thread request old new NoMemory = keeps old new ⊎ ((between : Seat) × adds old between (Call thread request) outcome.Sent × keeps between new)

  -- the waiting for a pulse by how it ended
  abbrev pub PulseAdds : Proc → Seat → Seat → PulseEnd → Type 0
  PulseAdds proc old new (pulse.Pulse code value) = adds old new (TakePulse proc) (outcome.Pulse code value)
  PulseAdds proc old new pulse.WrongState = adds old new (TakePulse proc) outcome.WrongState
  PulseAdds proc old new (pulse.Stopped stopped) = new ≡ old
  PulseAdds proc old new pulse.NoMemory = keeps old new

-- what a step that was not taken does at a seat, by why it was not
abbrev pub StepKeeps : {Seat : Type 0} → (Seat → Seat → Type 0) → Seat → Seat → StepFault → Type 0
StepKeeps keeps old new (fault.Stopped step stopped) = new ≡ old
StepKeeps keeps old new (fault.NoMemory step) = keeps old new

-- what holds of each way in which a server has no trace to give
abbrev pub MatchFault : {S V : Type 0} → FinishFault S V → (S → V → Type 0) → (Trace → V → Type 0) → Type 0
MatchFault (Missing server seats) P Q = P server seats
MatchFault (Disagrees traced seats) P Q = Q traced seats
