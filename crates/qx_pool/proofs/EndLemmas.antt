-- How a call, and the waiting for a pulse, end at a seat of any server.
use Rattle.std.proofs.Common.{◌≡◌, ◌≢◌, ◌&&◌, Bool, true, false, not, inl, inr, refl, sym, subst}
use Rattle.std.proofs.lemmas.Bool.{false≢true}
use Rattle.qx_types.specs.declared.names.Proc.{Proc}
use Rattle.qx_types.specs.declared.names.Thread.{Thread}
use Rattle.qx_types.specs.declared.outcome.Outcome.{Outcome}
use Rattle.qx_types.specs.declared.outcome.Outcome.TheVariants as outcome
use Rattle.qx_types.specs.declared.request.Request.{Request}
use Rattle.qx_types.specs.declared.step.Step.{Step}
use Rattle.qx_types.specs.declared.step.Step.TheVariants.{Call, TakePulse, TakeReply}
use Rattle.qx_machine.specs.Machine.{World, step}
use Rattle.qx_chan.specs.Channel.{is_no_pulse}
use Rattle.qx_pool.specs.Ends.{CallAdds, PulseAdds}
use Rattle.qx_world.specs.Outcomes.{may_be_pulse, may_be_taken, may_end_call}
use Rattle.qx_pool.specs.Outcomes.{call_end, pulse_end}
use Rattle.qx_world.proofs.OutcomeLemmas.{step_gives}

-- at a server that was not stopped, what was awaited is no longer to come
pub has_come : (stopped to_come : Bool) → stopped ≡ false → (not stopped && to_come) ≡ false → to_come ≡ false
has_come true to_come going over = absurd (false≢true (sym going))
has_come false to_come going over = over

module _ {Seat : Type 0} (adds : Seat → Seat → Step → Outcome → Type 0) (keeps : Seat → Seat → Type 0) where
  unsent : (thread : Thread) (request : Request) (old new : Seat) (given : Outcome) → may_end_call given ≡ true → given ≢ outcome.Sent → adds old new (Call thread request) given
      → CallAdds adds keeps thread request old new (call_end given)
  unsent thread request old new outcome.Sent may not added = absurd (not refl)
  unsent thread request old new (outcome.Refused errno) may not added = added
  unsent thread request old new outcome.WrongState may not added = inl added
  unsent thread request old new _ may not added = absurd (false≢true may)

  -- the end of a call that was not sent
  pub unsent_ends : (w : World) (thread : Thread) (request : Request) (old new : Seat) (given : Outcome) → given ≡ (step w (Call thread request)).outcome → given ≢ outcome.Sent
      → adds old new (Call thread request) given → CallAdds adds keeps thread request old new (call_end given)
  unsent_ends w thread request old new given is not added = unsent thread request old new given (rw is (step_gives w (Call thread request))) not added

  taken : (thread : Thread) (request : Request) (old between new : Seat) (given : Outcome) → may_be_taken given ≡ true → adds old between (Call thread request) outcome.Sent
      → adds between new (TakeReply thread) given → CallAdds adds keeps thread request old new (call_end given)
  taken thread request old between new (outcome.Reply status bytes) may sent added = (between, sent, added)
  taken thread request old between new (outcome.Failed errno) may sent added = (between, sent, added)
  taken thread request old between new outcome.WrongState may sent added = inr (between, sent, added)
  taken thread request old between new _ may sent added = absurd (false≢true may)

  -- of one that was sent, and whose answer was taken
  pub taken_ends : (w : World) (thread : Thread) (request : Request) (old between new : Seat) (first given : Outcome) → first ≡ outcome.Sent → adds old between (Call thread request) first
      → given ≡ (step w (TakeReply thread)).outcome → adds between new (TakeReply thread) given → CallAdds adds keeps thread request old new (call_end given)
  taken_ends w thread request old between new first given is_sent sent is added =
      taken thread request old between new given (rw is (step_gives w (TakeReply thread))) (subst (λ outcome. adds old between (Call thread request) outcome) is_sent sent) added

  pulse : (proc : Proc) (old new : Seat) (given : Outcome) → may_be_pulse given ≡ true → is_no_pulse given ≡ false → adds old new (TakePulse proc) given
      → PulseAdds adds keeps proc old new (pulse_end given)
  pulse proc old new (outcome.Pulse code value) may some added = added
  pulse proc old new outcome.NoPulse may some added = absurd (false≢true (sym some))
  pulse proc old new outcome.WrongState may some added = added
  pulse proc old new _ may some added = absurd (false≢true may)

  -- the end of the waiting for a pulse that came
  pub pulse_ends : (w : World) (proc : Proc) (old new : Seat) (given : Outcome) → given ≡ (step w (TakePulse proc)).outcome → is_no_pulse (step w (TakePulse proc)).outcome ≡ false
      → adds old new (TakePulse proc) given → PulseAdds adds keeps proc old new (pulse_end given)
  pulse_ends w proc old new given is some added = pulse proc old new given (rw is (step_gives w (TakePulse proc))) (rw is some) added
