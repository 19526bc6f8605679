use Rattle.std.proofs.Common.{◌≡◌}
use Rattle.qx_live.specs.Live.{after_steps, pulse_steps}
use Rattle.qx_live.specs.Sessions.{due_of, session_of}
use Rattle.qx_live.proofs.Sequences.{pulses_of}
use Rattle.qx_live.proofs.session.Session.tell_pulses.Given as goal

-- the pulses that are left lead where all of them led
abbrev pub invariant-pulses : goal.invariant-pulses
invariant-pulses l = record {
  same : after_steps (session_of l.self) (pulse_steps l.proc.user.0 l.proc.num (session_of l.self).world) ≡ after_steps (session_of l.initial.self) (pulse_steps l.proc.user.0 l.proc.num (session_of l.initial.self).world);
  due : due_of l.self ≡ due_of l.initial.self;
}

-- there are fewer after each
abbrev pub decreases-pulses : goal.decreases-pulses
decreases-pulses l = pulses_of l.proc (session_of l.self)
