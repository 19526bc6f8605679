use Rattle.std.proofs.Common.{◌≡◌, ◌<◌, length}
use Rattle.qx_machine.specs.Events.{without_pulses}
use Rattle.qx_isolation.specs.Lines.{line_at}
use Rattle.qx_notify.specs.Events.{events_of, with_events}
use Rattle.qx_notify.proofs.all.AllEvents.clear.Given as goal

-- what is left to go leads to the same
abbrev pub invariant-pulses : goal.invariant-pulses
invariant-pulses l = record {
  users : l.proc.user.0 < length l.self.events;
  places : l.proc.num < length (events_of l.self l.proc.user.0).pulses;
  left : with_events l.self l.proc.user.0 (without_pulses l.proc.num (events_of l.self l.proc.user.0)) ≡ with_events l.fn.self l.proc.user.0 (without_pulses l.proc.num (events_of l.fn.self l.proc.user.0));
}

abbrev pub decreases-pulses : goal.decreases-pulses
decreases-pulses l = length (line_at (events_of l.self l.proc.user.0).pulses l.proc.num)
