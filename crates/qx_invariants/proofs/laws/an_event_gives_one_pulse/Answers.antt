use Rattle.qx_invariants.proofs.Events.{ended-queue, living-queue}
use Rattle.qx_invariants.proofs.laws.an_event_gives_one_pulse.Goals as goal

pub returns : goal.returns
returns c = record { living = living-queue; ended = ended-queue }
