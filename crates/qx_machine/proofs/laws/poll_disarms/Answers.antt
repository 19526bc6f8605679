use Rattle.qx_machine.proofs.NotifyLemmas.{none-left}
use Rattle.qx_machine.specs.Events.{is_on}
use Rattle.qx_machine.proofs.laws.poll_disarms.Goals as goal

pub returns : goal.returns
returns c event holding events = none-left (is_on event.block) events.armed
