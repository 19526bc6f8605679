use Rattle.qx_machine.proofs.NotifyLemmas.{none-left}
use Rattle.qx_machine.specs.Events.{is_due}
use Rattle.qx_machine.proofs.laws.due_events_are_unarmed.Goals as goal

pub returns : goal.returns
returns c lives before after events = none-left (is_due before after) events.armed
