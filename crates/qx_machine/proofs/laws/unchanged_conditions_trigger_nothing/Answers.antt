use Rattle.qx_machine.proofs.NotifyLemmas.{settled-unchanged}
use Rattle.qx_machine.proofs.laws.unchanged_conditions_trigger_nothing.Goals as goal

pub returns : goal.returns
returns c = settled-unchanged
