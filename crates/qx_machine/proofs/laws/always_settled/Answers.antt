use Rattle.qx_machine.proofs.Due.{none_due}
use Rattle.qx_machine.proofs.Settled.{ended_kept}
use Rattle.qx_machine.proofs.laws.always_settled.Goals as goal

pub returns : goal.returns
returns c = record { events = none_due; processes = ended_kept }
