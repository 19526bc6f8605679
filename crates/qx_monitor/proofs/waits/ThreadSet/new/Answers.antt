use Rattle.std.proofs.Common.{refl}
use Rattle.qx_monitor.proofs.WaitLemmas.{none_there}
use Rattle.qx_monitor.proofs.waits.ThreadSet.new.Goals as goal

pub returns-clause-none : goal.returns-clause-none
returns-clause-none c = none_there _ refl
