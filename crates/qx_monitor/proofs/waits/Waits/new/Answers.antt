use Rattle.qx_monitor.proofs.WaitLemmas.{none_waits}
use Rattle.qx_monitor.proofs.waits.Waits.new.Goals as goal

pub returns : goal.returns
returns c = λ thread. none_waits 256 thread
