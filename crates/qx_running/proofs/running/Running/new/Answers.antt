use Rattle.std.proofs.Common.{ap}
use Rattle.qx_running.proofs.RunLemmas.{run_begins}
use Rattle.qx_running.proofs.running.Running.new.Goals as goal

pub invariant_of-result : goal.invariant_of-result
invariant_of-result c = run_begins c.args.world c.in-Ok.recorder c.know_reached.ensures (ap (λ b. b.items) c.in-Ok.ensures)
