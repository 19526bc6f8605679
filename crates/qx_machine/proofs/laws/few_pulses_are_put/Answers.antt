use Rattle.qx_machine.proofs.Puts.{serve_puts}
use Rattle.qx_machine.proofs.laws.few_pulses_are_put.Goals as goal

pub returns : goal.returns
returns c = serve_puts
