use Rattle.qx_script.proofs.ReadBack.{read_back}
use Rattle.qx_script.proofs.laws.traced_step_read_back.Goals as goal

pub returns : goal.returns
returns c = record { read_back = read_back }
