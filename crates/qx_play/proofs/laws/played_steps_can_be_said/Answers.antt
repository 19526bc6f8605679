use Rattle.qx_play.proofs.PlayedSteps.{played_said}
use Rattle.qx_script.proofs.ReadScripts.{script_read}
use Rattle.qx_play.proofs.laws.played_steps_can_be_said.Goals as goal

pub returns : goal.returns
returns c = record {
  configured = λ text config commands good. (script_read text config commands good).configured;
  limits = λ text config commands good. (script_read text config commands good).limits;
  said = played_said;
}
