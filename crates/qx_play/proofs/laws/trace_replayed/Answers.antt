use Rattle.qx_script.proofs.Replays.{replays}
use Rattle.qx_play.proofs.Shown.{same_steps}
use Rattle.qx_play.proofs.laws.trace_replayed.Goals as goal

pub returns : goal.returns
returns c = record { script = replays; steps = same_steps }
