use Rattle.qx_play.proofs.Serving.{none_waits}
use Rattle.qx_play.proofs.play.none_waits_once_served.Goals as goal

pub returns : goal.returns
returns c = record { none_waits = none_waits }
