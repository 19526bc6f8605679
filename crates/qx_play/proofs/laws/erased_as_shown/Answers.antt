use Rattle.qx_play.proofs.Shown.{erased_last}
use Rattle.qx_play.proofs.laws.erased_as_shown.Goals as goal

pub returns : goal.returns
returns c = record { same_text = erased_last }
