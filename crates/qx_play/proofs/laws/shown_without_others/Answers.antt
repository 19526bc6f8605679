use Rattle.qx_play.proofs.Shown.{shown_last}
use Rattle.qx_play.proofs.laws.shown_without_others.Goals as goal

pub returns : goal.returns
returns c = record { same_text = shown_last }
