use Rattle.qx_fuse_wire.proofs.MeaningLemmas.{reply_length}
use Rattle.qx_fuse_wire.proofs.laws.reply_length.Goals as goal

pub returns : goal.returns
returns c = record { reply_length = reply_length }
