use Rattle.qx_chan.proofs.MeaningLemmas.{meaning-in_ranges}
use Rattle.qx_chan.proofs.serving.meaning_of.Goals as goal

pub returns-in-None-clause-ranges : goal.returns-in-None-clause-ranges
returns-in-None-clause-ranges c = rw c.meaning-in-None.ensures.meaning (meaning-in_ranges _)
