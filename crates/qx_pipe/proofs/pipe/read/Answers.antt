use Rattle.std.proofs.Common.{rules}
use Rattle.qx_pipe.proofs.ReceivedLemmas.{received-clean}
use Rattle.qx_pipe.proofs.pipe.read.Goals as goal

pub read_clean-own-requires-clause-received : goal.read_clean-own-requires-clause-received
read_clean-own-requires-clause-received c = search (rules, received-clean)

pub read_clean-own-requires-clause-alone : goal.read_clean-own-requires-clause-alone
read_clean-own-requires-clause-alone c = λ none. rw (c.clean_others-before.ensures.same none) (c.anyone_waits-others.ensures.alone none)
