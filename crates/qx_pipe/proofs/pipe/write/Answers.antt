use Rattle.std.proofs.Common.{rules}
use Rattle.qx_pipe.proofs.ReceivedLemmas.{received-clean}
use Rattle.qx_pipe.proofs.pipe.write.Goals as goal

pub write_clean-own-requires-clause-received : goal.write_clean-own-requires-clause-received
write_clean-own-requires-clause-received c = search (rules, received-clean)

pub write_clean-own-requires-clause-alone : goal.write_clean-own-requires-clause-alone
write_clean-own-requires-clause-alone c = λ none. rw (c.clean_others-before.ensures.same none) (c.anyone_waits-others.ensures.alone none)
