use Rattle.std.proofs.Common.{rules}
use Rattle.qx_chan.proofs.ProcessLemmas.{put_back}
use Rattle.qx_chan.proofs.users.Users.start.Goals as goal

pub returns-in_err-start-clause-err : goal.returns-in_err-start-clause-err
returns-in_err-start-clause-err c = put_back _ _ _ _ c.from_residual.result c.in-Some.ensures.row (search rules)
