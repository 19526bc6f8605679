use Rattle.std.proofs.Common.{arith, ltb-false}
use Rattle.qx_live.proofs.Absent.{none_from}
use Rattle.qx_live.proofs.session.Session.has_thread_from.Goals as goal

pub returns-clause-none : goal.returns-clause-none
returns-clause-none c = λ is.
    let past = ltb-false c.args.thread c.thread_places.result is in
    none_from c.args.proc.user.0 c.args.proc.num c.args.thread c.args.self.now.world (omega (arith, past))
