use Rattle.std.proofs.Common.{arith}
use Rattle.qx_monitor.proofs.WaitLemmas.{joins, joins_alone}
use Rattle.qx_monitor.proofs.waits.ThreadSet.insert.Goals as goal

pub returns-clause-joined : goal.returns-clause-joined
returns-clause-joined c = joins c.args.self.now _ (omega (arith, c.number_of.ensures.few)) c.args.thread c.requires.user c.number_of.ensures.number

pub returns-clause-others : goal.returns-clause-others
returns-clause-others c = λ other possible differs. joins_alone c.args.self.now _ (omega (arith, c.number_of.ensures.few)) c.args.thread other c.requires.user c.number_of.ensures.number c.requires.possible possible differs
