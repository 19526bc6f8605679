use Rattle.std.proofs.Common.{sym, arith}
use Rattle.qx_monitor.proofs.WaitLemmas.{waits_too, waits_still}
use Rattle.qx_monitor.proofs.waits.Waits.insert.Goals as goal

pub returns-clause-waits : goal.returns-clause-waits
returns-clause-waits c = waits_too _ _ _ (omega arith) (omega (arith, c.number_of.ensures.few)) c.args.thread (sym c.from.ensures) c.number_of.ensures.number

pub returns-clause-others : goal.returns-clause-others
returns-clause-others c = λ other. waits_still _ _ _ (omega arith) (omega (arith, c.number_of.ensures.few)) other
