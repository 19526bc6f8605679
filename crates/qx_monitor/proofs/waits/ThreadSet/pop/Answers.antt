use Rattle.std.proofs.Common.{arith}
use Rattle.qx_monitor.proofs.WaitLemmas.{leaves, leaves_alone, none_there, one_fewer, was_there}
use Rattle.qx_monitor.proofs.waits.ThreadSet.pop.Goals as goal

pub returns-then-self-eq0-clause-none : goal.returns-then-self-eq0-clause-none
returns-then-self-eq0-clause-none c = none_there c.args.self.now c.if-self-eq0.true

pub returns-clause-was_in : goal.returns-clause-was_in
returns-clause-was_in c = was_there c.args.self.now c.if-self-eq0.false (omega arith) _ c.thread_of.ensures.user c.thread_of.ensures.number

pub returns-clause-left : goal.returns-clause-left
returns-clause-left c = leaves c.args.self.now _ (omega arith) _ c.thread_of.ensures.user c.thread_of.ensures.number

pub returns-clause-others : goal.returns-clause-others
returns-clause-others c = λ other possible differs. leaves_alone c.args.self.now _ (omega arith) _ other c.thread_of.ensures.user c.thread_of.ensures.number c.thread_of.ensures.possible possible differs

pub returns-clause-fewer : goal.returns-clause-fewer
returns-clause-fewer c = λ _. one_fewer c.args.self.now c.if-self-eq0.false (omega arith)
