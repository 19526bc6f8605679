use Rattle.std.proofs.Common.{arith}
use Rattle.qx_queues.proofs.MarkLemmas.{lowest_left, none_left}
use Rattle.qx_queues.proofs.marks.lowest_from.Goals as goal

pub returns-then-left-eq0-clause-none : goal.returns-then-left-eq0-clause-none
returns-then-left-eq0-clause-none c = λ other from within. none_left c.args.marks c.args.number c.if-left-eq0.true other from

pub returns-clause-lowest : goal.returns-clause-lowest
returns-clause-lowest c = lowest_left c.args.marks c.args.number c.ranges.marks.fits (omega (arith, c.if-left-eq0.false))
