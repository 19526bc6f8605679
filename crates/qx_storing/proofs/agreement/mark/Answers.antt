use Rattle.std.proofs.Common.{rules}
use Rattle.qx_storing.proofs.MarkLemmas.{marks_twice}
use Rattle.qx_storing.proofs.agreement.mark.Goals as goal

pub returns-then-marks-place-clause-marks : goal.returns-then-marks-place-clause-marks
returns-then-marks-place-clause-marks c = search (rules, marks_twice)
