use Rattle.qx_sh.proofs.Invoked.{front_reported, whole_reported}
use Rattle.qx_sh.proofs.ending.report.Goals as goal

pub returns : goal.returns
returns g c = record {
  whole = λ unfailed. whole_reported c.write_report.result _ _ _ _ c.write_report.ensures.whole c.write_report.ensures.failed unfailed;
  front = front_reported c.write_report.result _ _ _ c.write_report.ensures.whole c.write_report.ensures.front;
}
