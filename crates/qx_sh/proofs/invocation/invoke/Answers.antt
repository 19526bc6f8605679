use Rattle.qx_sh.proofs.invocation.invoke.Goals as goal

pub returns : goal.returns
returns g c = record {
  exit = record {
    end = c.end_of-end.result;
    ends = c.end_of-end.ensures.ends;
    status_is = c.status.ensures.status;
    whole = c.report.ensures.whole;
    front = c.report.ensures.front;
  };
}
