use Rattle.std.proofs.Common.{◌∙◌, arith, length-drop}
use Rattle.qx_sh.proofs.Written.{appends_next, front_kept, on_err, rest_whole}
use Rattle.qx_sh.proofs.streams.write_out.Goals as goal

pub writes-preserved : goal.writes-preserved
writes-preserved g c =
    let bound = rw rest_whole at c.in_ok-written.ensures.bound.1 in
    record {
      within = omega (arith, bound, length-drop c.writes.written c.args.bytes.now);
      appends = appends_next _ _ _ c.args.bytes.now c.writes.written c.in_ok-written.field-0 c.writes.invariant.appends (rw rest_whole at c.in_ok-written.ensures.bytes);
      no_worse = c.in_ok-written.ensures.no_worse ∙ c.writes.invariant.no_worse;
    }

pub returns-in_err-written-clause-front : goal.returns-in_err-written-clause-front
returns-in_err-written-clause-front g c = on_err _ _ (front_kept _ _ _ c.args.bytes.now c.writes.written c.writes.invariant.appends c.in_err-written.ensures.bytes)
