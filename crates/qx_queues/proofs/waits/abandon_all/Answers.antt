use Rattle.std.proofs.Common.{◌∙◌, ap, sym, None}
use Rattle.qx_lists.specs.Table.{with_value}
use Rattle.qx_rows.proofs.RowLemmas.{same_default}
use Rattle.qx_queues.proofs.AbandonLemmas.{Abandoned-none, Abandoned-one}
use Rattle.qx_queues.proofs.waits.abandon_all.Goals as goal
use Rattle.qx_queues.proofs.waits.abandon_all.Goals.{in-Some, in_default}

pub loop-row-preserved : goal.loop-row-preserved
loop-row-preserved c =
    let read = same_default c.args.threads.now c.loop-row.row-index None c.row-item.result c.loop-row-test.true ∙ sym c.row-item.is in
    elim c.match-row.branch [
      | in-Some w ↦ Abandoned-one c.args.table.now c.loop-row.table c.args.threads.now c.loop-row.row-index c.loop-row.invariant c.loop-row-test.true c.match-row.table w.in-Some.own (read ∙ w.in-Some.is) w.value_mut.result.now w.value_mut.ensures.value (w.table-is ∙ ap (with_value c.loop-row.table w.in-Some.own.message) w.abandon.ensures.gone)
      | in_default w ↦ rw w.table-is (Abandoned-none c.args.table.now c.loop-row.table c.args.threads.now c.loop-row.row-index c.loop-row.invariant c.loop-row-test.true (read ∙ w.in_default.is))
    ]
