use Rattle.qx_lists.specs.Table.{IsFree}
use Rattle.qx_lines.specs.Line.{IsLineOf}
use Rattle.bench_times.proofs.calls.put_and_remove.Given as goal

abbrev pub invariant-rounds : goal.invariant-rounds
invariant-rounds l = record {
  of : IsLineOf (λ item. 10) l.table l.line;
  free : IsFree l.table l.node;
}
