use Rattle.qx_lines.specs.Line.{IsLineOf}
use Rattle.bench_times.proofs.calls.line_up.Given as goal

abbrev pub invariant-nodes : goal.invariant-nodes
invariant-nodes l = IsLineOf (λ item. 10) l.table l.line
