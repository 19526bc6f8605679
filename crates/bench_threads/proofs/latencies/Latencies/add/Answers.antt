use Rattle.std.proofs.Common.{arith}
use Rattle.bench_threads.proofs.EndLemmas.{end_small}
use Rattle.bench_threads.proofs.latencies.Latencies.add.Goals as goal

pub overflow_add-end : goal.overflow_add-end
overflow_add-end c = grind (arith, end_small c.loop-k.k c.loop-k-test.true, c.loop-k.invariant.0)

pub overflow_add-end-in-loop-k : goal.overflow_add-end-in-loop-k
overflow_add-end-in-loop-k c = grind (arith, end_small c.loop-k.k c.loop-k-test.true, c.loop-k.invariant.0)
