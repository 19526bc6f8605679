use Rattle.std.proofs.Common.{arith, inl, inr}
use Rattle.bench_threads.proofs.EndLemmas.{end_rises, end_small, lt_or_le}
use Rattle.bench_threads.proofs.latencies.Latencies.within.Goals as goal

-- none before this one does, and those behind it end later
pub returns-then-wanted-from-clause-first : goal.returns-then-wanted-from-clause-first
returns-then-wanted-from-clause-first c = λ k few done. elim (lt_or_le k c.loop-k.k) [
  | inl before ↦ grind (arith, c.loop-k.invariant.1 k before, done)
  | inr behind ↦ grind (arith, c.min.ensures, c.loop-k.invariant.0, end_rises c.loop-k.k k behind)
]

pub overflow_add-end : goal.overflow_add-end
overflow_add-end c = grind (arith, end_small c.loop-k.k c.loop-k-test.true, c.loop-k.invariant.0)

pub overflow_add-end-in-loop-k : goal.overflow_add-end-in-loop-k
overflow_add-end-in-loop-k c = grind (arith, end_small c.loop-k.k c.loop-k-test.true, c.loop-k.invariant.0)
