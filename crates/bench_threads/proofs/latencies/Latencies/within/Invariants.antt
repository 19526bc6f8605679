use Rattle.std.proofs.Common.{◌≡◌, ◌<◌, ◌*◌, ℕ, slice_index}
use Rattle.bench_threads.specs.Ends.{end_of}
use Rattle.bench_threads.proofs.latencies.Latencies.within.Given as goal

-- in none of those before k they were done
abbrev pub invariant-loop-k : goal.invariant-loop-k
invariant-loop-k l =
    (l.end ≡ end_of l.k)
    × ((j : ℕ) → j < l.k → 1000 * slice_index l.self.below j < l.thousandths * l.self.count)
