use Rattle.std.proofs.Common.{◌≡◌, ◌<◌, ◌≤◌, ℕ, nat_lt, slice_index, length}
use Rattle.bench_threads.specs.Ends.{end_of, one_more}
use Rattle.bench_threads.proofs.latencies.Latencies.add.Given as goal

-- those before k count it, and the others are as they were
abbrev pub invariant-loop-k : goal.invariant-loop-k
invariant-loop-k l =
    (l.end ≡ end_of l.k)
    × (length l.self.below ≡ 120)
    × (l.self.count ≡ l.initial.self.count)
    × (l.self.longest ≡ l.initial.self.longest)
    × ((j : ℕ) → j < l.k → slice_index l.self.below j ≡ one_more (nat_lt l.nanos (end_of j)) (slice_index l.initial.self.below j))
    × ((j : ℕ) → l.k ≤ j → slice_index l.self.below j ≡ slice_index l.initial.self.below j)
