use Rattle.std.proofs.Common.{◌≡◌, ◌<◌, ◌≤◌, ◌^◌, ◌-◌, ◌+◌, ℕ, min, slice_index, length}
use Rattle.bench_threads.proofs.latencies.Latencies.merge.Given as goal

-- those before k are added, and the others are as they were
abbrev pub invariant-loop-k : goal.invariant-loop-k
invariant-loop-k l =
    (length l.self.below ≡ 120)
    × (l.self.count ≡ l.initial.self.count)
    × (l.self.longest ≡ l.initial.self.longest)
    × ((j : ℕ) → j < l.k → slice_index l.self.below j ≡ min (slice_index l.initial.self.below j + slice_index l.other.below j) (2 ^ 64 - 1))
    × ((j : ℕ) → l.k ≤ j → slice_index l.self.below j ≡ slice_index l.initial.self.below j)
