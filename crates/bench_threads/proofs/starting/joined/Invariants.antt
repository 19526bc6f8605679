use Rattle.std.proofs.Common.{◌≡◌, vec_len, ◌+◌}
use Rattle.bench_threads.proofs.starting.joined.Given as goal

abbrev pub invariant-loop-thread : goal.invariant-loop-thread
invariant-loop-thread g l = vec_len l.results + l.thread-iterator.rest.len ≡ vec_len l.fn.threads
