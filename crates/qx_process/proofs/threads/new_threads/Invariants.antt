use Rattle.std.proofs.Common.{◌≡◌, ◌∷◌, None, Some, replicate}
use Rattle.qx_machine.specs.Processes.{new_thread}
use Rattle.qx_process.proofs.threads.new_threads.Given as goal

abbrev pub invariant-loop : goal.invariant-loop
invariant-loop l = l.threads.items ≡ None ∷ replicate l.counter (Some (new_thread l.prio.0))
