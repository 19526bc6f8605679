use Rattle.std.proofs.Common.{◌≡◌}
use Rattle.qx_queues.specs.Queues.{without_nodes_below}
use Rattle.qx_queues.proofs.queues.Queues.remove_process.Given as goal

abbrev pub invariant-loop-tid : goal.invariant-loop-tid
invariant-loop-tid l = l.self ≡ without_nodes_below l.initial.self l.proc l.tid
