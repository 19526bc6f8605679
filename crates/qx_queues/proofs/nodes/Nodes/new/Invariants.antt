use Rattle.std.proofs.Common.{◌≡◌, replicate}
use Rattle.qx_queues.specs.Nodes.{no_process_nodes}
use Rattle.qx_queues.proofs.nodes.Nodes.new.Given as goal

abbrev pub invariant-loop : goal.invariant-loop
invariant-loop l = l.places.items ≡ replicate l.counter no_process_nodes
