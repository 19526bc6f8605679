use Rattle.std.proofs.Common.{◌≡◌, ℕ, length, slice_get}
use Rattle.qx_lists.specs.Table.{nodes_of}
use Rattle.qx_lists.proofs.WalkLemmas.{nodes_from}
use Rattle.qx_queues.specs.inner.Kept.{waiting_of_node}
use Rattle.qx_queues.specs.Waiting.{call_carried}
use Rattle.qx_queues.specs.Waits.{leaves}
use Rattle.qx_queues.proofs.WalkLemmas.{Stays}
use Rattle.qx_queues.proofs.waits.first_leaving.Given as goal

abbrev pub invariant-nodes : goal.invariant-nodes
invariant-nodes l = record {
  index : ℕ;
  next : slice_get (nodes_of l.table l.list) index ≡ l.next;
  stayed : Stays (λ node. leaves l.which (call_carried (waiting_of_node l.table node))) (nodes_of l.table l.list) index;
}

abbrev pub decreases-nodes : goal.decreases-nodes
decreases-nodes l = length (nodes_from l.next (nodes_of l.table l.list))
