use Rattle.std.proofs.Common.{◌≡◌, ℕ, length, slice_get}
use Rattle.qx_lists.specs.Table.{nodes_of}
use Rattle.qx_lists.proofs.WalkLemmas.{nodes_from}
use Rattle.qx_machine.specs.Events.{is_on}
use Rattle.qx_notify.specs.inner.Kept.{event_at}
use Rattle.qx_notify.proofs.NodeLemmas.{Fails}
use Rattle.qx_notify.proofs.lists.find.Given as goal

abbrev pub invariant-nodes : goal.invariant-nodes
invariant-nodes l = record {
  index : ℕ;
  next : slice_get (nodes_of l.table l.list) index ≡ l.next;
  failed : Fails (λ node. is_on l.block (event_at l.table node)) (nodes_of l.table l.list) index;
}

abbrev pub decreases-nodes : goal.decreases-nodes
decreases-nodes l = length (nodes_from l.next (nodes_of l.table l.list))
