use Rattle.std.proofs.Common.{◌≡◌, ℕ, [], length}
use Rattle.qx_lists.specs.Table.{nodes_of}
use Rattle.qx_queues.specs.inner.Kept.{AreListsOfTable}
use Rattle.qx_queues.proofs.BesideLemmas.{NoPipes}
use Rattle.qx_queues.specs.Nodes.{no_nodes, node_of}
use Rattle.qx_queues.proofs.queues.Queues.new.Given as goal

-- so many lines, nobody has a node, and no list has one
abbrev pub invariant-managers : goal.invariant-managers
invariant-managers l = (length l.lines.items ≡ l.counter) × (l.table.room ≡ 0) × AreListsOfTable l.table l.lines.items l.answered (node_of (no_nodes l.fn.users)) × NoPipes l.table l.lines.items l.answered × ((list : ℕ) → nodes_of l.table list ≡ [])
