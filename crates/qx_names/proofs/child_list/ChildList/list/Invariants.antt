use Rattle.std.proofs.Common.{◌≡◌, ◌+◌, ◌≤◌, ◌++◌, ℕ, length, slice_get}
use Rattle.qx_lists.proofs.WalkLemmas.{nodes_from}
use Rattle.qx_machine.specs.Names.{names_behind, fitting, listing}
use Rattle.qx_types.specs.declared.limits.TheConstants.Limits.{TRANSFER}
use Rattle.qx_names.specs.inner.Children.{count_to, entries_of}
use Rattle.qx_names.specs.inner.Folders.{names_of}
use Rattle.qx_names.proofs.ListingLemmas.{left}
use Rattle.qx_names.proofs.child_list.ChildList.list.Given as goal

abbrev pub invariant-nodes : goal.invariant-nodes
invariant-nodes l = record {
  index : ℕ;
  next : slice_get l.self.nodes index ≡ l.next;
  names : l.reply ++ listing (left l.table l.self l.directory index l.room) ≡ listing (fitting TRANSFER (names_behind l.after (names_of l.directory (entries_of l.table l.self))));
  count : l.count + length (left l.table l.self l.directory index l.room) ≡ length (fitting TRANSFER (names_behind l.after (names_of l.directory (entries_of l.table l.self))));
  from : count_to (l.directory, l.after) (entries_of l.table l.self) ≤ index;
  room : length l.reply + l.room ≡ TRANSFER;
  few : l.count ≤ length l.reply;
}

abbrev pub decreases-nodes : goal.decreases-nodes
decreases-nodes l = length (nodes_from l.next l.self.nodes)
