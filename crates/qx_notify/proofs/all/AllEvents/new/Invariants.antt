use Rattle.std.proofs.Common.{◌≡◌, length, replicate}
use Rattle.qx_notify.proofs.BootLemmas.{AreEmpty}
use Rattle.qx_notify.proofs.all.AllEvents.new.Given as goal

abbrev pub invariant-users : goal.invariant-users
invariant-users l = record {
  count : length l.lists.items ≡ l.counter;
  counts : l.counts.items ≡ replicate l.counter 0;
  room : l.table.room ≡ 0;
  empty : AreEmpty l.table l.lists.items;
}
