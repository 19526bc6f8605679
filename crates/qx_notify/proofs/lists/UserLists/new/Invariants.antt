use Rattle.std.proofs.Common.{◌≡◌, ◌∷◌, length}
use Rattle.qx_notify.specs.inner.Kept.{AreNew}
use Rattle.qx_notify.proofs.lists.UserLists.new.Given as goal

abbrev pub invariant-processes : goal.invariant-processes
invariant-processes l = record {
  count : length l.pulses.items ≡ l.counter;
  new : AreNew l.fn.table l.table (l.armed ∷ l.pulses.items);
}
