use Rattle.std.proofs.Common.{◌-◌, ◌≤◌, length, map as mapped}
use Rattle.qx_names.specs.inner.Children.{count_to, entry_of}
use Rattle.qx_names.proofs.search.place_behind.Given as goal

abbrev pub invariant-halves : goal.invariant-halves
invariant-halves l = record {
  low : l.low ≤ count_to (l.fn.directory, l.fn.name) (mapped (entry_of l.fn.table) l.fn.index);
  high : count_to (l.fn.directory, l.fn.name) (mapped (entry_of l.fn.table) l.fn.index) ≤ l.high;
  within : l.high ≤ length l.fn.index;
}

abbrev pub decreases-halves : goal.decreases-halves
decreases-halves l = l.high - l.low
