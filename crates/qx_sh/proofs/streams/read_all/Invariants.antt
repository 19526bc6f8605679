use Rattle.std.proofs.Common.{◌≡◌, ◌≤◌, ◌+◌, ◌-◌, length}
use Rattle.std.specs.Io.KnownBytes.{Consumes}
use Rattle.qx_sh.specs.Watched.{has_failed, held}
use Rattle.qx_sh.proofs.streams.read_all.Given as goal

abbrev pub invariant-reads : goal.invariant-reads
invariant-reads g l = record {
  within : length l.text.items ≤ l.limit + 1;
  consumed : Consumes (held g.R.Source.remaining l.initial.reader) (held g.R.Source.remaining l.reader) l.text.items;
  no_worse : has_failed l.reader ≡ has_failed l.initial.reader;
}

abbrev pub decreases-reads : goal.decreases-reads
decreases-reads g l = l.limit + 1 - length l.text.items
