use Rattle.std.proofs.Common.{◌≡◌, ◌≤◌, ◌-◌, length, take}
use Rattle.std.specs.Io.KnownBytes.{Appends}
use Rattle.qx_sh.specs.Watched.{has_failed, held}
use Rattle.qx_sh.proofs.streams.write_out.Given as goal

abbrev pub invariant-writes : goal.invariant-writes
invariant-writes g l = record {
  within : l.written ≤ length l.bytes;
  appends : Appends (held g.W.Sink.contents l.initial.writer) (held g.W.Sink.contents l.writer) (take l.written l.bytes);
  no_worse : has_failed l.writer ≡ has_failed l.initial.writer;
}

abbrev pub decreases-writes : goal.decreases-writes
decreases-writes g l = length l.bytes - l.written
