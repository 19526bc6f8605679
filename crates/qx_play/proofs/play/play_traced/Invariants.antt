use Rattle.std.proofs.Common.{◌≡◌}
use Rattle.std.specs.Vec.Iter.{into_iter_items, into_iter_len}
use Rattle.qx_play.specs.Play.{played, played_lines}
use Rattle.qx_play.proofs.play.play_traced.Given as goal

-- the lines that are left lead where all of them lead, in a trace of the same configuration
abbrev pub invariant-lines : goal.invariant-lines
invariant-lines l = record {
  config : l.traced.config ≡ l.initial.traced.config;
  lines : played_lines l.traced.config (record { steps = l.traced.steps; text = l.text.items }) (into_iter_items l.lines) ≡ played l.initial.traced.config (into_iter_items l.initial.lines);
}

abbrev pub decreases-lines : goal.decreases-lines
decreases-lines l = into_iter_len l.lines
