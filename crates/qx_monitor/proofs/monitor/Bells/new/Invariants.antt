use Rattle.std.proofs.Common.{◌≡◌, vec_len}
use Rattle.qx_monitor.proofs.monitor.Bells.new.Given as goal

abbrev pub invariant-making : goal.invariant-making
invariant-making l = vec_len l.each ≡ l._number
