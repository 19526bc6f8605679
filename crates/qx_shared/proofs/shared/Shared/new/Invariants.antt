use Rattle.std.proofs.Common.{◌≡◌, replicate}
use Rattle.qx_shared.proofs.OwnLemmas.{no_rows}
use Rattle.qx_shared.proofs.shared.Shared.new.Given as goal

-- so many users without pipes
abbrev pub invariant-users : goal.invariant-users
invariant-users l = l.pipes.items ≡ replicate l.counter no_rows
