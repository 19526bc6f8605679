use Rattle.std.proofs.Common.{◌≡◌, ◌∷◌, [], Some, None, replicate}
use Rattle.qx_chan.proofs.users.Users.new.Given as goal

abbrev pub invariant-loop : goal.invariant-loop
invariant-loop l = l.rows.items ≡ None ∷ replicate l.counter (Some (None ∷ []))
