use Rattle.std.proofs.Common.{◌≡◌, ◌∷◌, None, replicate}
use Rattle.qx_steps.proofs.world.empty_hands.Given as goal

abbrev pub invariant-loop : goal.invariant-loop
invariant-loop l = l.hands.items ≡ None ∷ replicate l.counter None
