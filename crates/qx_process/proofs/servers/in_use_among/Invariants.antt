use Rattle.std.proofs.Common.{◌≡◌, ◌<◌, ℕ, None, get_or, false}
use Rattle.qx_machine.specs.Servers.{is_in_use}
use Rattle.qx_process.proofs.servers.in_use_among.Given as goal

-- none that was passed is in use
abbrev pub invariant-loop-number : goal.invariant-loop-number
invariant-loop-number l = (before : ℕ) → before < l.number → is_in_use (get_or l.places.items before None) ≡ false
