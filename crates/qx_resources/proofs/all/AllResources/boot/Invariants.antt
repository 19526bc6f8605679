use Rattle.std.proofs.Common.{◌≡◌, ◌∷◌, None, take}
use Rattle.qx_resources.specs.Boot.{boot_resources}
use Rattle.qx_resources.proofs.all.AllResources.boot.Given as goal

abbrev pub invariant-loop-number : goal.invariant-loop-number
invariant-loop-number l = l.rows.items ≡ None ∷ boot_resources l.config 1 (take l.number l.config.users)
