use Rattle.std.proofs.Common.{refl}
use Rattle.qx_machine.specs.Users.{boot_part}
use Rattle.qx_resources.proofs.resources.Resources.boot.Goals as goal

pub returns : goal.returns
unfolding boot_part
returns c = rw (c.in_ok-boot.ensures.boot, c.limits.ensures.limits) refl
