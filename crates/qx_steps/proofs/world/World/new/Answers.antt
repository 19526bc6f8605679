use Rattle.std.proofs.Common.{None, ◌∷◌, replicate}
use Rattle.qx_chan.specs.Channel.{boot_channel}
use Rattle.qx_resources.specs.Boot.{boot_resources}
use Rattle.qx_steps.proofs.OwnerLemmas.{sound-boot}
use Rattle.qx_steps.proofs.PartsLemmas.{of-boot, world-boot}
use Rattle.qx_steps.proofs.world.World.new.Goals as goal

pub invariant_of-result : goal.invariant_of-result
invariant_of-result c =
    rw (c.in_ok-channel.ensures.boot, c.in_ok-resources.ensures, c.in_ok-hands.ensures, c.workers.ensures.workers)
    (sound-boot c.args.config (boot_channel c.args.config) (None ∷ boot_resources c.args.config 1 c.args.config.users) (None ∷ replicate c.args.config.workers None) (of-boot c.args.config) (world-boot c.args.config))

pub returns : goal.returns
returns c = rw (c.in_ok-channel.ensures.boot, c.in_ok-resources.ensures, c.in_ok-hands.ensures, c.workers.ensures.workers) (world-boot c.args.config)
