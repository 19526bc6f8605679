use Rattle.std.proofs.Common.{ap, rules, sym}
use Rattle.qx_machine.specs.Machine.{own_held}
use Rattle.qx_machine.specs.Settling.{process_of_item}
use Rattle.qx_chan.specs.Channel.{Channel}
use Rattle.qx_steps.proofs.FreeLemmas.{one-unended}
use Rattle.qx_steps.proofs.performing.free_owner.Goals as goal

pub returns-else-may_have_ended : goal.returns-else-may_have_ended
returns-else-may_have_ended c = record {
  freed =
      sym (ap (λ (d : Channel). record d { room = c.args.channel.now.room })
      (one-unended c.args.channel.now (own_held c.args.held.user.0 c.args.hands.now) (record { user = c.args.held.user; num = process_of_item c.args.held.item }) (c.requires.lives (search rules))));
}
