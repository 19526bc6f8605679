use Rattle.std.proofs.Common.{length, refl}
use Rattle.qx_chan.proofs.StartLemmas.{Kept-empty, same-places}
use Rattle.qx_chan.proofs.channel.Channel.boot.Goals as goal

pub invariant_of-result : goal.invariant_of-result
invariant_of-result c = record {
  spare = refl;
  shared = rw (c.in_ok-users.ensures.none, c.in_ok-tables.ensures.boot, c.user_count.ensures.count) (Kept-empty (length c.args.config.now.users));
  events = rw (c.in_ok-tables.ensures.boot) (same-places (length c.args.config.now.users));
}
