use Rattle.qx_isolation.specs.declared.rows.OwnItem.TheVariants as item
use Rattle.qx_chan.proofs.ReceiveLemmas.{Kept-pulse, Kept-received, message-there}
use Rattle.qx_chan.proofs.channel.Channel.receive.Goals as goal

pub take-requires : goal.take-requires
take-requires c = record { there = message-there c.self.inside.users c.self.inside.tables.shared c.args.manager c.in_ok-first.first c.in-Message.process c.in-Message.thread c.in-Message.is c.in_ok-first.ensures.first c.self.invariant.shared }

pub invariant_of-self-in-Message : goal.invariant_of-self-in-Message
invariant_of-self-in-Message c =
    record {
      spare = c.self.invariant.spare;
      shared = rw (c.take.ensures.taken, c.receive.ensures.rest)
          (Kept-received c.self.inside.users c.self.inside.tables.shared c.args.manager c.in_ok-first.first (item.Message c.in-Message.process c.in-Message.thread) c.in-Message.is c.in_ok-first.ensures.first c.in_ok-first.ensures.gone c.self.invariant.shared);
      events = rw c.receive.ensures.rest c.self.invariant.events;
    }

pub invariant_of-self-in-Unblock : goal.invariant_of-self-in-Unblock
invariant_of-self-in-Unblock c =
    record {
      spare = c.self.invariant.spare;
      shared = rw c.receive.ensures.rest
          (Kept-pulse c.self.inside.users c.self.inside.tables.shared c.args.manager c.in_ok-first.first c.in_ok-first.ensures.first c.in_ok-first.ensures.gone c.self.invariant.shared c.in-Unblock.is);
      events = rw c.receive.ensures.rest c.self.invariant.events;
    }
