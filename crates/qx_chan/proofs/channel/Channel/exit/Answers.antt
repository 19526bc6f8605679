use Rattle.std.proofs.Common.{◌≤◌, ◌∙◌, length, sym, ap, arith}
use Rattle.std.proofs.lemmas.List.{length-set}
use Rattle.qx_types.specs.Configuration.{limits_of}
use Rattle.qx_notify.specs.Events.{AllEvents}
use Rattle.qx_chan.specs.Users.{process_of}
use Rattle.qx_chan.proofs.EndLemmas.{Kept-ended, all-there, living-there, loses-all, pipes-ended, shown-ended}
use Rattle.qx_chan.proofs.TakePulseLemmas.{has-events}
use Rattle.qx_chan.proofs.channel.Channel.exit.Goals as goal

pub drop_all_items-requires-clause-stands : goal.drop_all_items-requires-clause-stands
drop_all_items-requires-clause-stands c = λ tid. record {
  lines = c.self.invariant.shared.lines (record { proc = c.args.proc; tid = tid });
  pulses = c.self.invariant.shared.pulses (record { proc = c.args.proc; tid = tid });
}

pub disconnect_all-requires : goal.disconnect_all-requires
disconnect_all-requires c =
    let its = living-there (process_of c.self.inside.users c.args.proc) c.in-Some.process.now c.in-Some.ensures.row in
    let few : length c.in-Some.process.now.threads ≤ c.places.result = omega (arith, c.places.ensures.places) in
    record { there = rw c.abandon.ensures.abandoned (all-there c.self.inside.users c.args.proc c.in-Some.process.now its.0 its.1 c.self.inside.tables.shared c.drop_all_items.new.queues c.self.invariant.shared c.places.result few c.drop_all_items.ensures.dropped) }

pub clear-requires-clause-user : goal.clear-requires-clause-user
clear-requires-clause-user c = has-events c.self.inside.users c.self.inside.tables c.args.proc c.in-Some.process.now c.in-Some.ensures.row c.self.invariant

pub invariant_of-self : goal.invariant_of-self
invariant_of-self c =
    let its = living-there (process_of c.self.inside.users c.args.proc) c.in-Some.process.now c.in-Some.ensures.row in
    let few : length c.in-Some.process.now.threads ≤ c.places.result = omega (arith, c.places.ensures.places) in
    let loses = loses-all c.self.inside.users c.args.proc c.in-Some.process.now its.0 its.1 c.end.new.self c.end.ensures.ended c.end.ensures.lost in
    record {
      spare = c.self.invariant.spare;
      shared = rw (c.disconnect_all.ensures.disconnected, c.abandon.ensures.abandoned, c.end.ensures.ended)
          (Kept-ended c.self.inside.users c.args.proc c.in-Some.process.now its.0 its.1 c.self.inside.tables.shared c.drop_all_items.new.queues c.self.invariant.shared c.places.result few c.drop_all_items.ensures.dropped (limits_of c.args.config.now c.args.proc.user.0).disconnect loses);
      events = rw (c.clear.ensures, c.disconnect_all.ensures.disconnected, c.abandon.ensures.abandoned)
          (length-set c.self.inside.tables.events.events c.args.proc.user.0 _ ∙ c.self.invariant.events
          ∙ sym (pipes-ended c.self.inside.users c.args.proc c.in-Some.process.now its.0 its.1 c.self.inside.tables.shared c.drop_all_items.new.queues c.self.invariant.shared c.places.result few c.drop_all_items.ensures.dropped (limits_of c.args.config.now c.args.proc.user.0).disconnect loses));
    }

pub returns-clause-ended : goal.returns-clause-ended
returns-clause-ended c =
    let its = living-there (process_of c.self.inside.users c.args.proc) c.in-Some.process.now c.in-Some.ensures.row in
    let few : length c.in-Some.process.now.threads ≤ c.places.result = omega (arith, c.places.ensures.places) in
    let loses = loses-all c.self.inside.users c.args.proc c.in-Some.process.now its.0 its.1 c.end.new.self c.end.ensures.ended c.end.ensures.lost in
    rw (← c.self.view_is, c.end.ensures.ended, c.disconnect_all.ensures.disconnected, c.abandon.ensures.abandoned)
    (shown-ended c.self.inside.users c.args.proc c.in-Some.process.now its.0 its.1 c.self.inside.tables.shared c.drop_all_items.new.queues c.self.invariant.shared c.places.result few c.drop_all_items.ensures.dropped (limits_of c.args.config.now c.args.proc.user.0).disconnect loses
    c.self.inside.tables.mounts c.self.inside.tables.events.events c.clear.new.self.events (ap (λ (all : AllEvents). all.events) c.clear.ensures))
