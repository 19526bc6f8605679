use Rattle.std.proofs.Common.{◌≡◌, Ok, refl, rules}
use Rattle.std.specs.Option.{option_copied}
use Rattle.qx_machine.specs.Machine.{item_to_do}
use Rattle.qx_isolation.specs.Rows.{row_at}
use Rattle.qx_chan.proofs.RowReads.{row_within}
use Rattle.qx_steps.specs.inner.Parts.{world_of}
use Rattle.qx_steps.proofs.PerformLemmas.{perform-freed, performed, performed-lives, performed-sound}
use Rattle.qx_steps.proofs.WorkerLemmas.{held-read, holds as worker_holds, perform-handled}
use Rattle.qx_steps.proofs.world.World.perform_item.Goals as goal

pub perform-requires-clause-read : goal.perform-requires-clause-read
perform-requires-clause-read c =
    held-read c.self.inside.config c.self.inside.channel c.self.inside.resources c.self.inside.hands.items c.self.invariant.users (option_copied c.args.read) c.args.worker.0 c.args.held (rw (← c.self.view_is) at c.requires.held) (rw (← c.self.view_is) at c.requires.read)

pub assert_unchecked-requires : goal.assert_unchecked-requires
assert_unchecked-requires c =
    let w = world_of c.self.inside.config c.self.inside.channel c.self.inside.resources c.self.inside.hands.items in
    let within = row_within c.self.inside.hands.items c.args.worker.0 c.args.held (worker_holds w c.args.worker.0 c.args.held (rw (← c.self.view_is) at c.requires.held)).1 in
    search rules

pub free_owner-requires : goal.free_owner-requires
free_owner-requires c = record {
  lives = λ still.
      performed-lives c.self.inside.config c.self.inside.channel c.self.inside.resources c.self.inside.hands.items c.self.invariant c.args.worker.0 c.args.held c.args.moment c.perform.new.channel c.perform.new.resources
      (row_at c.self.inside.resources c.args.held.user.0) refl c.in_ok-may_have_ended.ensures.ok (c.in_ok-may_have_ended.ensures.there still);
}

pub invariant_of-self-2 : goal.invariant_of-self-2
invariant_of-self-2 c =
    let holds : item_to_do (world_of c.self.inside.config c.self.inside.channel c.self.inside.resources c.self.inside.hands.items) c.args.worker.0 ≡ Ok c.args.held = rw (← c.self.view_is) at c.requires.held in
    let is = perform-freed c.self.inside.config c.self.inside.channel c.self.inside.resources c.self.inside.hands.items c.self.invariant c.args.worker.0 c.args.held c.args.moment c.perform.new.channel c.perform.new.resources (row_at c.self.inside.resources c.args.held.user.0)
    (worker_holds (world_of c.self.inside.config c.self.inside.channel c.self.inside.resources c.self.inside.hands.items) c.args.worker.0 c.args.held holds).1 refl c.in_ok-may_have_ended.ensures.ok c.free_owner.new.channel (rw (c.as_slice.ensures.value, c.free.ensures.freed) at c.free_owner.ensures.freed) in
    rw (is, c.free.ensures.freed)
    (performed-sound c.self.inside.config c.self.inside.channel c.self.inside.resources c.self.inside.hands.items c.self.invariant c.args.worker.0 c.args.held c.args.moment c.perform.new.channel c.perform.new.resources (row_at c.self.inside.resources c.args.held.user.0)
    holds refl c.in_ok-may_have_ended.ensures.ok c.free_owner.new.channel.room)

pub returns-clause-outcome : goal.returns-clause-outcome
returns-clause-outcome c = rw (perform-handled c.args.self.now c.args.worker c.args.moment c.args.held c.requires.held) refl

pub returns-clause-world : goal.returns-clause-world
returns-clause-world c =
    let w = world_of c.self.inside.config c.self.inside.channel c.self.inside.resources c.self.inside.hands.items in
    let holds : item_to_do w c.args.worker.0 ≡ Ok c.args.held = rw (← c.self.view_is) at c.requires.held in
    let is = perform-freed c.self.inside.config c.self.inside.channel c.self.inside.resources c.self.inside.hands.items c.self.invariant c.args.worker.0 c.args.held c.args.moment c.perform.new.channel c.perform.new.resources (row_at c.self.inside.resources c.args.held.user.0)
    (worker_holds w c.args.worker.0 c.args.held holds).1 refl c.in_ok-may_have_ended.ensures.ok c.free_owner.new.channel (rw (c.as_slice.ensures.value, c.free.ensures.freed) at c.free_owner.ensures.freed) in
    rw (← c.self.view_is, perform-handled w c.args.worker c.args.moment c.args.held holds, is, c.free.ensures.freed)
    (performed c.self.inside.config c.self.inside.channel c.self.inside.resources c.self.inside.hands.items c.self.invariant c.args.worker.0 c.args.held c.args.moment c.perform.new.channel c.perform.new.resources (row_at c.self.inside.resources c.args.held.user.0) refl c.in_ok-may_have_ended.ensures.ok)
