use Rattle.std.proofs.Common.{◌≡◌, Some, refl}
use Rattle.qx_chan.specs.Calls.{unasked_call, unasked_in}
use Rattle.qx_chan.specs.Users.{thread_row}
use Rattle.qx_chan.proofs.AskLemmas.{Kept-asked, no_pulse}
use Rattle.qx_chan.proofs.CallLemmas.{waits}
use Rattle.qx_chan.proofs.channel.Channel.ask_unblock.Goals as goal

pub ask_unblock-requires-clause-idle : goal.ask_unblock-requires-clause-idle
ask_unblock-requires-clause-idle c =
    let unasked : Some c.args.call ≡ unasked_call (thread_row c.self.inside.users c.args.thread) = rw (← c.self.view_is) at c.requires.unasked in
    no_pulse c.self.inside.users c.self.inside.tables.shared c.args.thread c.args.call unasked c.self.invariant.shared

pub invariant_of-self : goal.invariant_of-self
invariant_of-self c =
    let unasked : Some c.args.call ≡ unasked_call (thread_row c.self.inside.users c.args.thread) = rw (← c.self.view_is) at c.requires.unasked in
    record {
      spare = c.self.invariant.spare;
      shared = rw (c.ask_unblock.ensures.asked, c.ask_unblock-2.ensures.asked) (Kept-asked c.self.inside.users c.self.inside.tables.shared c.args.thread c.args.call unasked c.self.invariant.shared);
      events = rw c.ask_unblock.ensures.asked c.self.invariant.events;
    }

pub ask_unblock-requires-2 : goal.ask_unblock-requires-2
ask_unblock-requires-2 c =
    let unasked : Some c.args.call ≡ unasked_call (thread_row c.self.inside.users c.args.thread) = rw (← c.self.view_is) at c.requires.unasked in
    record { there = rw (waits unasked_in _ c.args.call unasked).there refl }
