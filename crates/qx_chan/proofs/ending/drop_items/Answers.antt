use Rattle.std.proofs.Common.{inl, inr, refl, sym}
use Rattle.qx_chan.proofs.CallLemmas.{idle_is, queued_is, unanswered_is}
use Rattle.qx_chan.proofs.EndLemmas.{drops-message, drops-nothing, drops-ready, drops-taken, drops-waiting}
use Rattle.qx_chan.proofs.ending.drop_items.Goals as goal

pub returns-in_default : goal.returns-in_default
returns-in_default c = record { dropped = rw c.in_default.is (drops-nothing c.args.queues.now c.args.thread _ (rw c.in_default.is at c.requires.stands) refl (λ number. refl) (λ number call. refl)) }

pub returns-in-Some-queued : goal.returns-in-Some-queued
returns-in-Some-queued c =
    let queued = queued_is c.in-Some.cell.now.state c.in-Some-queued.sent.now (sym c.in-Some-queued.ensures.message) in
    record { dropped = rw (c.in-Some.is, c.withdraw.ensures.withdrawn) (drops-message c.args.queues.now c.args.thread c.in-Some.cell.now c.in-Some-queued.sent.now (rw c.in-Some.is at c.requires.stands) c.requires.managers queued c.withdraw.ensures.gone) }

pub returns-in-Some-unanswered : goal.returns-in-Some-unanswered
returns-in-Some-unanswered c =
    let stand = rw c.in-Some.is at c.requires.stands in
    let sent = c.in-Some-unanswered.sent.now in
    let gone = rw c.calls.ensures.calls at c.reply.ensures.gone in
    record {
      dropped = rw (c.in-Some.is, c.reply.ensures.replied, c.calls.ensures.calls) (elim (unanswered_is c.in-Some.cell.now.state sent (sym c.in-Some-unanswered.ensures.message)) [
        | inl taken ↦ drops-taken c.args.queues.now c.args.thread c.in-Some.cell.now stand sent c.requires.managers gone taken
        | inr waiting ↦ drops-waiting c.args.queues.now c.args.thread c.in-Some.cell.now stand sent c.requires.managers gone waiting
      ]);
    }

pub returns-in_default-unanswered : goal.returns-in_default-unanswered
returns-in_default-unanswered c =
    let idle = idle_is c.in-Some.cell.now.state (sym c.in_default-queued.ensures.message) (sym c.in_default-unanswered.ensures.message) in
    record { dropped = rw c.in-Some.is (drops-ready c.args.queues.now c.args.thread c.in-Some.cell.now (rw c.in-Some.is at c.requires.stands) idle) }
