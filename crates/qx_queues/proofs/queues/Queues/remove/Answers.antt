use Rattle.std.proofs.Common.{ap, is_some, sym, ◌∙◌}
use Rattle.qx_queues.proofs.PresenceLemmas.{thread-lacked, threads-nodes}
use Rattle.qx_queues.proofs.RemoveLemmas.{Kept-removed, free-message, free-unblock, pulses-removed, value-removed}
use Rattle.qx_queues.proofs.queues.Queues.remove.Goals as goal

pub returns-in_default : goal.returns-in_default
returns-in_default c = record { removed = rw (← c.self.view_is) (thread-lacked _ c.args.thread (threads-nodes c.self.inside.nodes c.args.thread ∙ ap is_some (sym c.at.ensures.own ∙ c.in_default.is))) }

pub give_back-requires : goal.give_back-requires
give_back-requires c = record { free = free-message c.self.inside.table c.self.inside.lines.items c.self.inside.nodes c.args.thread c.in-Some.own c.self.invariant.1 (sym c.at.ensures.own ∙ c.in-Some.is) (rw (← c.self.view_is) at c.requires.idle) (rw (← c.self.view_is) at c.requires.unasked) (rw (← c.self.view_is) at c.requires.no_call) }

pub give_back-requires-2 : goal.give_back-requires-2
give_back-requires-2 c = record { free = free-unblock c.self.inside.table c.self.inside.lines.items c.self.inside.nodes c.args.thread c.in-Some.own c.self.invariant.1 (sym c.at.ensures.own ∙ c.in-Some.is) (rw (← c.self.view_is) at c.requires.idle) (rw (← c.self.view_is) at c.requires.unasked) (rw (← c.self.view_is) at c.requires.no_call) _ c.give_back.ensures.freed }

pub invariant_of-self : goal.invariant_of-self
invariant_of-self c =
    let has = sym c.at.ensures.own ∙ c.in-Some.is in
    let gone = rw c.set.ensures.set at c.set.ensures.there in (
      c.self.invariant.0,
      rw c.set.ensures.set (Kept-removed c.self.inside.table c.self.inside.lines.items c.self.inside.nodes c.args.thread c.in-Some.own c.self.invariant.1 has (rw (← c.self.view_is) at c.requires.idle) (rw (← c.self.view_is) at c.requires.unasked) (rw (← c.self.view_is) at c.requires.no_call) _ c.give_back.ensures.freed _ c.give_back-2.ensures.freed gone),
      rw c.set.ensures.set (pulses-removed c.self.inside.table c.self.inside.lines.items c.self.inside.nodes c.args.thread c.in-Some.own c.self.invariant.1 has (rw (← c.self.view_is) at c.requires.idle) (rw (← c.self.view_is) at c.requires.unasked) (rw (← c.self.view_is) at c.requires.no_call) _ c.give_back.ensures.freed _ c.give_back-2.ensures.freed gone c.self.invariant.2),
      c.self.invariant.3,
    )

pub returns : goal.returns
returns c =
    let has = sym c.at.ensures.own ∙ c.in-Some.is in
    let gone = rw c.set.ensures.set at c.set.ensures.there in
    rw (← c.self.view_is, c.set.ensures.set) (record { removed = value-removed c.self.inside.table c.self.inside.lines.items c.self.inside.nodes c.args.thread c.in-Some.own c.self.invariant.1 has (rw (← c.self.view_is) at c.requires.idle) (rw (← c.self.view_is) at c.requires.unasked) (rw (← c.self.view_is) at c.requires.no_call) _ c.give_back.ensures.freed _ c.give_back-2.ensures.freed gone })
