use Rattle.qx_queues.proofs.AbandonLemmas.{Kept-abandoned, messages-there, pulses-abandoned, value-abandoned}
use Rattle.qx_queues.proofs.queues.Queues.abandon.Goals as goal

pub abandon_all-requires : goal.abandon_all-requires
abandon_all-requires c = record { there = messages-there c.self.inside.table c.self.inside.lines.items c.self.inside.nodes c.self.invariant.1 c.args.proc c.threads.result.now c.threads.ensures.own }

pub invariant_of-self : goal.invariant_of-self
invariant_of-self c =
    let kept = c.self.invariant.1 in (
      c.self.invariant.0,
      Kept-abandoned c.self.inside.table c.self.inside.lines.items c.self.inside.nodes kept c.args.proc c.threads.result.now c.threads.ensures.own _ c.abandon_all.ensures,
      pulses-abandoned c.self.inside.table c.self.inside.lines.items c.self.inside.nodes kept c.args.proc c.threads.result.now c.threads.ensures.own _ c.abandon_all.ensures _ c.self.invariant.2,
      c.self.invariant.3,
    )

pub returns : goal.returns
returns c = rw (← c.self.view_is) (value-abandoned c.self.inside.table c.self.inside.lines.items c.self.inside.nodes c.self.invariant.1 c.args.proc c.threads.result.now c.threads.ensures.own _ c.abandon_all.ensures)
