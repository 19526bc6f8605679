use Rattle.qx_chan.proofs.PrioLemmas.{Kept-answer, after_answer}
use Rattle.qx_chan.proofs.channel.Channel.take_reply.Goals as goal

pub invariant_of-self-2 : goal.invariant_of-self-2
invariant_of-self-2 c = record {
  spare = c.self.invariant.spare;
  shared = Kept-answer c.self.inside.users c.self.inside.tables.shared c.args.thread c.in-Some.cell.now _ c.in-Some.ensures.row c.self.invariant.shared c.take_answer.result c.take_answer.ensures.answer c.take_answer.ensures.row;
  events = c.self.invariant.events;
}

pub returns-clause-taken : goal.returns-clause-taken
returns-clause-taken c = rw (← c.self.view_is) (after_answer c.self.inside.users c.self.inside.tables.shared.lines c.self.inside.tables.shared.pipes c.self.inside.tables.events.events c.self.inside.tables.mounts c.self.inside.tables.shared.room c.args.thread c.in-Some.cell.now _ c.take_answer.result c.in-Some.ensures.row c.take_answer.ensures.answer c.take_answer.ensures.row)
