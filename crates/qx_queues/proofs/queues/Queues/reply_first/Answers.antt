use Rattle.std.proofs.Common.{◌∙◌, [], ◌∷◌, ap}
use Rattle.qx_types.specs.declared.outcome.Answer.TheVariants.{Reply}
use Rattle.qx_queues.specs.Queues.{answer_to, waiting_in_list, with_more_answers}
use Rattle.qx_queues.specs.Waits.{users_call}
use Rattle.qx_queues.proofs.LeavingLemmas.{first-answered, first-there, first-written}
use Rattle.qx_queues.proofs.queues.Queues.reply_first.Goals as goal

pub unreachable-requires : goal.unreachable-requires
unreachable-requires c = first-there (waiting_in_list c.args.self.now c.args.list) c.requires.waits c.in-None.ensures.first

pub returns-clause-answered : goal.returns-clause-answered
returns-clause-answered c =
    let own = users_call c.in-Some.user.0 c.in-Some.call in
    let answer = Reply c.args.status c.args.given.now in
    c.reply_given.ensures.answered ∙ ap (λ q. with_more_answers q (answer_to own answer ∷ [])) c.in-Some.ensures.taken
    ∙ first-answered answer own c.args.self.now c.args.list (waiting_in_list c.args.self.now c.args.list) c.in-Some.ensures.first

pub returns-clause-written : goal.returns-clause-written
returns-clause-written c = c.reply_given.ensures.written ∙ first-written (Reply c.args.status c.args.given.now) (users_call c.in-Some.user.0 c.in-Some.call) (waiting_in_list c.args.self.now c.args.list) c.in-Some.ensures.first
