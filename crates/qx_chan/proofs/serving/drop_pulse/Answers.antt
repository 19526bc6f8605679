use Rattle.qx_types.specs.Managers.{manager_number}
use Rattle.qx_chan.proofs.AnswerLemmas.{unasked-same}
use Rattle.qx_chan.proofs.serving.drop_pulse.Goals as goal

pub returns-else-call-clause-dropped : goal.returns-else-call-clause-dropped
returns-else-call-clause-dropped c =
    unasked-same c.args.queues.now c.args.thread (manager_number c.args.call.target.manager) c.args.call.number (c.requires.unasked c.if-call.false)
