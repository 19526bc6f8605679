use Rattle.qx_chan.proofs.TakePulseLemmas.{has-events, pulse_taken}
use Rattle.qx_chan.proofs.channel.Channel.take_pulse.Goals as goal

pub take_pulse-requires-clause-user : goal.take_pulse-requires-clause-user
take_pulse-requires-clause-user c = has-events c.self.inside.users c.self.inside.tables c.args.proc c.in-Some.field-0.now c.in-Some.ensures.row c.self.invariant

pub returns-clause-taken : goal.returns-clause-taken
returns-clause-taken c = rw (← c.self.view_is) (pulse_taken c.self.inside.users c.self.inside.tables c.args.proc c.in-Some.field-0.now c.take_pulse.new.self c.in-Some.ensures.row c.take_pulse.ensures.rest)
