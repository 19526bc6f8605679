use Rattle.std.proofs.Common.{ap, ◌∙◌, not}
use Rattle.qx_chan.proofs.TakePulseLemmas.{has-events, no-pulse}
use Rattle.qx_chan.proofs.channel.Channel.lacks_pulse.Goals as goal

pub has_pulse-requires-clause-user : goal.has_pulse-requires-clause-user
has_pulse-requires-clause-user c = has-events c.self.inside.users c.self.inside.tables c.args.proc c.in-Some.field-0.now c.in-Some.ensures.row c.self.invariant

pub returns-in-Some : goal.returns-in-Some
returns-in-Some c = rw (← c.self.view_is, ← c.in-Some.ensures.row) (ap not c.has_pulse.ensures ∙ no-pulse c.in-Some.field-0.now _)
