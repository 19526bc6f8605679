use Rattle.std.proofs.Common.{◌∙◌, None, Some, ap, sym}
use Rattle.qx_shared.proofs.OwnLemmas.{pipe_at-row}
use Rattle.qx_shared.proofs.shared.Shared.device.Goals as goal

pub returns-in-Some : goal.returns-in-Some
returns-in-Some c = record { device = rw (← c.self.view_is) (c.device.ensures.device ∙ ap (λ p. p.device) (sym (pipe_at-row c.self.inside.queues c.self.inside.pipes.items c.args.user.0 c.args.inode (Some c.in-Some.row.now) (rw c.deref.ensures.value at (sym c.in-Some.ensures.row))))) }

pub returns-in-None : goal.returns-in-None
returns-in-None c = record { device = rw (← c.self.view_is) (ap (λ p. p.device) (sym (pipe_at-row c.self.inside.queues c.self.inside.pipes.items c.args.user.0 c.args.inode None (rw c.deref.ensures.value at (sym c.in-None.ensures.row))))) }
