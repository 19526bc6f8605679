use Rattle.std.proofs.Common.{◌∙◌, None, Some, ap, length, sym}
use Rattle.qx_shared.proofs.OwnLemmas.{pipe_at-row}
use Rattle.qx_shared.proofs.shared.Shared.pipe_len.Goals as goal

pub returns-in-Some-clause-count : goal.returns-in-Some-clause-count
returns-in-Some-clause-count c = rw (← c.self.view_is) (c.len.ensures.count ∙ ap (λ p. length p.bytes) (sym (pipe_at-row c.self.inside.queues c.self.inside.pipes.items c.args.user.0 c.args.inode (Some c.in-Some.row.now) (rw c.deref.ensures.value at (sym c.in-Some.ensures.row)))))

pub returns-in-None-clause-count : goal.returns-in-None-clause-count
returns-in-None-clause-count c = rw (← c.self.view_is) (ap (λ p. length p.bytes) (sym (pipe_at-row c.self.inside.queues c.self.inside.pipes.items c.args.user.0 c.args.inode None (rw c.deref.ensures.value at (sym c.in-None.ensures.row)))))
