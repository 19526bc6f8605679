use Rattle.std.proofs.Common.{◌∙◌, Some, ap, option_map, sym}
use Rattle.qx_shared.proofs.ChangeLemmas.{first-there, nobody-waits}
use Rattle.qx_shared.specs.inner.Row.{list_on}
use Rattle.qx_shared.proofs.shared.Shared.first_waiting.Goals as goal

pub returns-in_err-row : goal.returns-in_err-row
returns-in_err-row c = rw (← c.self.view_is, c.from_residual.ensures) (sym (nobody-waits c.self.inside.queues c.self.inside.pipes.items c.args.user.0 c.args.inode c.args.side (rw c.deref.ensures.value at (sym c.in_err-row.ensures.row))))

pub first_waiting-requires : goal.first_waiting-requires
first_waiting-requires c = record { list = c.self.invariant.there _ _ (ap (option_map (list_on c.args.side)) (rw c.deref.ensures.value at (sym c.in_ok-row.ensures.row)) ∙ ap Some (sym c.list.ensures.list)) }

pub returns : goal.returns
returns c = rw (← c.self.view_is) (c.first_waiting.ensures ∙ first-there _ _ c.self.invariant _ _ _ _ (ap (option_map (list_on c.args.side)) (rw c.deref.ensures.value at (sym c.in_ok-row.ensures.row)) ∙ ap Some (sym c.list.ensures.list)))
