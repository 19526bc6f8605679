use Rattle.std.proofs.Common.{◌∙◌, ap, sym}
use Rattle.std.specs.Prelude.{option_map}
use Rattle.qx_machine.specs.Notification.{conditions_of}
use Rattle.qx_shared.proofs.OwnLemmas.{row_of-told}
use Rattle.qx_shared.specs.inner.Own.{shown_pipe}
use Rattle.qx_shared.proofs.shared.Shared.conditions.Goals as goal

pub returns-in-Some : goal.returns-in-Some
returns-in-Some c = record {
  conditions = rw (← c.self.view_is)
      ((λ i. record { input = c.conditions.ensures.input i; output = c.conditions.ensures.output i })
      ∙ ap (conditions_of c.args.sides) (sym (row_of-told c.self.inside.queues c.self.inside.pipes.items c.args.user.0 c.args.inode ∙ ap (option_map (shown_pipe c.self.inside.queues)) (rw c.deref.ensures.value at (sym c.in-Some.ensures.row)))));
}

pub returns-in-None : goal.returns-in-None
returns-in-None c = record {
  conditions = rw (← c.self.view_is)
      (ap (conditions_of c.args.sides) (sym (row_of-told c.self.inside.queues c.self.inside.pipes.items c.args.user.0 c.args.inode ∙ ap (option_map (shown_pipe c.self.inside.queues)) (rw c.deref.ensures.value at (sym c.in-None.ensures.row)))));
}
