use Rattle.qx_notify.proofs.KeptLemmas.{told-of, within-told}
use Rattle.qx_notify.proofs.all.AllEvents.know.Goals as goal

pub returns : goal.returns
returns c = record {
  limited = λ user within.
      let here = within-told c.self.inside.table c.self.inside.lists.items user c.args.self.now c.self.view_is within in
      rw (← c.self.view_is, told-of c.self.inside.table c.self.inside.lists.items user here) (c.self.invariant.limited user here);
}
