use Rattle.qx_shared.proofs.ToldLemmas.{left-within}
use Rattle.qx_shared.proofs.row.PipeRow.write.Goals as goal

pub invariant_of-self : goal.invariant_of-self
invariant_of-self c = c.know.ensures.few

pub returns-clause-left : goal.returns-clause-left
returns-clause-left c = rw (← c.self.view_is, c.in-Device.is) (left-within 0 _ _ _ _ _ c.know.ensures.few c.write-told.ensures.left)
