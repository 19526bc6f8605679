use Rattle.demo_managers.proofs.DeedLemmas.{write}
use Rattle.demo_managers.proofs.ringing.RingingIoBellSharedBells.write.Goals as goal

pub returns-clause-did : goal.returns-clause-did
returns-clause-did c = rw (c.in_default.is, ← c.state.view_is) (write _ _ (rw (← c.state.view_is) at c.requires.fits) _ c.args.bytes.now c.keeps.result c.keeps.ensures.done c.dismiss.ensures)
