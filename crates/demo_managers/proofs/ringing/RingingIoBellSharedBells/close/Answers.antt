use Rattle.std.proofs.Common.{rules, ◌≡◌, Ok}
use Rattle.demo_managers.proofs.DeedLemmas.{closed}
use Rattle.demo_managers.proofs.ringing.RingingIoBellSharedBells.close.Goals as goal

pub returns-clause-did : goal.returns-clause-did
returns-clause-did c =
    let opened : c.args.opened ≡ Ok c.in_ok-opened.opened = search rules in
    rw (opened, ← c.state.view_is) (closed _ _ (rw (← c.state.view_is) at c.requires.fits) _ _ c.in_ok-opened.opened c.free.ensures.freed c.dismiss.ensures)
