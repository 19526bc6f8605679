use Rattle.std.proofs.Common.{rules, ◌≡◌, Ok, false}
use Rattle.demo_managers.proofs.DeedLemmas.{read}
use Rattle.demo_managers.proofs.ringing.RingingIoBellSharedBells.read.Goals as goal

pub returns-clause-did : goal.returns-clause-did
returns-clause-did c =
    let opened : c.args.opened ≡ Ok c.in_ok-opened.opened = search rules in
    let patient : c.in_ok-opened.opened.is_asked ≡ false = search rules in
    rw (opened, patient, ← c.state.view_is) (read _ _ (rw (← c.state.view_is) at c.requires.fits) _ _ (rw (c.reading-call.ensures.call) at c.wait.ensures))
