use Rattle.std.proofs.Common.{rules}
use Rattle.demo_managers.proofs.DeedLemmas.{opened}
use Rattle.demo_managers.proofs.ringing.RingingConnectBellSharedBells.open.Goals as goal

pub returns-clause-did : goal.returns-clause-did
returns-clause-did c =
    opened c.args.state.now c.args._waits.now c.requires.fits _ c.args.over c.in-Ok.over c.in-Ok-free_number.number c.args.rest.now c.args.wish (search rules) (search rules) (search rules) (search rules)
