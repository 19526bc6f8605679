use Rattle.std.proofs.Common.{length}
use Rattle.qx_files.proofs.PlaceLemmas.{stand-none}
use Rattle.qx_files.proofs.places.make_places.Goals as goal

pub returns-clause-stand : goal.returns-clause-stand
returns-clause-stand c =
    rw (c.loop.invariant.added, c.reserve.ensures.items, c.reserve_places.ensures.items) (stand-none (length c.args.bytes.now.items) c.loop.counter c.args.places.now.items c.requires.stand)
