use Rattle.std.proofs.Common.{◌/◌, ◌<◌, arith, length}
use Rattle.qx_files.proofs.BlockLemmas.{has_row}
use Rattle.qx_files.proofs.places.put_bytes.Goals as goal

pub put_run-requires-clause-made : goal.put_run-requires-clause-made
put_run-requires-clause-made c =
    let some : 0 < length c.args.new.now = c.requires.some in
    has_row c.args.places.now (c.args.offset / 512) (c.requires.made (c.args.offset / 512) (omega arith) (omega (arith, some)))
