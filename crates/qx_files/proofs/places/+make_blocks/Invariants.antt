use Rattle.std.proofs.Common.{◌-◌}
use Rattle.qx_files.proofs.places.+make_blocks.Given as goal

abbrev pub decreases-make_blocks : goal.decreases-make_blocks
decreases-make_blocks l = l.end - l.first
