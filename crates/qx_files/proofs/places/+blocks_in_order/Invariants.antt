use Rattle.std.proofs.Common.{◌-◌, length}
use Rattle.qx_files.proofs.places.+blocks_in_order.Given as goal

abbrev pub decreases-blocks_in_order : goal.decreases-blocks_in_order
decreases-blocks_in_order l = length l.places.now - l.known
