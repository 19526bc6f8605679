use Rattle.std.proofs.Common.{◌-◌, length}
use Rattle.qx_lines.proofs.+add_lists.Given as goal

abbrev pub decreases-add_lists : goal.decreases-add_lists
decreases-add_lists g l = length l.lists.now - l.from
