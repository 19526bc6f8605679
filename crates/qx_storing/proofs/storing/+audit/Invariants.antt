use Rattle.std.proofs.Common.{vec_len}
use Rattle.qx_storing.proofs.storing.+audit.Given as goal

abbrev pub decreases-audit : goal.decreases-audit
decreases-audit g l = vec_len l.seats.now
