use Rattle.std.proofs.Common.{length}
use Rattle.qx_files.proofs.places.+put_runs.Given as goal

abbrev pub decreases-put_runs : goal.decreases-put_runs
decreases-put_runs l = length l.new.now
