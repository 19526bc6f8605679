use Rattle.qx_files.proofs.data.Data.+push.Given as goal

abbrev pub decreases-push : goal.decreases-push
decreases-push l = l.count
