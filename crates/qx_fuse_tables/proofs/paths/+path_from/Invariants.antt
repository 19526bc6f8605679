use Rattle.qx_fuse_tables.proofs.paths.+path_from.Given as goal

abbrev pub decreases-path_from : goal.decreases-path_from
decreases-path_from l = l.names
