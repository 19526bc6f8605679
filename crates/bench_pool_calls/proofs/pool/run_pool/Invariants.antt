use Rattle.bench_pool_calls.proofs.pool.run_pool.Given as goal

-- the ledger is that of the blank one
abbrev pub ghosts-run_branded : goal.ghosts-run_branded
ghosts-run_branded g a = record { name = a.blank.name; parts = a.blank.parts }
