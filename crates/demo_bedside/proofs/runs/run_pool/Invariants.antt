use Rattle.demo_bedside.proofs.runs.run_pool.Given as goal

-- the ledger is that of the blank one
abbrev pub ghosts-run_branded : goal.ghosts-run_branded
ghosts-run_branded g a = record { name = a.blank.name; parts = a.blank.parts }
