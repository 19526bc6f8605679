use Rattle.bench_pool_calls.proofs.pool.run_tied.Given as goal

-- the run is that of the new list, and begins with the world
abbrev pub ghosts-run_at_seats-J-Naming : goal.ghosts-run_at_seats-J-Naming
ghosts-run_at_seats-J-Naming g a = record { book = a.opened.seen.book }

abbrev pub ghosts-run_at_seats-J-OfRun : goal.ghosts-run_at_seats-J-OfRun
ghosts-run_at_seats-J-OfRun g a = record { began = a.world }
