use Rattle.test_threads.proofs.runs.run.Given as goal

abbrev pub ghosts-serve : goal.ghosts-serve
ghosts-serve g a = record { name = a.blank.name; parts = a.blank.parts }
