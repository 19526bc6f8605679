use Rattle.test_threads.proofs.memory.a_loop_goes_on_with_what_is_held.Given as goal

abbrev pub ghosts-serve_at_last : goal.ghosts-serve_at_last
ghosts-serve_at_last g a = record { name = a.blank.name; parts = a.blank.parts }
