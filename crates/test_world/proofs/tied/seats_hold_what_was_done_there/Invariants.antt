use Rattle.test_world.proofs.tied.seats_hold_what_was_done_there.Given as goal

-- the run is that of the new list, and begins with the world
abbrev pub ghosts-take_at_two-J-Naming : goal.ghosts-take_at_two-J-Naming
ghosts-take_at_two-J-Naming g a = record { book = a.opened.seen.book }

abbrev pub ghosts-take_at_two-J-OfRun : goal.ghosts-take_at_two-J-OfRun
ghosts-take_at_two-J-OfRun g a = record { began = a.world }
