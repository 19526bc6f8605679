use Rattle.qx_uncounted.proofs.pop_front.Given as goal

abbrev pub ghosts-pop_front_by-L-Ledger : goal.ghosts-pop_front_by-L-Ledger
ghosts-pop_front_by-L-Ledger g a = record { name = a.changes.name; parts = a.changes.parts }

abbrev pub ghosts-pop_front_by-M-Ledger : goal.ghosts-pop_front_by-M-Ledger
ghosts-pop_front_by-M-Ledger g a = record { name = a.looks.name; parts = a.looks.parts }
