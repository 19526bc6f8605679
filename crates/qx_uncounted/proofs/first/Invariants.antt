use Rattle.qx_uncounted.proofs.first.Given as goal

abbrev pub ghosts-first_by-L-Ledger : goal.ghosts-first_by-L-Ledger
ghosts-first_by-L-Ledger g a = record { name = a.changes.name; parts = a.changes.parts }

abbrev pub ghosts-first_by-M-Ledger : goal.ghosts-first_by-M-Ledger
ghosts-first_by-M-Ledger g a = record { name = a.looks.name; parts = a.looks.parts }
