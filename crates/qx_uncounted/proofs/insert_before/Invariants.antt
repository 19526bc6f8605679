use Rattle.qx_uncounted.proofs.insert_before.Given as goal

abbrev pub ghosts-insert_before_by-L-Ledger : goal.ghosts-insert_before_by-L-Ledger
ghosts-insert_before_by-L-Ledger g a = record { name = a.changes.name; parts = a.changes.parts }

abbrev pub ghosts-insert_before_by-M-Ledger : goal.ghosts-insert_before_by-M-Ledger
ghosts-insert_before_by-M-Ledger g a = record { name = a.looks.name; parts = a.looks.parts }
