use Rattle.qx_uncounted.proofs.push_back.Given as goal

abbrev pub ghosts-push_back_by-L-Ledger : goal.ghosts-push_back_by-L-Ledger
ghosts-push_back_by-L-Ledger g a = record { name = a.changes.name; parts = a.changes.parts }

abbrev pub ghosts-push_back_by-M-Ledger : goal.ghosts-push_back_by-M-Ledger
ghosts-push_back_by-M-Ledger g a = record { name = a.looks.name; parts = a.looks.parts }
