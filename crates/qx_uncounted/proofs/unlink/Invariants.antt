use Rattle.qx_uncounted.proofs.unlink.Given as goal

abbrev pub ghosts-unlink_by-L-Ledger : goal.ghosts-unlink_by-L-Ledger
ghosts-unlink_by-L-Ledger g a = record { name = a.changes.name; parts = a.changes.parts }

abbrev pub ghosts-unlink_by-M-Ledger : goal.ghosts-unlink_by-M-Ledger
ghosts-unlink_by-M-Ledger g a = record { name = a.looks.name; parts = a.looks.parts }
