use Rattle.qx_lines.proofs.uncounted.remove.Given as goal

abbrev pub ghosts-remove_by-L-Ledger : goal.ghosts-remove_by-L-Ledger
ghosts-remove_by-L-Ledger g a = record { name = a.changes.name; parts = a.changes.parts }

abbrev pub ghosts-remove_by-M-Ledger : goal.ghosts-remove_by-M-Ledger
ghosts-remove_by-M-Ledger g a = record { name = a.looks.name; parts = a.looks.parts }
