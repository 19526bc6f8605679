use Rattle.qx_lines.proofs.uncounted.put.Given as goal

abbrev pub ghosts-put_by-L-Ledger : goal.ghosts-put_by-L-Ledger
ghosts-put_by-L-Ledger g a = record { name = a.changes.name; parts = a.changes.parts }

abbrev pub ghosts-put_by-M-Ledger : goal.ghosts-put_by-M-Ledger
ghosts-put_by-M-Ledger g a = record { name = a.looks.name; parts = a.looks.parts }
