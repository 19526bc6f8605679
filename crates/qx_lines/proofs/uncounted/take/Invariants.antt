use Rattle.qx_lines.proofs.uncounted.take.Given as goal

abbrev pub ghosts-take_by-L-Ledger : goal.ghosts-take_by-L-Ledger
ghosts-take_by-L-Ledger g a = record { name = a.changes.name; parts = a.changes.parts }

abbrev pub ghosts-take_by-M-Ledger : goal.ghosts-take_by-M-Ledger
ghosts-take_by-M-Ledger g a = record { name = a.looks.name; parts = a.looks.parts }
