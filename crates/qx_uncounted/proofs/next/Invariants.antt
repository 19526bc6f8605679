use Rattle.qx_uncounted.proofs.next.Given as goal

abbrev pub ghosts-next_by-L-Ledger : goal.ghosts-next_by-L-Ledger
ghosts-next_by-L-Ledger g a = record { name = a.changes.name; parts = a.changes.parts }

abbrev pub ghosts-next_by-M-Ledger : goal.ghosts-next_by-M-Ledger
ghosts-next_by-M-Ledger g a = record { name = a.looks.name; parts = a.looks.parts }
