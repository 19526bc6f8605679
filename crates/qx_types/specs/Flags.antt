-- The names and bits of the flags of an open and of the conditions of a notification.
use Rattle.std.specs.Prelude.{ℕ, List, [], ◌∷◌, codes}

abbrev pub flag_table : List (List ℕ × ℕ)
flag_table =
    (codes "READ", 1) ∷
    (codes "WRITE", 2) ∷
    (codes "CREAT", 4) ∷
    (codes "EXCL", 8) ∷
    (codes "TRUNC", 16) ∷
    (codes "APPEND", 32) ∷
    (codes "NONBLOCK", 64) ∷
    []

abbrev pub condition_table : List (List ℕ × ℕ)
condition_table = (codes "INPUT", 1) ∷ (codes "OUTPUT", 2) ∷ []
