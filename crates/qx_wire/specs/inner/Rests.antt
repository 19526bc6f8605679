-- What only the proofs need of Rests.
use Rattle.std.specs.Prelude.{ℕ, ◌==◌, List, [], Option, None, Some}
use Rattle.std.specs.List.{slice_split}

-- the same of the bytes that a walk has left, if it has any
abbrev pub components_left : Option (List ℕ) → List (List ℕ)
components_left None = []
components_left (Some bytes) = slice_split (λ b. b == 47) bytes
