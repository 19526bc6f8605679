-- What only the proofs need of Waits.
use Rattle.std.specs.Prelude.{if◌then◌else◌, Bool, List, [], ◌∷◌}

-- the list without the first that passes a test
abbrev pub without_first : {A : Type 0} → (A → Bool) → List A → List A
without_first test [] = []
without_first test (first ∷ rest) = if test first then rest else first ∷ without_first test rest
