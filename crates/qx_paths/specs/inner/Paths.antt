-- What only the proofs need of Paths.
use Rattle.std.specs.Prelude.{ℕ, ◌≡◌, ◌≤◌, true, List, [], ◌∷◌, length, Option, None, Some}
use Rattle.std.specs.List.{list_all}
use Rattle.qx_types.specs.declared.limits.TheConstants.Limits.{PATH}
use Rattle.qx_wire.specs.Rests.{is_component}
use Rattle.qx_paths.specs.Paths.{path_components}

-- the first component, and what a walk has before it behind that
abbrev pub walked : Option (List ℕ × List ℕ) → List (List ℕ)
walked None = []
walked (Some parted) = parted.0 ∷ path_components parted.1

-- bytes within the length of a path that have good components
pub record IsShortPath (bytes : List ℕ) : Type 0 where
  pub short : length bytes ≤ PATH
  pub good : list_all is_component (path_components bytes) ≡ true
