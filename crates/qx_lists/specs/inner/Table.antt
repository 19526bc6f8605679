-- What only the proofs need of Table.
use Rattle.std.specs.Prelude.{ℕ, List, [], ◌∷◌, ◌++◌, Option, Some, None}
use Rattle.qx_lists.specs.Table.{put_before}

-- the list with the node before a place, where None is its end
abbrev pub placed : ℕ → Option ℕ → List ℕ → List ℕ
placed node None nodes = nodes ++ node ∷ []
placed node (Some at) nodes = put_before node at nodes
