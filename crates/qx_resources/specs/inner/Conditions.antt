-- What only the proofs need of the conditions of all blocks.
use Rattle.std.specs.Prelude.{ℕ, List, slice_index_or}
use Rattle.qx_machine.specs.declared.rows.Conditions.{Conditions}
use Rattle.qx_resources.specs.Watching.{unwatched}

-- the conditions of the block of a number among those of all
abbrev pub conditions_in : List Conditions → ℕ → Conditions
conditions_in all number = slice_index_or all number unwatched
