-- What the kernel has open of one user.
use Rattle.std.specs.Prelude.{ℕ, ◌==◌, Bool, false, List, Option, Some, None, position}
use Rattle.std.specs.List.{list_any}
use Rattle.qx_types.specs.Optional.{◌>>=◌}
use Rattle.qx_isolation.specs.Rows.{row_at}
use Rattle.qx_fuse_tables.specs.declared.handles.Handle.{Handle}

-- a place for each number from 0
abbrev pub HandleRows : Type 0
HandleRows = List (Option Handle)

abbrev pub is_to : ℕ → Option Handle → Bool
is_to node None = false
is_to node (Some handle) = handle.node == node

abbrev pub is_open : HandleRows → ℕ → Bool
is_open handles node = list_any (λ place. is_to node place) handles

-- the first handle to a node
abbrev pub number_to : HandleRows → ℕ → Option ℕ
number_to handles node = position (λ place. is_to node place) handles

abbrev pub first_to : HandleRows → ℕ → Option Handle
first_to handles node = number_to handles node >>= λ number. row_at handles number
