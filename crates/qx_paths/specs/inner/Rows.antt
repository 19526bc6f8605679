-- How the mounts of all users stand in one table.
use Rattle.std.specs.Prelude.{ℕ, ◌≡◌, ◌<◌, ◌≤◌, ◌*◌, ◌==◌, ◌++◌, List, [], ◌∷◌, All, length, map, replicate, slice_set}
use Rattle.std.specs.List.{filter}
use Rattle.qx_types.specs.declared.limits.TheConstants.Limits.{MOUNTS}
use Rattle.qx_paths.specs.Mounts.{mounts_of}
use Rattle.qx_paths.specs.Prefixes.{MountPoint}
use Rattle.qx_paths.specs.declared.mounts.Row.{Row}

-- a user's mounts among the rows, in their order
abbrev pub own : ℕ → List Row → List MountPoint
own user rows = map (λ (row : Row). row.mount) (filter (λ (row : Row). row.user.0 == user) rows)

-- with the rows put to what their users have
abbrev pub put : List (List MountPoint) → List Row → List (List MountPoint)
put table [] = table
put table (row ∷ rows) = put (slice_set table row.user.0 (mounts_of table row.user.0 ++ row.mount ∷ [])) rows

-- each user's mounts
abbrev pub shown : ℕ → List Row → List (List MountPoint)
shown places rows = put (replicate places []) rows

-- each row is of one of the users, nobody has more than the limit, and there is room for just as many as all may have
pub record IsTable (places : ℕ) (rows : List Row) (capacity : ℕ) : Type 0 where
  pub owned : All (λ (row : Row). row.user.0 < places) rows
  pub few : All (λ (mounts : List MountPoint). length mounts ≤ MOUNTS) (shown places rows)
  pub room : capacity ≡ places * MOUNTS
