-- What holds of paths and mounts by their definitions alone.
use Rattle.std.specs.Prelude.{ℕ, ◌≡◌, ◌≤◌, ◌↔◌, true, List, [], ◌∷◌, ◌++◌, length, take, drop, Some, Ok, slice_get}
use Rattle.std.specs.Result.{IsOk}
use Rattle.qx_types.specs.declared.names.Manager.{Manager}
use Rattle.qx_wire.specs.Rests.{is_rest, joined}
use Rattle.qx_paths.specs.Mounts.{resolve}
use Rattle.qx_paths.specs.Paths.{read_path}
use Rattle.qx_paths.specs.Prefixes.{MountPoint, behind, is_at}
use Rattle.qx_paths.specs.declared.resolved.Resolved.{Resolved}

-- a path that was read, its components joined behind a first '/', is read as the same components
abbrev pub ReadAgain : Type 0
ReadAgain = (bytes : List ℕ) (names : List (List ℕ)) → read_path bytes ≡ Ok names → read_path (47 ∷ joined names) ≡ Ok names

-- what a path that was read has behind any number of components may stand in a message
abbrev pub ReadRests : Type 0
ReadRests = (bytes : List ℕ) (names : List (List ℕ)) (n : ℕ) → read_path bytes ≡ Ok names → is_rest (drop n names) ≡ true

-- where a path leads is a mount of the user, whose prefix and the rest together are the path
abbrev pub PrefixAndRest : Type 0
PrefixAndRest = (names : List (List ℕ)) (own : List ℕ) (mounts : List MountPoint) (path : List (List ℕ)) (place : Resolved) →
    resolve names own mounts path ≡ Ok place →
    (slice_get mounts place.number ≡ Some (record { prefix = take place.depth path; manager = place.manager; root = place.root })) × (take place.depth path ++ place.rest ≡ path)

-- no mount that fits has a longer prefix than the one to which a path leads
abbrev pub LongestPrefix : Type 0
LongestPrefix = (names : List (List ℕ)) (own : List ℕ) (before after : List MountPoint) (mount : MountPoint) (path rest : List (List ℕ)) (place : Resolved) →
    resolve names own (before ++ mount ∷ after) path ≡ Ok place → behind path mount.prefix ≡ Some rest → length mount.prefix ≤ place.depth

-- a path under a user's own name leads somewhere where the top is mounted
abbrev pub TopFits : Type 0
TopFits = (names : List (List ℕ)) (own : List ℕ) (manager : Manager) (root : ℕ) (mounts : List MountPoint) (path : List (List ℕ)) →
    IsOk (resolve names own (record { prefix = own ∷ []; manager = manager; root = root } ∷ mounts) (own ∷ path))

-- a path begins with a prefix exactly if they are the prefix and what is behind it
abbrev pub BehindExactly : Type 0
BehindExactly = (path prefix rest : List (List ℕ)) → (behind path prefix ≡ Some rest) ↔ (prefix ++ rest ≡ path)

-- a mount is at a path exactly if its prefix is the path's components
abbrev pub AtExactly : Type 0
AtExactly = (path : List (List ℕ)) (mount : MountPoint) → (is_at path mount ≡ true) ↔ (mount.prefix ≡ path)
