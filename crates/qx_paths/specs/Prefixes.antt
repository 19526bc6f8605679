-- Mounts and their prefixes of whole components.
use Rattle.std.specs.Prelude.{ℕ, Bool, true, false, List, [], ◌∷◌, Option, None, Some, if◌then◌else◌}
use Rattle.std.specs.Str.{bytes_eq}
use Rattle.qx_types.specs.declared.names.Manager.{Manager}

-- a manager, the components at which it is attached, and the inode of the mount's root (C Library Reference: resmgr_attach, whose
-- handle is the root's attribute)
pub record MountPoint : Type 0 where
  pub prefix : List (List ℕ)
  pub manager : Manager
  pub root : ℕ

-- what a path has behind a prefix of whole components, if it begins with it (System Architecture: pathname management)
abbrev pub behind : List (List ℕ) → List (List ℕ) → Option (List (List ℕ))
behind path [] = Some path
behind [] (name ∷ names) = None
behind (first ∷ path) (name ∷ names) = if bytes_eq first name then behind path names else None

-- there is nothing left
abbrev pub is_all : Option (List (List ℕ)) → Bool
is_all None = false
is_all (Some []) = true
is_all (Some (name ∷ rest)) = false

-- whether a mount is at that path
abbrev pub is_at : List (List ℕ) → MountPoint → Bool
is_at path mount = is_all (behind path mount.prefix)

-- whether a path is a user's name or below it
abbrev pub is_under : List ℕ → List (List ℕ) → Bool
is_under own [] = false
is_under own (first ∷ path) = bytes_eq first own
