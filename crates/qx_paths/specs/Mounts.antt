-- Which mount of a user a path leads to, when a mount is refused, and the mounts of all users.
use Rattle.std.specs.Prelude.{ℕ, ◌+◌, nat_lt, List, [], ◌∷◌, ◌++◌, length, map, get_or, slice_set, Option, None, Some, option_map, Result, Ok, Err, if◌then◌else◌}
use Rattle.std.specs.List.{list_any}
use Rattle.std.specs.Str.{bytes_eq}
use Rattle.qx_types.specs.Configuration.{Configuration}
use Rattle.qx_base.specs.declared.errno.Errno.{Errno}
use Rattle.qx_base.specs.declared.errno.Errno.TheVariants.{EACCES, EEXIST, ENOENT, ENOSPC}
use Rattle.qx_types.specs.declared.names.Manager.{Manager}
use Rattle.qx_types.specs.declared.names.Manager.TheVariants.{Ram}
use Rattle.qx_paths.specs.Prefixes.{MountPoint, behind, is_at}
use Rattle.qx_paths.specs.declared.resolved.Resolved.{Resolved}

-- a user's mounts at boot: the user's name, of the RAM manager (this profile)
abbrev pub boot_mounts : List ℕ → ℕ → List MountPoint
boot_mounts name root = record { prefix = name ∷ []; manager = Ram; root = root } ∷ []

-- why a user's path whose first component is that name is refused whatever is mounted: the name is another user's or
-- nobody's (this profile)
abbrev pub name_fault : List (List ℕ) → List ℕ → List ℕ → Option Errno
name_fault names own first =
    if bytes_eq first own then None
    else if list_any (λ name. bytes_eq name first) names then Some EACCES
    else Some ENOENT

-- the same of a path; one without components is nobody's to use (this profile)
abbrev pub top_fault : List (List ℕ) → List ℕ → List (List ℕ) → Option Errno
top_fault names own [] = Some EACCES
top_fault names own (first ∷ path) = name_fault names own first

-- what a path is to a mount, by the mount's number: nothing where the path doesn't begin with the prefix
abbrev pub fit : List (List ℕ) → ℕ → MountPoint → Option Resolved
fit path number mount = option_map (λ rest. record { number = number; depth = length mount.prefix; manager = mount.manager; root = mount.root; rest = rest }) (behind path mount.prefix)

-- the one with the longer prefix
abbrev pub longer : Option Resolved → Option Resolved → Option Resolved
longer None next = next
longer (Some best) None = Some best
longer (Some best) (Some next) = if nat_lt best.depth next.depth then Some next else Some best

-- the best of the one so far and the mounts from a number on: the longest prefix (System Architecture: pathname
-- management, the prefix tree)
abbrev pub longest : List (List ℕ) → Option Resolved → ℕ → List MountPoint → Option Resolved
longest path best number [] = best
longest path best number (mount ∷ mounts) = longest path (longer best (fit path number mount)) (number + 1) mounts

abbrev pub located : Option Errno → Option Resolved → Result Resolved Errno
located (Some errno) place = Err errno
located None None = Err ENOENT
located None (Some place) = Ok place

-- where a user's path leads: by the users' names, the user's own, and the user's mounts (System Architecture: resolving
-- pathnames; that only the user's own mounts are looked at is this profile)
abbrev pub resolve : List (List ℕ) → List ℕ → List MountPoint → List (List ℕ) → Result Resolved Errno
resolve names own mounts path = located (top_fault names own path) (longest path None 0 mounts)

-- why a mount at a path is refused: one is there, or else there are as many as the user may have (this profile)
abbrev pub mount_fault : ℕ → List MountPoint → List (List ℕ) → Option Errno
mount_fault most mounts path =
    if list_any (is_at path) mounts then Some EEXIST
    else if nat_lt (length mounts) most then None
    else Some ENOSPC

-- a manager is attached at a path, after the mounts that are there (C Library Reference: resmgr_attach)
abbrev pub mounted : List MountPoint → List (List ℕ) → Manager → ℕ → List MountPoint
mounted mounts path manager root = mounts ++ record { prefix = path; manager = manager; root = root } ∷ []

-- ---- the mounts of all users, under the users' numbers from 1

-- a user's mounts
abbrev pub mounts_of : List (List MountPoint) → ℕ → List MountPoint
mounts_of table user = get_or table user []

-- at boot
abbrev pub all_boot_mounts : Configuration → ℕ → List (List MountPoint)
all_boot_mounts config root = [] ∷ map (λ name. boot_mounts name root) config.users

-- a user has one mount more, and the others have theirs
abbrev pub with_mount_of : List (List MountPoint) → ℕ → MountPoint → List (List MountPoint)
with_mount_of table user mount = slice_set table user (mounted (mounts_of table user) mount.prefix mount.manager mount.root)
