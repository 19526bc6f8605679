-- What the bytes of a path are as components.
use Rattle.std.specs.Prelude.{ℕ, Bool, false, ◌==◌, true, nat_lt, List, [], ◌∷◌, length, Option, None, Some, Result, Ok, Err, if◌then◌else◌, filter}
use Rattle.std.specs.List.{slice_split}
use Rattle.qx_base.specs.declared.errno.Errno.{Errno}
use Rattle.qx_base.specs.declared.errno.Errno.TheVariants.{EINVAL, ENAMETOOLONG}
use Rattle.qx_types.specs.declared.limits.TheConstants.Limits.{COMPONENT, PATH}
use Rattle.qx_wire.specs.Rests.{is_component}

abbrev pub is_named : List ℕ → Bool
is_named [] = false
is_named (byte ∷ bytes) = true

-- what stands before, between and after the slashes, where that is not empty (System Architecture: pathname management;
-- that empty names are left out is this profile)
unfoldable pub path_components : List ℕ → List (List ℕ)
path_components bytes = filter is_named (slice_split (λ byte. byte == 47) bytes)

abbrev pub begins_with_slash : List ℕ → Bool
begins_with_slash [] = false
begins_with_slash (byte ∷ bytes) = byte == 47

-- why a component is refused: it is too long, or else "." or ".." or has a zero byte (C Library Reference: ENAMETOOLONG;
-- that dots are refused is this profile)
abbrev pub component_fault : List ℕ → Option Errno
component_fault name =
    if nat_lt COMPONENT (length name) then Some ENAMETOOLONG
    else if is_component name then None
    else Some EINVAL

abbrev pub or_fault : Option Errno → Option Errno → Option Errno
or_fault (Some errno) later = Some errno
or_fault None later = later

-- why the first component from the left that is refused is refused
abbrev pub first_fault : List (List ℕ) → Option Errno
first_fault [] = None
first_fault (name ∷ names) = or_fault (component_fault name) (first_fault names)

abbrev pub unless : {A : Type 0} → Option Errno → A → Result A Errno
unless (Some errno) value = Err errno
unless None value = Ok value

-- the components of a path: the whole length is judged first, then the first byte, then components from the left
-- (this profile)
abbrev pub read_path : List ℕ → Result (List (List ℕ)) Errno
read_path bytes =
    if nat_lt PATH (length bytes) then Err ENAMETOOLONG
    else if begins_with_slash bytes then unless (first_fault (path_components bytes)) (path_components bytes)
    else Err EINVAL
