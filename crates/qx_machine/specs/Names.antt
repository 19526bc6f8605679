-- Names of files and directories: where a path leads, and what is in a directory (C Library Reference: open, stat, readdir; that a path is
-- searched from its mount's root on is this profile).
use Rattle.std.specs.Prelude.{ℕ, ◌+◌, ◌-◌, ◌==◌, ◌++◌, ◌||◌, Bool, true, false, List, [], ◌∷◌, Option, Some, None, Result, Ok, Err, filter, length, map, nat_le, if◌then◌else◌}
use Rattle.std.specs.Cmp.Lexicographic.{slice_cmp}
use Rattle.std.specs.FinMap.{FinMap, entries, from_entries, get, insert}
use Rattle.std.specs.List.{flat_map}
use Rattle.std.specs.Ordering.{eq_by_cmp, is_lt, nat_cmp, on, then_cmp}
use Rattle.std.specs.declared.cmp.Ordering.{Ordering}
use Rattle.qx_base.specs.declared.errno.Errno.{Errno}
use Rattle.qx_base.specs.declared.errno.Errno.TheVariants.{EACCES, ENOENT, ENOTDIR}
use Rattle.qx_devices.specs.Devices.{device_number}
use Rattle.qx_types.specs.declared.limits.TheConstants.Limits.{TRANSFER}
use Rattle.qx_machine.specs.declared.rows.Access.TheVariants.{Search}
use Rattle.qx_machine.specs.declared.rows.Kind.{Kind}
use Rattle.qx_machine.specs.declared.rows.Kind.TheVariants.{Directory, File, Pipe, Device}
use Rattle.qx_machine.specs.Inodes.{Inodes, may}
use Rattle.qx_isolation.specs.Judgements.{◌>>=◌, found, need}
use Rattle.qx_isolation.specs.Rows.{row_at}

-- a path in a mount: the inode of the mount's root, and the path's components, the last one first; so what is in a directory has one
-- component more, in front
abbrev pub Key : Type 0
Key = ℕ × List (List ℕ)

-- by mount, and then the names of one directory in the order of their bytes
abbrev pub key_cmp : Key → Key → Ordering
key_cmp = then_cmp (on (λ key. key.0) nat_cmp) (on (λ key. key.1) (slice_cmp (slice_cmp nat_cmp)))

-- the inodes to which paths lead, those of the mounts' roots among them
abbrev pub Names : Type 0
Names = FinMap key_cmp ℕ

abbrev pub root_key : ℕ → Key
root_key root = (root, [])

-- the path of a name in a directory
abbrev pub under : Key → List ℕ → Key
under directory name = (directory.0, name ∷ directory.1)

-- a mount's root is named
abbrev pub with_root : Names → ℕ → Names
with_root names root = insert names (root_key root) root

-- ---- walking

abbrev pub is_directory : Kind → Bool
is_directory Directory = true
is_directory _ = false

abbrev pub is_same_kind : Kind → Kind → Bool
is_same_kind File File = true
is_same_kind Directory Directory = true
is_same_kind Pipe Pipe = true
is_same_kind (Device one) (Device other) = device_number one == device_number other
is_same_kind _ _ = false

-- calls may wait in it
abbrev pub has_calls : Kind → Bool
has_calls Pipe = true
has_calls (Device device) = true
has_calls _ = false

-- a name may be looked up in what a path leads to: in a directory, with search (C Library Reference: ENOTDIR, EACCES)
abbrev pub search : Inodes → ℕ → ℕ → Result Bool Errno
search inodes user inode = do
  attribute ← found (row_at inodes.attributes inode) ENOENT
  directory ← need (is_directory attribute.kind) ENOTDIR
  need (may attribute user Search) EACCES

-- where a path leads: the directory in which its last component is looked up, the path's own key, and what is there
pub record Spot : Type 0 where
  pub parent : ℕ
  pub key : Key
  pub inode : Option ℕ

-- from a directory, that has this path, along one name and further ones
abbrev pub walk : Inodes → Names → ℕ → ℕ → Key → List ℕ → List (List ℕ) → Result Spot Errno
walk inodes names user directory key name [] = do
  searched ← search inodes user directory
  Ok (record { parent = directory; key = under key name; inode = get names (under key name) })
walk inodes names user directory key name (further ∷ rest) = do
  searched ← search inodes user directory
  next ← found (get names (under key name)) ENOENT
  walk inodes names user next (under key name) further rest

-- where the path of a mount's root leads
abbrev pub start : Names → ℕ → Result ℕ Errno
start names root = found (get names (root_key root)) ENOENT

-- a path with nothing behind its mount is at the mount's root, for which this is the error; any other is walked wholly
abbrev pub spot : Inodes → Names → ℕ → ℕ → List (List ℕ) → Errno → Result Spot Errno
spot inodes names user root [] at_root = Err at_root
spot inodes names user root (name ∷ rest) at_root = do
  first ← start names root
  walk inodes names user first (root_key root) name rest

-- the inode to which a path leads
abbrev pub inode_at : Inodes → Names → ℕ → ℕ → List (List ℕ) → Result ℕ Errno
inode_at inodes names user root [] = Ok root
inode_at inodes names user root (name ∷ rest) = do
  first ← start names root
  at ← walk inodes names user first (root_key root) name rest
  found at.inode ENOENT

-- ---- a path that begins otherwise

abbrev pub is_same_key : Key → Key → Bool
is_same_key one two = eq_by_cmp key_cmp one two

-- whether a path of a mount begins with another, and goes on
abbrev pub is_below : Key → ℕ → List (List ℕ) → Bool
is_below from root [] = false
is_below from root (name ∷ above) = is_same_key (root, above) from || is_below from root above

-- a path of a mount, where what began with one path begins with another
abbrev pub moved_path : Key → Key → ℕ → List (List ℕ) → Key
moved_path from to root [] = root_key root
moved_path from to root (name ∷ above) = if is_same_key (root, name ∷ above) from then to else under (moved_path from to root above) name

abbrev pub moved_entry : Key → Key → Key × ℕ → Key × ℕ
moved_entry from to entry = (moved_path from to entry.0.0 entry.0.1, entry.1)

-- each path that begins with the one begins with the other, and leads where it led
abbrev pub moved : Names → Key → Key → Names
moved names from to = from_entries (map (moved_entry from to) (entries names))

-- ---- directories

-- whether a path leads to that inode
abbrev pub is_there : Option ℕ → ℕ → Bool
is_there None inode = false
is_there (Some there) inode = there == inode

-- the name of an entry, if it is in that directory
abbrev pub name_in : Names → ℕ → Key × ℕ → List (List ℕ)
name_in names directory ((root, []), inode) = []
name_in names directory ((root, name ∷ above), inode) = if is_there (get names (root, above)) directory then name ∷ [] else []

-- the names in a directory, in the order of their bytes
abbrev pub names_in : Names → ℕ → List (List ℕ)
names_in names directory = flat_map (name_in names directory) (entries names)

abbrev pub is_empty : List (List ℕ) → Bool
is_empty names = length names == 0

-- as many whole names as fit so many bytes, each followed by a zero byte
abbrev pub fitting : ℕ → List (List ℕ) → List (List ℕ)
fitting room [] = []
fitting room (name ∷ names) = if nat_le (length name + 1) room then name ∷ fitting (room - (length name + 1)) names else []

-- those behind a name
abbrev pub names_behind : List ℕ → List (List ℕ) → List (List ℕ)
names_behind after names = filter (λ name. is_lt (slice_cmp nat_cmp after name)) names

-- what one listing of a directory gives
abbrev pub listed : Names → ℕ → List ℕ → List (List ℕ)
listed names directory after = fitting TRANSFER (names_behind after (names_in names directory))

-- the names, each followed by a zero byte
abbrev pub listing : List (List ℕ) → List ℕ
listing names = flat_map (λ name. name ++ 0 ∷ []) names
