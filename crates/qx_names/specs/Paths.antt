-- The path that leads to an inode.
use Rattle.std.specs.Prelude.{ℕ, ◌≡◌, ◌==◌, List, [], ◌∷◌, Some, if◌then◌else◌}
use Rattle.std.specs.Coded.{Coded, coded×, coded_list, coded_ℕ}
use Rattle.std.specs.FinMap.{code, entries, get}
use Rattle.qx_machine.specs.Names.{Key, Names, root_key}

-- how names are stored
abbrev pub names_code : Coded Names
names_code = code (coded× coded_ℕ (coded_list (coded_list coded_ℕ))) coded_ℕ

-- the first key of a value, else another one
abbrev pub key_in : {K : Type 0} → K → List (K × ℕ) → ℕ → K
key_in other [] value = other
key_in other (entry ∷ entries) value = if entry.1 == value then entry.0 else key_in other entries value

-- the path that leads to an inode
unfoldable pub path_of : Names → ℕ → Key
path_of names inode = key_in (root_key inode) (entries names) inode

-- some path leads to the inode
abbrev pub HasPath : Names → ℕ → Type 0
HasPath names inode = get names (path_of names inode) ≡ Some inode

-- no path leads to the inode
abbrev pub HasNoPath : Names → ℕ → Type 0
HasNoPath names inode = (key : Key) → get names key ≡ Some inode → ⊥
