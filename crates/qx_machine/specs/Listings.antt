-- A directory that is read listing by listing, each behind the last name that was given before (C Library Reference: readdir).
use Rattle.std.specs.Prelude.{ℕ, zero, suc, ◌≡◌, ◌<◌, ◌≤◌, List, [], ◌++◌, All, None, Some, length, unwrap_or}
use Rattle.std.specs.FinMap.{get}
use Rattle.std.specs.List.{last_or}
use Rattle.qx_types.specs.declared.limits.TheConstants.Limits.{COMPONENT}
use Rattle.qx_machine.specs.Names.{Key, Names, listed, names_in}

-- what the next listing gives, where these names were given: those behind the last of them, or, where none was, behind the empty name
abbrev pub listed_next : Names → ℕ → List (List ℕ) → List (List ℕ)
listed_next names directory given = listed names directory (unwrap_or (last_or None given) [])

-- the names that so many listings give, one listing after another
abbrev pub listed_by : ℕ → Names → ℕ → List (List ℕ)
listed_by zero names directory = []
listed_by (suc listings) names directory = listed_by listings names directory ++ listed_next names directory (listed_by listings names directory)

-- no two paths lead to an inode
abbrev pub HasAtMostOnePath : Names → ℕ → Type 0
HasAtMostOnePath names inode = (one two : Key) → get names one ≡ Some inode → get names two ≡ Some inode → one ≡ two

-- the names in a directory have 1 to 64 bytes
abbrev pub HasSizedNames : Names → ℕ → Type 0
HasSizedNames names directory = All (λ name. (0 < length name) × (length name ≤ COMPONENT)) (names_in names directory)

-- a name without a zero byte
abbrev pub IsZeroFree : List ℕ → Type 0
IsZeroFree name = All (λ byte. 0 < byte) name
