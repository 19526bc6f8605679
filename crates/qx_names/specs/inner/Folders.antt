-- The entries of all directories. No public clause of another crate cites this module.
use Rattle.std.specs.Prelude.{ℕ, ◌≡◌, ◌==◌, List, Option, None, Some, filter, map as mapped}
use Rattle.std.specs.FinMap as map
use Rattle.std.specs.Ordering.{nat_cmp, on, then_cmp}
use Rattle.std.specs.declared.cmp.Ordering.{Ordering}
use Rattle.std.specs.Cmp.Lexicographic.{slice_cmp}
use Rattle.std.specs.Coded.{Coded, coded×, coded_list, coded_ℕ}

-- a directory, and a name in it
abbrev pub Place : Type 0
Place = ℕ × List ℕ

-- by directory, and then in the order of the names' bytes
abbrev pub place_cmp : Place → Place → Ordering
place_cmp = then_cmp (on (λ place. place.0) nat_cmp) (on (λ place. place.1) (slice_cmp nat_cmp))

-- from places to inodes
abbrev pub Entries : Type 0
Entries = map.FinMap place_cmp ℕ

-- how such a map is stored
abbrev pub entries_code : Coded Entries
entries_code = map.code (coded× coded_ℕ (coded_list coded_ℕ)) coded_ℕ

-- what a name names in a directory
abbrev pub entry_at : Entries → ℕ → List ℕ → Option ℕ
entry_at entries directory name = map.get entries (directory, name)

-- the names of one directory
abbrev pub names_of : ℕ → List (Place × ℕ) → List (List ℕ)
names_of directory es = mapped (λ entry. entry.0.1) (filter (λ entry. entry.0.0 == directory) es)

-- other entries are as before, and this one is what it is now
pub record Changes (entry new : ℕ → List ℕ → Option ℕ) (directory : ℕ) (name : List ℕ) (what : Option ℕ) : Type 0 where
  pub here : new directory name ≡ what
  pub others : (other : ℕ) (last : List ℕ) → (other ≡ directory → last ≡ name → ⊥) → new other last ≡ entry other last

-- one entry, which is this, goes to another place, and others are as before
pub record Moves (entry new : ℕ → List ℕ → Option ℕ) (from : ℕ) (last : List ℕ) (to : ℕ) (next : List ℕ) (what : ℕ) : Type 0 where
  pub here : new to next ≡ Some what
  pub gone : new from last ≡ None
  pub others : (other : ℕ) (name : List ℕ) → (other ≡ from → name ≡ last → ⊥) → (other ≡ to → name ≡ next → ⊥) → new other name ≡ entry other name
