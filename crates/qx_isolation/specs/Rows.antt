-- Rows under small numbers: a list of places whose index is the number, as long as the table has grown.
use Rattle.std.specs.Prelude.{ℕ, ◌+◌, List, [], ◌∷◌, ◌++◌, Option, Some, None, drop, length, nat_lt, if◌then◌else◌, slice_get, slice_set, unwrap_or, option_map}

-- the row under a number
abbrev pub row_at : {A : Type 0} → List (Option A) → ℕ → Option A
row_at places number = unwrap_or (slice_get places number) None

-- how many places stand before the first free one
abbrev pub taken_places : {A : Type 0} → List (Option A) → ℕ
taken_places [] = 0
taken_places (None ∷ places) = 0
taken_places (Some row ∷ places) = taken_places places + 1

-- the lowest free number that is not below the first
abbrev pub lowest_from : {A : Type 0} → ℕ → List (Option A) → ℕ
lowest_from first places = first + taken_places (drop first places)

-- the row under a number that is in the table, or is the next one after it
abbrev pub put_row : {A : Type 0} → List (Option A) → ℕ → A → List (Option A)
put_row places number row = if nat_lt number (length places) then slice_set places number (Some row) else places ++ Some row ∷ []

-- the table with one row changed, if it is there
abbrev pub with_row : {A : Type 0} → List (Option A) → ℕ → (A → A) → List (Option A)
with_row places number change = slice_set places number (option_map change (row_at places number))
