-- Priority lines (System Architecture: messages are received in order of priority, and first in, first out among equals), and the
-- lines of the managers under their numbers.
use Rattle.std.specs.Prelude.{ℕ, List, [], ◌∷◌, nat_lt, if◌then◌else◌, slice_get, slice_set, unwrap_or}

-- the line with the item before the first one of lower priority, else last
abbrev pub into : {A : Type 0} → (A → ℕ) → List A → A → List A
into rank [] item = item ∷ []
into rank (first ∷ line) item = if nat_lt (rank first) (rank item) then item ∷ first ∷ line else first ∷ into rank line item

-- the line under a number
abbrev pub line_at : {A : Type 0} → List (List A) → ℕ → List A
line_at lines number = unwrap_or (slice_get lines number) []

-- the lines with one of them changed
abbrev pub with_line : {A : Type 0} → List (List A) → ℕ → (List A → List A) → List (List A)
with_line lines number change = slice_set lines number (change (line_at lines number))
