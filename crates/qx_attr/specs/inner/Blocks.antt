-- How open control blocks stand under their numbers. No definition above mentions their keys.
use Rattle.std.specs.Prelude.{ℕ, ◌≡◌, ◌==◌, List, [], ◌∷◌, Option, Some, None, filter, is_some, map, if◌then◌else◌}
use Rattle.slab.specs.Slab.{Slab, ContainsKey, get}
use Rattle.qx_machine.specs.declared.rows.Client.{Client}
use Rattle.qx_machine.specs.declared.rows.Ocb.{Ocb}
use Rattle.qx_machine.specs.Inodes.{is_clients}
use Rattle.qx_isolation.specs.Rows.{row_at}

-- rows under their numbers, the numbers of those that are there in order of making, and how many more can be put there with no memory
pub record NumberedRows : Type 0 where
  pub rows : List (Option Ocb)
  pub made : List ℕ
  pub room : ℕ

-- what stands at a key, where there is one
abbrev pub value_at : Slab Ocb → Option ℕ → Option Ocb
value_at values None = None
value_at values (Some key) = get values key

abbrev pub rows_of : Slab Ocb → List (Option ℕ) → List (Option Ocb)
rows_of values keys = map (value_at values) keys

-- each key of a number has a value, and no two numbers have one key
pub record IsKeyed (values : Slab Ocb) (keys : List (Option ℕ)) : Type 0 where
  pub there : (number key : ℕ) → row_at keys number ≡ Some key → ContainsKey values key
  pub apart : (a b key : ℕ) → row_at keys a ≡ Some key → row_at keys b ≡ Some key → a ≡ b

-- the number of each row that is there stands among these once, and no other number
abbrev pub AreMadeOnce : {A : Type 0} → List (Option A) → List ℕ → Type 0
AreMadeOnce rows made = (number : ℕ) → filter (λ other. other == number) made ≡ (if is_some (row_at rows number) then number ∷ [] else [])

-- the numbers of the blocks that a client has
abbrev pub numbers_of : NumberedRows → Client → List ℕ
numbers_of blocks client = filter (λ number. is_clients client (row_at blocks.rows number)) blocks.made
