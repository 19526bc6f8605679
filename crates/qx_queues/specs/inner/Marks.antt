-- What only the proofs need of Marks: which managers' bits are set.
use Rattle.std.specs.Prelude.{◌≡◌, ℕ, ◌<◌, ◌≤◌, ◌==◌, Bool, true, false, Option, None, Some, List, nat_lt, slice_get}
use Rattle.std.specs.Int.{bit_at}
use Rattle.qx_types.specs.declared.names.TheConstants.Manager.{MOST}
use Rattle.qx_lines.specs.declared.Line.{Line}
use Rattle.qx_lines.specs.Line.{item_count}

-- the bit of the manager of a number is set
unfoldable pub is_marked : ℕ → ℕ → Bool
is_marked marks number = bit_at marks number == 1

-- from a number on it is the lowest one that is marked
pub record IsLowestFrom (marks number place : ℕ) : Type 0 where
  pub behind : number ≤ place
  pub marked : is_marked marks place ≡ true
  pub lowest : (other : ℕ) → number ≤ other → other < place → is_marked marks other ≡ false

-- a line is there, and has an item
abbrev pub has_items : Option Line → Bool
has_items None = false
has_items (Some line) = nat_lt 0 (item_count line)

-- the lines that have items are marked, and no others
abbrev pub AreMarked : ℕ → List Line → Type 0
AreMarked marks lines = (number : ℕ) → number < MOST → is_marked marks number ≡ has_items (slice_get lines number)
