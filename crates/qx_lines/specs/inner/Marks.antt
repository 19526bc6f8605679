-- What only the proofs need of Marks: the highest priority that has items.
use Rattle.std.specs.Prelude.{◌≡◌, ℕ, ◌<◌, true, false, List}
use Rattle.qx_lines.specs.Marks.{is_marked}

-- the priority is marked, and no higher one
pub record IsHighest (words : List ℕ) (count priority : ℕ) : Type 0 where
  pub within : priority < count
  pub marked : is_marked words priority ≡ true
  pub highest : (higher : ℕ) → priority < higher → is_marked words higher ≡ false
