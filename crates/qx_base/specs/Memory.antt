-- Memory that is kept for the bytes of messages, told by how many fit into it: one leaves it, and the next one takes it.
use Rattle.std.specs.Prelude.{◌≡◌, ◌≤◌, ℕ, List, if◌then◌else◌, length, max, nat_le}
use Rattle.qx_base.specs.declared.message.TheConstants.MessageBytes.{INLINE}

-- bytes want no more memory than is kept: few stand in their value, and more fit into it
abbrev pub FitInto : List ℕ → ℕ → Type 0
FitInto bytes kept = length bytes ≤ max INLINE kept

-- the memory that is kept once bytes were put together: few take none, and more take all of it along
abbrev pub kept_beside : List ℕ → ℕ → ℕ
kept_beside bytes kept = if nat_le (length bytes) INLINE then kept else 0

-- bytes went: few leave the memory that is kept as it is, and more leave theirs in its place, into which as many fit
pub record Leave (bytes : List ℕ) (before after : ℕ) : Type 0 where
  pub few : length bytes ≤ INLINE → after ≡ before
  pub many : FitInto bytes after
