-- Which priorities the bits of a line's words mark.
use Rattle.std.specs.Prelude.{ℕ, ◌==◌, ◌-◌, ◌/◌, ◌%◌, Bool, List, get_or}
use Rattle.std.specs.Int.{bit_at}
use Rattle.qx_lines.specs.declared.marks.TheConstants.{WORDS}

-- the priority's bit is set
unfoldable pub is_marked : List ℕ → ℕ → Bool
is_marked words priority = bit_at (get_or words (priority / 64) 0) (priority % 64) == 1

-- how many words there are from the highest one down to the priority's
abbrev pub words_down_to : ℕ → ℕ
words_down_to priority = WORDS - priority / 64
