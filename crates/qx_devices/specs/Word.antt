-- What one word of a script is.
use Rattle.std.specs.Prelude.{ℕ, ◌==◌, ◌&&◌, Bool, not, List, length}
use Rattle.std.specs.List.{list_all}

-- neither a space nor a newline
abbrev pub is_word_byte : ℕ → Bool
is_word_byte byte = not (byte == 32) && not (byte == 10)

abbrev pub is_word : List ℕ → Bool
is_word bytes = not (length bytes == 0) && list_all is_word_byte bytes
