-- How users, processes, threads, bytes, flags and modes are printed.
use Rattle.std.specs.Prelude.{ℕ, ◌+◌, ◌/◌, ◌%◌, ◌==◌, Bool, false, not, List, [], ◌∷◌, ◌++◌, Option, Some, None, codes, decimal, bit_and, filter}
use Rattle.hex.specs.Hex.{encode_lower}
use Rattle.qx_types.specs.Configuration.{Configuration, name_of}
use Rattle.qx_types.specs.declared.flags.OFlags.{OFlags}
use Rattle.qx_types.specs.declared.names.Proc.{Proc}
use Rattle.qx_types.specs.declared.names.Thread.{Thread}
use Rattle.qx_words.specs.Words.{flag_of}

-- a user's name; no text for a number that no user has
abbrev pub name_text : Option (List ℕ) → List ℕ
name_text None = []
name_text (Some name) = name

unfoldable pub user_text : Configuration → ℕ → List ℕ
user_text config user = name_text (name_of config user)

-- as `ann.1`
unfoldable pub process_text : Configuration → Proc → List ℕ
process_text config process = user_text config process.user.0 ++ codes "." ++ decimal process.num

-- as `ann.1.2`
unfoldable pub thread_text : Configuration → Thread → List ℕ
thread_text config thread = process_text config thread.proc ++ codes "." ++ decimal thread.tid

-- lower-case hexadecimal digits, or `-` for no bytes
unfoldable pub bytes_text : List ℕ → List ℕ
bytes_text [] = codes "-"
bytes_text (byte ∷ bytes) = encode_lower (byte ∷ bytes)

-- the flag that the letter names is among the flags
abbrev pub is_given : ℕ → ℕ → Bool
is_given flags letter = elim (flag_of letter) [ None ↦ false | Some flag ↦ not (bit_and flags flag == 0) ]

-- the letters of the flags, in the order of rwcxtan; bits that no letter names are left out
unfoldable pub flags_text : OFlags → List ℕ
flags_text flags = filter (is_given flags.0) (codes "rwcxtan")

abbrev pub last_octal_digit : ℕ → ℕ
last_octal_digit number = 48 + number % 8

-- the last three octal digits, which are all that a mode of at most 0777 has
unfoldable pub mode_text : ℕ → List ℕ
mode_text mode = last_octal_digit (mode / 64) ∷ last_octal_digit (mode / 8) ∷ last_octal_digit mode ∷ []
