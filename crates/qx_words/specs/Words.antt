-- The words of a script and the values that they name.
use Rattle.std.specs.Prelude.{ℕ, ◌+◌, ◌*◌, ◌-◌, ◌^◌, ◌==◌, ◌&&◌, Bool, true, false, List, [], ◌∷◌, Option, Some, None, length, take, drop, nat_le, neg_ℤ, pos, slice_get, ℤ, if◌then◌else◌, filter, not, codes, option_map, bit_and, bit_or, position}
use Rattle.std.specs.Char.{is_ascii_digit}
use Rattle.std.specs.List.{slice_split, list_all}
use Rattle.std.specs.Result.{result_ok}
use Rattle.std.specs.Str.{bytes_eq}
use Rattle.std.specs.Str.Parse.{digits_value, starts_with_minus}
use Rattle.hex.specs.Hex.{decode_of, decode_sized}
use Rattle.qx_types.specs.Configuration.{is_user_name}
use Rattle.qx_types.specs.Optional.{◌>>=◌}
use Rattle.qx_types.specs.declared.flags.OFlags.{OFlags}
use Rattle.qx_types.specs.declared.names.Proc.{Proc}
use Rattle.qx_types.specs.declared.names.Thread.{Thread}
use Rattle.qx_types.specs.declared.names.User.{User}

-- the lines of a text: what stands before, between and after its newlines
abbrev pub lines_of : List ℕ → List (List ℕ)
lines_of text = slice_split (λ byte. byte == 10) text

-- the words of a line: what stands before, between and after its spaces, where that is not empty
abbrev pub words_of : List ℕ → List (List ℕ)
words_of line = filter (λ word. not (length word == 0)) (slice_split (λ byte. byte == 32) line)

-- one digit or more, the first of several no 0
abbrev pub begins_well : List ℕ → Bool
begins_well [] = false
begins_well (first ∷ []) = true
begins_well (first ∷ second ∷ rest) = not (first == 48)

abbrev pub is_numeral : List ℕ → Bool
is_numeral word = list_all is_ascii_digit word && begins_well word

-- a decimal number up to the greatest one that is allowed
unfoldable pub number_of : ℕ → List ℕ → Option ℕ
number_of greatest word =
    if is_numeral word && nat_le (digits_value 10 word) greatest then Some (digits_value 10 word) else None

abbrev pub greatest_byte : ℕ
greatest_byte = 255

-- a number of one byte
abbrev pub byte_of : List ℕ → Option ℕ
byte_of word = number_of greatest_byte word

abbrev pub greatest_of_two_bytes : ℕ
greatest_of_two_bytes = 65535

abbrev pub greatest_of_four_bytes : ℕ
greatest_of_four_bytes = 4294967295

abbrev pub greatest_moment : ℕ
greatest_moment = 18446744073709551615

-- a moment
abbrev pub moment_of : List ℕ → Option ℕ
moment_of word = number_of greatest_moment word

abbrev pub negative : ℕ → ℤ
negative number = neg_ℤ (pos number)

-- a number of 64 bits with a sign: behind a `-` one of 0 to 2 ^ 63, so that `-0` is 0, or else one below 2 ^ 63
unfoldable pub offset_of : List ℕ → Option ℤ
offset_of word =
    if starts_with_minus word then option_map negative (number_of (2 ^ 63) (drop 1 word))
    else option_map pos (number_of (2 ^ 63 - 1) word)

-- a name that a user may have
abbrev pub name_in_word : List ℕ → Option (List ℕ)
name_in_word word = if is_user_name word then Some word else None

abbrev pub numbered_user : ℕ → User
numbered_user place = record { 0 = place + 1 }

-- the user of that name; users are numbered from 1
unfoldable pub user_in_word : List (List ℕ) → List ℕ → Option User
user_in_word users word = option_map numbered_user (position (λ name. bytes_eq name word) users)

abbrev pub around : List ℕ → ℕ → List ℕ × List ℕ
around word place = (take place word, drop (place + 1) word)

-- what stands before and after the first dot
unfoldable pub around_dot : List ℕ → Option (List ℕ × List ℕ)
around_dot word = option_map (around word) (position (λ byte. byte == 46) word)

-- USER.PROCESS
unfoldable pub process_in_word : List (List ℕ) → List ℕ → Option Proc
process_in_word users word = do
  parts ← around_dot word
  user ← user_in_word users parts.0
  process ← byte_of parts.1
  Some (record { user = user; num = process })

-- USER.PROCESS.THREAD
unfoldable pub thread_in_word : List (List ℕ) → List ℕ → Option Thread
thread_in_word users word = do
  parts ← around_dot word
  user ← user_in_word users parts.0
  numbers ← around_dot parts.1
  process ← byte_of numbers.0
  thread ← byte_of numbers.1
  Some (record { proc = record { user = user; num = process }; tid = thread })

-- the flag that a letter names
abbrev pub flag_of : ℕ → Option ℕ
flag_of letter =
    if letter == 114 then Some 1
    else if letter == 119 then Some 2
    else if letter == 99 then Some 4
    else if letter == 120 then Some 8
    else if letter == 116 then Some 16
    else if letter == 97 then Some 32
    else if letter == 110 then Some 64
    else None

-- a flag beside those before it; none is given twice
abbrev pub with_flag : ℕ → ℕ → Option ℕ
with_flag flags flag = if bit_and flags flag == 0 then Some (bit_or flags flag) else None

abbrev pub flags_after : ℕ → List ℕ → Option ℕ
flags_after flags [] = Some flags
flags_after flags (letter ∷ letters) = (flag_of letter >>= with_flag flags) >>= λ more. flags_after more letters

-- one or more letters of rwcxtan, each at most once
unfoldable pub flags_of : List ℕ → Option OFlags
flags_of word = if length word == 0 then None else option_map (λ flags. record { 0 = flags }) (flags_after 0 word)

abbrev pub octal_of : ℕ → Option ℕ
octal_of byte = if nat_le 48 byte && nat_le byte 55 then Some (byte - 48) else None

-- all items of a list of three
abbrev pub three_of : {A : Type 0} → List A → Option (A × A × A)
three_of [] = None
three_of (first ∷ []) = None
three_of (first ∷ second ∷ []) = None
three_of (first ∷ second ∷ third ∷ []) = Some (first, second, third)
three_of (first ∷ second ∷ third ∷ fourth ∷ more) = None

-- three octal digits
unfoldable pub mode_of : List ℕ → Option ℕ
mode_of word = do
  digits ← three_of word
  high ← octal_of digits.0
  middle ← octal_of digits.1
  low ← octal_of digits.2
  Some (high * 64 + middle * 8 + low)

-- hexadecimal digits in pairs, in either case, or `-` for no bytes
unfoldable pub bytes_in_word : List ℕ → Option (List ℕ)
bytes_in_word word = if bytes_eq word (codes "-") then Some [] else result_ok (decode_of word)

-- one byte as two hexadecimal digits
unfoldable pub hex_byte_of : List ℕ → Option ℕ
hex_byte_of word = result_ok (decode_sized word 1) >>= λ bytes. slice_get bytes 0
