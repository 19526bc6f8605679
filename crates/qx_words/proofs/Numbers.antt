-- What the library's reading of a text and a number says of a word of digits.
use Rattle.std.proofs.Common.{◌≡◌, ℕ, ◌<◌, ◌^◌, true, List, [], ◌∷◌, None, Err, arith, rules, length}
use Rattle.std.proofs.Math.Nat.{lt_of_not-le}
use Rattle.std.proofs.lemmas.Grind.{common_steps}
use Rattle.std.specs.Char.{is_ascii_digit}
use Rattle.std.specs.List.{list_all}
use Rattle.std.specs.Result.{OkIff}
use Rattle.std.specs.Str.{IsUtf8}
use Rattle.std.specs.Str.Parse.{ParsesUnsigned, digits_value}
use Rattle.std.proofs.lemmas.Str.{IsUtf8-from_ascii}
use Rattle.std.proofs.lemmas.Fmt.{IsAscii-from_digits}
use Rattle.std.proofs.lemmas.Str.Parse.{IsNumeralModel, numerals_by_value, parse_digits}
use Rattle.qx_words.specs.Words.{is_numeral, number_of}

pub own : IsNumeralModel (λ word. list_all is_ascii_digit word ≡ true) (digits_value 10)
own = numerals_by_value _ (search rules)

digits : (word : List ℕ) → is_numeral word ≡ true → list_all is_ascii_digit word ≡ true
digits word numeral = grind (arith, common_steps)

not_empty : (word : List ℕ) → is_numeral word ≡ true → 0 < length word
not_empty [] numeral = cc
not_empty (first ∷ rest) numeral = search rules

-- a word of digits is a text
pub numeral_is_text : (word : List ℕ) → is_numeral word ≡ true → IsUtf8 word
numeral_is_text word numeral = IsUtf8-from_ascii word (IsAscii-from_digits word (own.to word (digits word numeral)))

too_great : (word : List ℕ) (greatest : ℕ) → greatest < digits_value 10 word → number_of greatest word ≡ None
unfolding number_of
too_great word greatest more = grind (arith, common_steps)

refused : {E : Type 0} (word : List ℕ) (error : E) (greatest : ℕ)
    → OkIff (Err error) ((0 < length word) × (digits_value 10 word < 2 ^ 64)) (digits_value 10 word) → greatest < 2 ^ 64 → 0 < length word → greatest < digits_value 10 word
refused word error greatest cases fits some =
    lt_of_not-le (λ small. cases (some, omega arith))

-- a word of digits that is refused names a number that is too great
pub number_refused : {E : Type 0} (word : List ℕ) (error : E) (greatest : ℕ)
    → ParsesUnsigned 64 10 word (Err error) → greatest < 2 ^ 64 → is_numeral word ≡ true → number_of greatest word ≡ None
number_refused word error greatest parses fits numeral =
    too_great word greatest (refused word error greatest (parse_digits own 64 word (Err error) parses (digits word numeral)) fits (not_empty word numeral))
