-- Numbers with a sign are a word, and are read back.
use Rattle.std.proofs.Common.{◌≡◌, ◌∙◌, ℕ, ◌-◌, ◌<◌, ◌≤◌, ◌^◌, Bool, true, false, cond, eqb, length, not, List, [], ◌∷◌, Some, zero, suc, refl, ap, arith, subst}
use Rattle.std.specs.Prelude.{ℤ, pos, negsuc, FitsSigned, drop, decimal, option_map}
use Rattle.std.specs.Char.{is_ascii_digit}
use Rattle.std.specs.Fmt.{signed_decimal}
use Rattle.std.specs.Int.{w64}
use Rattle.std.specs.List.{list_all}
use Rattle.std.specs.Str.Parse.{starts_with_minus}
use Rattle.std.proofs.lemmas.Bool.Decides.{nat_tests}
use Rattle.std.proofs.lemmas.Bool.{and_parts, and_from}
use Rattle.qx_words.specs.Kinds.{is_word}
use Rattle.qx_words.specs.Words.{negative, number_of, offset_of}
use Rattle.qx_words.proofs.ReadValues.{mapped, number_within}
use Rattle.qx_words.proofs.ReadWords.{digits, number_again, number_in_word, number_is_word, some_length}

digit_is_no_minus : (word : List ℕ) → list_all is_ascii_digit word ≡ true → starts_with_minus word ≡ false
digit_is_no_minus [] all = refl
digit_is_no_minus (digit ∷ more) all =
    let first = (and_parts (is_ascii_digit digit) (list_all is_ascii_digit more) all).0 in
    grind (arith, nat_tests)

without_minus : (n : ℕ) → n < 2 ^ 63 → offset_of (decimal n) ≡ option_map pos (number_of (2 ^ 63 - 1) (decimal n))
unfolding offset_of
without_minus n small = rw (digit_is_no_minus (decimal n) (digits n (omega arith))) refl

pub offset_again : (offset : ℤ) → FitsSigned w64 offset → offset_of (signed_decimal offset) ≡ Some offset
unfolding offset_of
offset_again (pos n) fits = without_minus n fits.sfits ∙ ap (option_map pos) (number_again (2 ^ 63 - 1) n (omega (arith, fits.sfits)) (omega arith))
offset_again (negsuc n) fits = ap (option_map negative) (number_again (2 ^ 63) (suc n) (omega (arith, fits.sfits)) (omega arith))

pub offset_is_word : (offset : ℤ) → FitsSigned w64 offset → is_word (signed_decimal offset) ≡ true
offset_is_word (pos n) fits = number_is_word n (omega (arith, fits.sfits))
offset_is_word (negsuc n) fits =
    and_from (not (eqb (length (signed_decimal (negsuc n))) 0)) _ (some_length (length (signed_decimal (negsuc n))) (omega arith))
    (number_in_word (suc n) (omega (arith, fits.sfits)))

negative_within : (n : ℕ) → n ≤ 2 ^ 63 → FitsSigned w64 (negative n)
negative_within zero few = record { sfits = omega arith }
negative_within (suc n) few = record { sfits = omega arith }

either_within : (minus : Bool) (word : List ℕ) (offset : ℤ)
    → cond minus (option_map negative (number_of (2 ^ 63) (drop 1 word))) (option_map pos (number_of (2 ^ 63 - 1) word)) ≡ Some offset
    → FitsSigned w64 offset
either_within true word offset is =
    let number = mapped negative (number_of (2 ^ 63) (drop 1 word)) offset is in
    subst (FitsSigned w64) number.2 (negative_within number.0 (number_within (2 ^ 63) (drop 1 word) number.0 number.1))
either_within false word offset is =
    let number = mapped pos (number_of (2 ^ 63 - 1) word) offset is in
    subst (FitsSigned w64) number.2 (record { sfits = omega (arith, number_within (2 ^ 63 - 1) word number.0 number.1) })

pub offset_within : (word : List ℕ) (offset : ℤ) → offset_of word ≡ Some offset → FitsSigned w64 offset
unfolding offset_of
offset_within word offset is = either_within (starts_with_minus word) word offset is
