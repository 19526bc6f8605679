-- The text of a limit, and what `parse` reads from it.
use Rattle.std.proofs.Common.{◌≡◌, ◌≢◌, ◌∙◌, ℕ, ◌<◌, ◌≤◌, ◌^◌, List, [], ◌∷◌, Result, Ok, sym, ap, subst, arith, get_or, zero, suc}
use Rattle.std.specs.Fmt.{decimal}
use Rattle.std.specs.Str.Parse.{IsNumeral, ParsesUnsigned, digits_value, without_leading_plus}
use Rattle.std.proofs.lemmas.Fmt.{decimal-digits_value, decimal_digit, decimal_is_IsNumeral, first_decimal, parse-decimal}
use Rattle.std.proofs.lemmas.Str.Parse.{digit_from_value, numerals_by_value, tells_digits, without_leading_plus_none}
use Rattle.qx_sh.specs.Options.{WritesLimit}

first_digit : (digits : List ℕ) → IsNumeral 10 digits → get_or digits 0 0 ≤ 57
first_digit [] numeral = omega (arith, numeral.0)
first_digit (c ∷ cs) numeral = (digit_from_value c numeral.1.0).1

-- the text of a limit begins with a digit other than zero
pub begins_with_digit : (text : List ℕ) (limit : ℕ) → WritesLimit text limit
    → (48 < get_or text 0 0) × (get_or text 0 0 ≤ 57)
begins_with_digit text limit writes =
    let small : limit < 2 ^ 64 = omega (arith, writes.2) in
    let P : List ℕ → Type 0 = λ t. (48 < get_or t 0 0) × (get_or t 0 0 ≤ 57) in
    subst P (sym writes.0)
    (first_decimal limit (omega (arith, writes.1)) small, first_digit _ (decimal_is_IsNumeral limit small).0)

-- and `parse` reads the limit from it
pub reads_limit : {E : Type 0} (text : List ℕ) (r : Result ℕ E) (limit : ℕ)
    → ParsesUnsigned 64 10 text r → WritesLimit text limit → r ≡ Ok limit
reads_limit text r limit parsed writes =
    let small : limit < 2 ^ 64 = omega (arith, writes.2) in
    parse-decimal 64 limit text r small small writes.0 parsed

-- what `parse` reads from a text that begins with a digit other than zero is what the text writes
pub writes_parsed : {E : Type 0} (text : List ℕ) (r : Result ℕ E) (limit : ℕ)
    → ParsesUnsigned 64 10 text r → r ≡ Ok limit → 48 < get_or text 0 0 → get_or text 0 0 ≤ 57
    → limit ≤ 16777216 → WritesLimit text limit
writes_parsed {E} text r limit parsed is above below most =
    let bare : without_leading_plus text ≡ text =
    without_leading_plus_none text (let no : get_or text 0 0 ≢ 43 = omega arith in no) in
    let at = subst (λ (x : Result ℕ E). ParsesUnsigned 64 10 text x) is parsed in
    let read = subst (λ (t : List ℕ). (IsNumeral 10 t × (digits_value 10 t < 2 ^ 64)) × (limit ≡ digits_value 10 t)) bare at in
    let written : decimal limit ≡ text = ap decimal read.1
    ∙ decimal-digits_value (numerals_by_value _ tells_digits) text read.0.0.1 read.0.0.0
    (λ zero. absurd (omega arith)) read.0.1 in
    (sym written, positive limit text written above, most)
  where
    positive : (n : ℕ) (t : List ℕ) → decimal n ≡ t → 48 < get_or t 0 0 → 1 ≤ n
    positive zero t same high =
        let first : 48 < 48 = subst (λ (d : List ℕ). 48 < get_or d 0 0) (sym same ∙ decimal_digit 0 (omega arith)) high in
        omega arith
    positive (suc n) t same high = omega arith
