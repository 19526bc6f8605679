-- Bytes in hexadecimal digits are a word, and are read back.
use Rattle.std.proofs.Common.{◌≡◌, ◌∙◌, ℕ, ◌≤◌, Bool, true, false, cond, eqb, length, not, List, [], ◌∷◌, Option, Some, Result, Ok, Err, refl, ap, arith, subst, suc, sym, zero}
use Rattle.std.specs.Prelude.{◌&&◌, codes, slice_get}
use Rattle.std.specs.List.{list_all}
use Rattle.std.specs.Result.{result_ok}
use Rattle.std.specs.Str.{bytes_eq}
use Rattle.std.proofs.lemmas.List.Sums.{list_all-from_AllPass}
use Rattle.std.proofs.lemmas.Bool.{and_from}
use Rattle.hex.specs.Hex.{IsBytes, decode_of, decode_sized, encode_lower, encode_with, is_hex_digit, lower_digits}
use Rattle.hex.proofs.HexLemmas.{decode_of-encode_lower, decode_of-ok, decode_sized-encode_lower, decode_sized-ok, decode_sized-twice, length-encode_with}
use Rattle.qx_types.specs.Optional.{◌>>=◌}
use Rattle.qx_words.specs.Kinds.{is_word, is_word_byte}
use Rattle.qx_words.specs.WordText.{bytes_text}
use Rattle.qx_words.specs.Words.{bytes_in_word, greatest_byte, hex_byte_of}
use Rattle.qx_words.proofs.PlainWords.{all_weaker, hex_digit_in_word}
use Rattle.qx_words.proofs.ReadValues.{bind_some, of_some}
use Rattle.qx_words.proofs.ReadWords.{some_length}

no_bytes : IsBytes []
no_bytes = λ i. omega arith

decoded : {E : Type 0} (answer : Result (List ℕ) E) (bytes : List ℕ) → result_ok answer ≡ Some bytes → answer ≡ Ok bytes
decoded (Ok other) bytes is = ap Ok (of_some other bytes is)
decoded (Err error) bytes is = cc

never : (b : Bool) (A : Type 0) (x y : A) → cond (b && false) x y ≡ y
never true A x y = refl
never false A x y = refl

-- digits are no dash: there are two of them at least
is_no_dash : (byte : ℕ) (bytes : List ℕ) (A : Type 0) (x y : A) → cond (bytes_eq (encode_lower (byte ∷ bytes)) (codes "-")) x y ≡ y
unfolding encode_with
is_no_dash byte bytes A x y = never _ A x y

pub bytes_again : (bytes : List ℕ) → IsBytes bytes → bytes_in_word (bytes_text bytes) ≡ Some bytes
unfolding bytes_in_word bytes_text
bytes_again [] are = refl
bytes_again (byte ∷ bytes) are =
    is_no_dash byte bytes (Option (List ℕ)) (Some []) (result_ok (decode_of (encode_lower (byte ∷ bytes))))
    ∙ ap result_ok (decode_of-encode_lower (byte ∷ bytes) are)

digits_are_word : (byte : ℕ) (bytes : List ℕ) → IsBytes (byte ∷ bytes) → is_word (encode_lower (byte ∷ bytes)) ≡ true
digits_are_word byte bytes are =
    let text = encode_lower (byte ∷ bytes) in
    and_from (not (eqb (length text) 0)) (list_all is_word_byte text)
    (some_length (length text) (omega (arith, length-encode_with lower_digits (byte ∷ bytes))))
    (all_weaker is_hex_digit is_word_byte hex_digit_in_word text
    (list_all-from_AllPass is_hex_digit text (decode_of-ok text (byte ∷ bytes) (decode_of-encode_lower (byte ∷ bytes) are)).1))

pub bytes_are_word : (bytes : List ℕ) → IsBytes bytes → is_word (bytes_text bytes) ≡ true
unfolding bytes_text
bytes_are_word [] are = refl
bytes_are_word (byte ∷ bytes) are = digits_are_word byte bytes are

by_dash : (dash : Bool) (others : Option (List ℕ)) (bytes : List ℕ) → (others ≡ Some bytes → IsBytes bytes) → cond dash (Some []) others ≡ Some bytes → IsBytes bytes
by_dash true others bytes within is = subst IsBytes (of_some [] bytes is) no_bytes
by_dash false others bytes within is = within is

pub bytes_within : (word bytes : List ℕ) → bytes_in_word word ≡ Some bytes → IsBytes bytes
unfolding bytes_in_word
bytes_within word bytes is =
    by_dash (bytes_eq word (codes "-")) (result_ok (decode_of word)) bytes
    (λ found. (decode_of-ok word bytes (decoded (decode_of word) bytes found)).3) is

-- one byte

one_byte : (byte : ℕ) → byte ≤ greatest_byte → IsBytes (byte ∷ [])
one_byte byte few zero = omega arith
one_byte byte few (suc i) = omega arith

pub hex_byte_again : (byte : ℕ) → byte ≤ greatest_byte → hex_byte_of (encode_lower (byte ∷ [])) ≡ Some byte
unfolding hex_byte_of
hex_byte_again byte few =
    ap (λ answer. result_ok answer >>= λ bytes. slice_get bytes 0) (decode_sized-encode_lower (byte ∷ []) 1 refl (one_byte byte few))

pub hex_byte_is_word : (byte : ℕ) → byte ≤ greatest_byte → is_word (encode_lower (byte ∷ [])) ≡ true
hex_byte_is_word byte few = digits_are_word byte [] (one_byte byte few)

first_within : (bytes : List ℕ) (byte : ℕ) → IsBytes bytes → slice_get bytes 0 ≡ Some byte → byte ≤ greatest_byte
first_within [] byte are is = cc
first_within (first ∷ more) byte are is = omega (arith, are 0, of_some first byte is)

pub hex_byte_within : (word : List ℕ) (byte : ℕ) → hex_byte_of word ≡ Some byte → byte ≤ greatest_byte
unfolding hex_byte_of
hex_byte_within word byte is =
    let found = bind_some (result_ok (decode_sized word 1)) (λ bytes. slice_get bytes 0) byte is in
    let sized = decoded (decode_sized word 1) found.0 found.1 in
    let same = decode_sized-twice word 1 (decode_sized-ok word 1 found.0 sized) in
    first_within found.0 byte (decode_of-ok word found.0 (sym same ∙ sized)).3 found.2
