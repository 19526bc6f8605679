-- Words that are printed, and the words of a line that is made of them.
use Rattle.std.proofs.Common.{◌≡◌, ◌∙◌, ℕ, Bool, true, false, cond, eqb, not, List, [], ◌∷◌, ◌++◌, length, refl, ap, arith}
use Rattle.std.specs.Prelude.{All, filter}
use Rattle.std.specs.Char.{is_ascii_digit}
use Rattle.std.specs.List.{list_all, join_with_byte, slice_split}
use Rattle.std.proofs.lemmas.Bool.Decides.{nat_tests}
use Rattle.std.proofs.lemmas.List.Elements.{All-cons, All-nil}
use Rattle.std.proofs.lemmas.List.Folds.{list_all-append}
use Rattle.std.proofs.lemmas.List.Splits.{slice_split_at, slice_split_none}
use Rattle.std.proofs.lemmas.Bool.{and_parts, and_from}
use Rattle.hex.specs.Hex.{is_hex_digit}
use Rattle.qx_types.specs.Configuration.{is_letter_or_digit}
use Rattle.qx_words.specs.Kinds.{is_word, is_word_byte}
use Rattle.qx_words.specs.Words.{words_of}

pub all_weaker : (p q : ℕ → Bool) → ((x : ℕ) → p x ≡ true → q x ≡ true) → (xs : List ℕ) → list_all p xs ≡ true → list_all q xs ≡ true
all_weaker p q weaker [] all = refl
all_weaker p q weaker (x ∷ xs) all =
    let parts = and_parts (p x) (list_all p xs) all in
    and_from (q x) (list_all q xs) (weaker x parts.0) (all_weaker p q weaker xs parts.1)

pub all_joined : (p : ℕ → Bool) (xs ys : List ℕ) → list_all p xs ≡ true → list_all p ys ≡ true → list_all p (xs ++ ys) ≡ true
all_joined p xs ys first second = list_all-append p xs ys ∙ and_from (list_all p xs) (list_all p ys) first second

pub none_passes : (p q : ℕ → Bool) → ((x : ℕ) → p x ≡ true → q x ≡ false) → (xs : List ℕ) → list_all p xs ≡ true → All (λ x. q x ≡ false) xs
none_passes p q excludes [] all = All-nil (λ x. q x ≡ false)
none_passes p q excludes (x ∷ xs) all =
    let parts = and_parts (p x) (list_all p xs) all in
    All-cons (λ x. q x ≡ false) x xs (excludes x parts.0) (none_passes p q excludes xs parts.1)

no_space : (byte : ℕ) → is_word_byte byte ≡ true → eqb byte 32 ≡ false
no_space byte plain = grind (arith, nat_tests)

no_spaces : (word : List ℕ) → is_word word ≡ true → All (λ byte. eqb byte 32 ≡ false) word
no_spaces word is = none_passes is_word_byte (λ byte. eqb byte 32) no_space word (and_parts (not (eqb (length word) 0)) (list_all is_word_byte word) is).1

kept : (b : Bool) (xs ys : List (List ℕ)) → b ≡ true → cond b xs ys ≡ xs
kept true xs ys is = refl
kept false xs ys is = cc

abbrev is_some_word : List ℕ → Bool
is_some_word word = not (eqb (length word) 0)

word_kept : (word : List ℕ) (words : List (List ℕ)) → is_word word ≡ true → filter is_some_word (word ∷ words) ≡ word ∷ filter is_some_word words
word_kept word words is = kept (is_some_word word) _ _ (and_parts (is_some_word word) (list_all is_word_byte word) is).0

-- words that are parted by one space are the words of the line
pub words_again : (words : List (List ℕ)) → list_all is_word words ≡ true → words_of (join_with_byte 32 words) ≡ words
words_again [] all = refl
words_again (word ∷ []) all =
    let is = (and_parts (is_word word) true all).0 in
    ap (filter is_some_word) (slice_split_none (λ byte. eqb byte 32) word (no_spaces word is)) ∙ word_kept word [] is
words_again (word ∷ second ∷ words) all =
    let parts = and_parts (is_word word) (list_all is_word (second ∷ words)) all in
    let rest = join_with_byte 32 (second ∷ words) in
    ap (filter is_some_word) (slice_split_at (λ byte. eqb byte 32) word 32 rest (no_spaces word parts.0) refl)
    ∙ word_kept word (slice_split (λ byte. eqb byte 32) rest) parts.0
    ∙ ap (λ more. word ∷ more) (words_again (second ∷ words) parts.1)

pub digit_in_word : (byte : ℕ) → is_ascii_digit byte ≡ true → is_word_byte byte ≡ true
digit_in_word byte digit = grind (arith, nat_tests)

pub hex_digit_in_word : (byte : ℕ) → is_hex_digit byte ≡ true → is_word_byte byte ≡ true
hex_digit_in_word byte digit = grind (arith, nat_tests)

pub name_byte_in_word : (byte : ℕ) → is_letter_or_digit byte ≡ true → is_word_byte byte ≡ true
name_byte_in_word byte is = grind (arith, nat_tests)

-- the names and numbers of a thread are parted by dots
abbrev pub is_no_dot : ℕ → Bool
is_no_dot byte = not (eqb byte 46)

pub digit_is_no_dot : (byte : ℕ) → is_ascii_digit byte ≡ true → is_no_dot byte ≡ true
digit_is_no_dot byte digit = grind (arith, nat_tests)

pub name_byte_is_no_dot : (byte : ℕ) → is_letter_or_digit byte ≡ true → is_no_dot byte ≡ true
name_byte_is_no_dot byte is = grind (arith, nat_tests)
