-- What the words of a line name is within its range.
use Rattle.std.proofs.Common.{◌≡◌, ℕ, ◌+◌, ◌<◌, ◌≤◌, ◌^◌, Bool, true, false, cond, eqb, leb, not, List, [], ◌∷◌, Option, Some, None, length, refl, ap, subst, arith}
use Rattle.std.specs.Prelude.{◌&&◌, bit_and, bit_or, option_map, position, filter}
use Rattle.std.specs.List.{list_all, slice_split, onto_first}
use Rattle.std.specs.Str.{bytes_eq}
use Rattle.std.specs.Str.Parse.{digits_value}
use Rattle.std.proofs.lemmas.Bool.Decides.{nat_tests}
use Rattle.std.proofs.lemmas.List.Quantifiers.{position-Some}
use Rattle.std.proofs.lemmas.Nat.{le_or_l, le_or_r, or_lt}
use Rattle.std.proofs.lemmas.Option.{cond_some}
use Rattle.std.proofs.lemmas.Bool.{and_parts, and_from}
use Rattle.qx_types.specs.Optional.{◌>>=◌}
use Rattle.qx_types.specs.declared.flags.OFlags.{OFlags}
use Rattle.qx_types.specs.declared.limits.TheConstants.Limits.{MODE}
use Rattle.qx_types.specs.declared.names.Proc.{Proc}
use Rattle.qx_types.specs.declared.names.Thread.{Thread}
use Rattle.qx_types.specs.declared.names.User.{User}
use Rattle.qx_words.specs.Kinds.{is_word, is_word_byte, CanNameUser, CanNameProcess, CanNameThread}
use Rattle.qx_words.specs.Words.{around_dot, byte_of, flag_of, flags_after, flags_of, greatest_byte, is_numeral, lines_of, mode_of, number_of, numbered_user, octal_of, process_in_word, thread_in_word, three_of, user_in_word, with_flag, words_of}
use Rattle.qx_words.proofs.PlainWords.{all_weaker}

pub bind_some : {A B : Type 0} (known : Option A) (next : A → Option B) (y : B) → (known >>= next) ≡ Some y → (x : A) × (known ≡ Some x) × (next x ≡ Some y)
bind_some None next y is = cc
bind_some (Some x) next y is = (x, refl, is)

pub of_some : {A : Type 0} (x y : A) → Some x ≡ Some y → x ≡ y
of_some x y is = cc

pub mapped : {A B : Type 0} (f : A → B) (known : Option A) (y : B) → option_map f known ≡ Some y → (x : A) × (known ≡ Some x) × (f x ≡ y)
mapped f None y is = cc
mapped f (Some x) y is = (x, refl, of_some (f x) y is)

pub past : {A : Type 0} (b : Bool) (x : Option A) (y : A) → cond b None x ≡ Some y → x ≡ Some y
past true x y is = cc
past false x y is = is

pub number_within : (greatest : ℕ) (word : List ℕ) (n : ℕ) → number_of greatest word ≡ Some n → n ≤ greatest
unfolding number_of
number_within greatest word n is =
    let parts = cond_some (is_numeral word && leb (digits_value 10 word) greatest) (digits_value 10 word) n is in
    let below : leb (digits_value 10 word) greatest ≡ true = (and_parts (is_numeral word) (leb (digits_value 10 word) greatest) parts.0).1 in
    let within : digits_value 10 word ≤ greatest = grind (arith, nat_tests) in
    omega (arith, parts.1)

pub user_within : (users : List (List ℕ)) (word : List ℕ) (user : User) → user_in_word users word ≡ Some user → CanNameUser users user
unfolding user_in_word
user_within users word user is =
    let place = mapped numbered_user (position (λ name. bytes_eq name word) users) user is in
    let at = position-Some (λ name. bytes_eq name word) users place.0 [] place.1 in
    let number : place.0 + 1 ≡ user.0 = ap (λ (u : User). u.0) place.2 in
    (omega arith, omega (arith, at.0))

pub process_within : (users : List (List ℕ)) (word : List ℕ) (process : Proc) → process_in_word users word ≡ Some process → CanNameProcess users process
unfolding process_in_word
process_within users word process is =
    let parts = bind_some (around_dot word) _ process is in
    let user = bind_some (user_in_word users parts.0.0) _ process parts.2 in
    let number = bind_some (byte_of parts.0.1) _ process user.2 in
    subst (CanNameProcess users) (of_some _ process number.2)
    (user_within users parts.0.0 user.0 user.1, number_within greatest_byte parts.0.1 number.0 number.1)

pub thread_within : (users : List (List ℕ)) (word : List ℕ) (thread : Thread) → thread_in_word users word ≡ Some thread → CanNameThread users thread
unfolding thread_in_word
thread_within users word thread is =
    let parts = bind_some (around_dot word) _ thread is in
    let user = bind_some (user_in_word users parts.0.0) _ thread parts.2 in
    let numbers = bind_some (around_dot parts.0.1) _ thread user.2 in
    let process = bind_some (byte_of numbers.0.0) _ thread numbers.2 in
    let number = bind_some (byte_of numbers.0.1) _ thread process.2 in
    subst (CanNameThread users) (of_some _ thread number.2)
    (user_within users parts.0.0 user.0 user.1, number_within greatest_byte numbers.0.0 process.0 process.1, number_within greatest_byte numbers.0.1 number.0 number.1)

flag_within : (letter flag : ℕ) → flag_of letter ≡ Some flag → (1 ≤ flag) × (flag < 2 ^ 7)
flag_within letter flag is = grind (arith, nat_tests)

record OneMore (flags n : ℕ) (letters : List ℕ) : Type 0 where
  more : ℕ
  above : flags ≤ more
  some : 1 ≤ more
  below : more < 2 ^ 7
  rest : flags_after more letters ≡ Some n

one_letter : (flags letter : ℕ) (letters : List ℕ) (n : ℕ) → flags < 2 ^ 7 → flags_after flags (letter ∷ letters) ≡ Some n → OneMore flags n letters
one_letter flags letter letters n small is =
    let outer = bind_some (flag_of letter >>= with_flag flags) (λ more. flags_after more letters) n is in
    let inner = bind_some (flag_of letter) (with_flag flags) outer.0 outer.1 in
    let both = cond_some (eqb (bit_and flags inner.0) 0) (bit_or flags inner.0) outer.0 inner.2 in
    let flag = flag_within letter inner.0 inner.1 in
    record {
      more = outer.0;
      above = subst (λ (m : ℕ). flags ≤ m) both.1 (le_or_l flags inner.0);
      some = subst (λ (m : ℕ). 1 ≤ m) both.1 (omega (arith, flag.0, le_or_r flags inner.0));
      below = subst (λ (m : ℕ). m < 2 ^ 7) both.1 (or_lt 7 flags inner.0 small flag.1);
      rest = outer.2;
    }

after_within : (flags : ℕ) (word : List ℕ) (n : ℕ) → flags < 2 ^ 7 → flags_after flags word ≡ Some n → (flags ≤ n) × (n < 2 ^ 7)
after_within flags [] n small is = let same = of_some flags n is in (omega (arith, same), omega (arith, same))
after_within flags (letter ∷ letters) n small is =
    let one = one_letter flags letter letters n small is in
    let rest = after_within one.more letters n one.below one.rest in
    (omega (arith, rest.0, one.above), rest.1)

letters_within : (letter : ℕ) (letters : List ℕ) (n : ℕ) → flags_after 0 (letter ∷ letters) ≡ Some n → (1 ≤ n) × (n ≤ 127)
letters_within letter letters n is =
    let one = one_letter 0 letter letters n (omega arith) is in
    let rest = after_within one.more letters n one.below one.rest in
    (omega (arith, rest.0, one.some), omega (arith, rest.1))

pub flags_within : (word : List ℕ) (flags : OFlags) → flags_of word ≡ Some flags → (1 ≤ flags.0) × (flags.0 ≤ 127)
unfolding flags_of
flags_within [] flags is = cc
flags_within (letter ∷ letters) flags is =
    let word = letter ∷ letters in
    let all = mapped (λ (n : ℕ). record { 0 = n }) (flags_after 0 word) flags (past (eqb (length word) 0) _ flags is) in
    let number : all.0 ≡ flags.0 = ap (λ (f : OFlags). f.0) all.2 in
    let within = letters_within letter letters all.0 all.1 in
    (omega (arith, within.0), omega (arith, within.1))

octal_within : (byte digit : ℕ) → octal_of byte ≡ Some digit → digit ≤ 7
octal_within byte digit is = grind (arith, nat_tests)

pub mode_within : (word : List ℕ) (mode : ℕ) → mode_of word ≡ Some mode → mode ≤ MODE
unfolding mode_of
mode_within word mode is =
    let digits = bind_some (three_of word) _ mode is in
    let high = bind_some (octal_of digits.0.0) _ mode digits.2 in
    let middle = bind_some (octal_of digits.0.1) _ mode high.2 in
    let low = bind_some (octal_of digits.0.2) _ mode middle.2 in
    let same = of_some _ mode low.2 in
    omega (arith, same, octal_within digits.0.0 high.0 high.1, octal_within digits.0.1 middle.0 middle.1, octal_within digits.0.2 low.0 low.1)

-- the pieces of a line

split_head : (p q : ℕ → Bool) (x : ℕ) (pieces : List (List ℕ)) → (q x && not (p x)) ≡ true → list_all (list_all (λ y. q y && not (p y))) pieces ≡ true
    → list_all (list_all (λ y. q y && not (p y))) (onto_first x pieces) ≡ true
split_head p q x [] is all = and_from _ true (and_from _ true is refl) refl
split_head p q x (piece ∷ pieces) is all =
    let parts = and_parts (list_all (λ y. q y && not (p y)) piece) _ all in
    and_from _ _ (and_from _ _ is parts.0) parts.1

by_test : (b : Bool) (P : List (List ℕ) → Type 0) (xs ys : List (List ℕ)) → (b ≡ true → P xs) → (b ≡ false → P ys) → P (cond b xs ys)
by_test true P xs ys passes fails = passes refl
by_test false P xs ys passes fails = fails refl

pub pieces : (p q : ℕ → Bool) (xs : List ℕ) → list_all q xs ≡ true → list_all (list_all (λ x. q x && not (p x))) (slice_split p xs) ≡ true
pieces p q [] all = refl
pieces p q (x ∷ xs) all =
    let parts = and_parts (q x) (list_all q xs) all in
    let rest = pieces p q xs parts.1 in
    by_test (p x) (λ split. list_all (list_all (λ y. q y && not (p y))) split ≡ true) ([] ∷ slice_split p xs) (onto_first x (slice_split p xs))
    (λ _. rest)
    (λ other. split_head p q x (slice_split p xs) (and_from (q x) (not (p x)) parts.0 (ap not other)) rest)

lists_weaker : (p q : List ℕ → Bool) → ((x : List ℕ) → p x ≡ true → q x ≡ true) → (xs : List (List ℕ)) → list_all p xs ≡ true → list_all q xs ≡ true
lists_weaker p q weaker [] all = refl
lists_weaker p q weaker (x ∷ xs) all =
    let parts = and_parts (p x) (list_all p xs) all in
    and_from (q x) (list_all q xs) (weaker x parts.0) (lists_weaker p q weaker xs parts.1)

abbrev pub is_in_line : ℕ → Bool
is_in_line byte = not (eqb byte 10)

pub lines_are_lines : (text : List ℕ) → list_all (list_all is_in_line) (lines_of text) ≡ true
lines_are_lines text =
    lists_weaker (list_all (λ byte. true && not (eqb byte 10))) (list_all is_in_line) (λ line all. all) (lines_of text)
    (pieces (λ byte. eqb byte 10) (λ byte. true) text (every text))
  where
    every : (xs : List ℕ) → list_all (λ byte. true) xs ≡ true
    every [] = refl
    every (x ∷ xs) = every xs

word_byte : (byte : ℕ) → (is_in_line byte && not (eqb byte 32)) ≡ true → is_word_byte byte ≡ true
word_byte byte is = let parts = and_parts (is_in_line byte) _ is in and_from (not (eqb byte 32)) (not (eqb byte 10)) parts.1 parts.0

words_kept : (xs : List (List ℕ)) → list_all (list_all is_word_byte) xs ≡ true → list_all is_word (filter (λ word. not (eqb (length word) 0)) xs) ≡ true
words_kept [] all = refl
words_kept (x ∷ xs) all =
    let parts = and_parts (list_all is_word_byte x) _ all in
    by_test (not (eqb (length x) 0)) (λ words. list_all is_word words ≡ true) _ _
    (λ some. and_from (is_word x) _ (and_from (not (eqb (length x) 0)) _ some parts.0) (words_kept xs parts.1))
    (λ _. words_kept xs parts.1)

pub words_are_words : (line : List ℕ) → list_all is_in_line line ≡ true → list_all is_word (words_of line) ≡ true
words_are_words line all =
    words_kept (slice_split (λ byte. eqb byte 32) line)
    (lists_weaker (list_all (λ byte. is_in_line byte && not (eqb byte 32))) (list_all is_word_byte) (all_weaker _ is_word_byte word_byte)
    (slice_split (λ byte. eqb byte 32) line) (pieces (λ byte. eqb byte 32) is_in_line line all))
