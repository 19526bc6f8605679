-- What is printed of users, processes, threads, numbers, flags and modes is a word, and is read back.
use Rattle.std.proofs.Common.{◌≡◌, ◌∙◌, ℕ, ◌+◌, ◌-◌, ◌<◌, ◌≤◌, ◌^◌, Bool, true, false, cond, eqb, leb, not, List, [], ◌∷◌, ◌++◌, Some, None, length, get_or, map, refl, ap, sym, arith, append_assoc, zero, suc}
use Rattle.std.specs.Prelude.{◌&&◌, ◌||◌, decimal, position}
use Rattle.std.specs.Char.{is_ascii_digit}
use Rattle.std.specs.List.{list_all, position_or_len, range_with_len}
use Rattle.std.specs.Str.{bytes_eq}
use Rattle.std.specs.Str.Parse.{digits_value}
use Rattle.std.proofs.Math.Seq.{take-append_seam, drop-append-add}
use Rattle.std.proofs.lemmas.Bool.Decides.{nat_tests}
use Rattle.std.proofs.lemmas.Fmt.{decimal_digit, decimal_nonempty, digits_decimal, digits_value-decimal, first_decimal}
use Rattle.std.proofs.lemmas.Grind.{common_steps}
use Rattle.std.proofs.lemmas.List.FromFn.{get_or-map-range_with_len}
use Rattle.std.proofs.lemmas.List.Sums.{position_or_len_is}
use Rattle.std.proofs.lemmas.Option.{slice_get-get_or}
use Rattle.std.proofs.lemmas.Slice.Eq.{bytes_eq-Decides}
use Rattle.std.proofs.lemmas.Bool.{and_parts, and_from}
use Rattle.qx_types.specs.Configuration.{Configuration, IsConfiguration, is_letter, is_letter_or_digit, is_user_name}
use Rattle.qx_types.specs.declared.flags.OFlags.{OFlags}
use Rattle.qx_types.specs.declared.limits.TheConstants.Limits.{MODE}
use Rattle.qx_types.specs.declared.names.Proc.{Proc}
use Rattle.qx_types.specs.declared.names.Thread.{Thread}
use Rattle.qx_types.specs.declared.names.User.{User}
use Rattle.qx_words.specs.Kinds.{is_word, is_word_byte, CanNameUser, CanNameProcess, CanNameThread}
use Rattle.qx_words.specs.WordText.{flags_text, mode_text, process_text, thread_text, user_text}
use Rattle.qx_words.specs.Words.{around_dot, byte_of, begins_well, flags_of, greatest_byte, is_numeral, mode_of, number_of, process_in_word, thread_in_word, user_in_word}
use Rattle.qx_words.proofs.Numbers.{own}
use Rattle.qx_words.proofs.PlainWords.{all_joined, all_weaker, digit_in_word, digit_is_no_dot, is_no_dot, name_byte_in_word, name_byte_is_no_dot}

-- numbers

pub digits : (n : ℕ) → n < 2 ^ 64 → list_all is_ascii_digit (decimal n) ≡ true
digits n small = digits_decimal own n small

some_begin : (word : List ℕ) → 0 < length word → 48 < get_or word 0 0 → begins_well word ≡ true
some_begin [] some first = absurd (omega arith)
some_begin (a ∷ []) some first = refl
some_begin (a ∷ b ∷ more) some first = grind (arith, nat_tests)

begins : (n : ℕ) → n < 2 ^ 64 → begins_well (decimal n) ≡ true
begins zero small = ap begins_well (decimal_digit 0 (omega arith))
begins (suc n) small = some_begin (decimal (suc n)) (decimal_nonempty (suc n) small) (first_decimal (suc n) (omega arith) small)

pub chosen : {A : Type 0} (b : Bool) (x y : A) → b ≡ true → cond b x y ≡ x
chosen true x y is = refl
chosen false x y is = cc

pub number_again : (greatest n : ℕ) → n ≤ greatest → greatest < 2 ^ 64 → number_of greatest (decimal n) ≡ Some n
unfolding number_of
number_again greatest n within fits =
    let small : n < 2 ^ 64 = omega arith in
    let value : digits_value 10 (decimal n) ≡ n = digits_value-decimal own n small in
    let below : leb (digits_value 10 (decimal n)) greatest ≡ true = rw value (grind (arith, nat_tests)) in
    chosen (is_numeral (decimal n) && leb (digits_value 10 (decimal n)) greatest) (Some (digits_value 10 (decimal n))) None
    (and_from (is_numeral (decimal n)) _ (and_from (list_all is_ascii_digit (decimal n)) _ (digits n small) (begins n small)) below)
    ∙ ap Some value

pub some_length : (n : ℕ) → 0 < n → not (eqb n 0) ≡ true
some_length n some = grind (arith, nat_tests)

pub number_is_word : (n : ℕ) → n < 2 ^ 64 → is_word (decimal n) ≡ true
number_is_word n small =
    and_from (not (eqb (length (decimal n)) 0)) _ (some_length _ (decimal_nonempty n small))
    (all_weaker is_ascii_digit is_word_byte digit_in_word (decimal n) (digits n small))

-- users

pub is_false : (b : Bool) → (b ≡ true → ⊥) → b ≡ false
is_false true refuted = absurd (refuted refl)
is_false false refuted = refl

named : (users : List (List ℕ)) (k : ℕ) → k < length users → (config : Configuration) → config.users ≡ users → user_text config (suc k) ≡ get_or users k []
unfolding user_text
named users k within config same = rw (same, slice_get-get_or users k [] within) refl

first_place : (users : List (List ℕ)) (workers k : ℕ) → IsConfiguration users workers → k < length users
    → position_or_len (λ name. bytes_eq name (get_or users k [])) users ≡ k
first_place users workers k valid within =
    position_or_len_is (λ name. bytes_eq name (get_or users k [])) users k [] (omega arith)
    (λ i before. is_false _ (λ same. valid.different_names i k [] before within ((bytes_eq-Decides (get_or users i []) (get_or users k [])).0 same)))
    (λ _. (bytes_eq-Decides (get_or users k []) (get_or users k [])).1 refl)

found : {A : Type 0} (test : A → Bool) (xs : List A) (k : ℕ) → position_or_len test xs ≡ k → k < length xs → position test xs ≡ Some k
found test xs k is within = grind (arith, nat_tests, is)

numbered : ℕ → User
numbered n = record { 0 = n }

user_numbered : (config : Configuration) (n : ℕ) → IsConfiguration config.users config.workers → 1 ≤ n → n ≤ length config.users
    → user_in_word config.users (user_text config n) ≡ Some (numbered n)
unfolding user_in_word numbered
user_numbered config zero valid some few = absurd (omega arith)
user_numbered config (suc k) valid some few =
    let within : k < length config.users = omega arith in
    let name = get_or config.users k [] in
    let place : position (λ other. bytes_eq other name) config.users ≡ Some k =
    found (λ other. bytes_eq other name) config.users k (first_place config.users config.workers k valid within) within in
    let same : k + 1 ≡ suc k = omega arith in
    rw (named config.users k within config refl, place) (ap (λ (n : ℕ). Some (numbered n)) same)

pub user_again : (config : Configuration) (user : User) → IsConfiguration config.users config.workers → CanNameUser config.users user
    → user_in_word config.users (user_text config user.0) ≡ Some user
unfolding numbered
user_again config user valid can = user_numbered config user.0 valid can.0 can.1

or_true : (a b : Bool) → a ≡ true → (a || b) ≡ true
or_true true b is = refl
or_true false b is = cc

name_bytes : (name : List ℕ) → is_user_name name ≡ true → (0 < length name) × (list_all is_letter_or_digit name ≡ true)
name_bytes [] good = cc
name_bytes (first ∷ rest) good =
    let parts = and_parts (is_letter first && list_all is_letter_or_digit rest) _ good in
    let letters = and_parts (is_letter first) (list_all is_letter_or_digit rest) parts.0 in
    (omega arith, and_from (is_letter_or_digit first) _ (or_true (is_letter first) _ letters.0) letters.1)

pub name_is_word : (name : List ℕ) → is_user_name name ≡ true → is_word name ≡ true
name_is_word name good =
    and_from (not (eqb (length name) 0)) _ (some_length _ (name_bytes name good).0)
    (all_weaker is_letter_or_digit is_word_byte name_byte_in_word name (name_bytes name good).1)

name_has_no_dot : (name : List ℕ) → is_user_name name ≡ true → list_all is_no_dot name ≡ true
name_has_no_dot name good = all_weaker is_letter_or_digit is_no_dot name_byte_is_no_dot name (name_bytes name good).1

-- what holds of each name of the configuration holds of the text of a user
user_text_by_name : (P : List ℕ → Bool) → ((name : List ℕ) → is_user_name name ≡ true → P name ≡ true)
    → (config : Configuration) (n : ℕ) → IsConfiguration config.users config.workers → 1 ≤ n → n ≤ length config.users
    → P (user_text config n) ≡ true
user_text_by_name P holds config zero valid some few = absurd (omega arith)
user_text_by_name P holds config (suc k) valid some few =
    let within : k < length config.users = omega arith in
    ap P (named config.users k within config refl) ∙ holds (get_or config.users k []) (valid.good_names k [] within)

pub user_is_word : (config : Configuration) (user : User) → IsConfiguration config.users config.workers → CanNameUser config.users user
    → is_word (user_text config user.0) ≡ true
user_is_word config user valid can = user_text_by_name is_word name_is_word config user.0 valid can.0 can.1

user_has_no_dot : (config : Configuration) (user : User) → IsConfiguration config.users config.workers → CanNameUser config.users user
    → list_all is_no_dot (user_text config user.0) ≡ true
user_has_no_dot config user valid can = user_text_by_name (list_all is_no_dot) name_has_no_dot config user.0 valid can.0 can.1

-- processes and threads

before_dot : (before after : List ℕ) → list_all is_no_dot before ≡ true → position_or_len (λ byte. eqb byte 46) (before ++ 46 ∷ after) ≡ length before
before_dot [] after plain = refl
before_dot (byte ∷ before) after plain =
    let parts = and_parts (is_no_dot byte) (list_all is_no_dot before) plain in
    chosen (is_no_dot byte) _ _ parts.0 ∙ ap (λ n. 1 + n) (before_dot before after parts.1) ∙ omega arith

pub around_again : (before after : List ℕ) → list_all is_no_dot before ≡ true → around_dot (before ++ 46 ∷ after) ≡ Some (before, after)
unfolding around_dot
around_again before after plain =
    let whole = before ++ 46 ∷ after in
    let longer : length before < length whole = grind (arith, common_steps) in
    rw (found (λ byte. eqb byte 46) whole (length before) (before_dot before after plain) longer)
    (rw (take-append_seam before (46 ∷ after), drop-append-add before (46 ∷ after) 1) refl)

dotted_text : (config : Configuration) (thread : Thread)
    → thread_text config thread ≡ user_text config thread.proc.user.0 ++ 46 ∷ (decimal thread.proc.num ++ 46 ∷ decimal thread.tid)
unfolding thread_text process_text
dotted_text config thread = simp append_assoc

number_has_no_dot : (n : ℕ) → n < 2 ^ 64 → list_all is_no_dot (decimal n) ≡ true
number_has_no_dot n small = all_weaker is_ascii_digit is_no_dot digit_is_no_dot (decimal n) (digits n small)

pub byte_again : (n : ℕ) → n ≤ greatest_byte → byte_of (decimal n) ≡ Some n
byte_again n few = number_again greatest_byte n few (omega arith)

dotted_process : (config : Configuration) (process : Proc) → process_text config process ≡ user_text config process.user.0 ++ 46 ∷ decimal process.num
unfolding process_text
dotted_process config process = simp append_assoc

pub process_again : (config : Configuration) (process : Proc) → IsConfiguration config.users config.workers → CanNameProcess config.users process
    → process_in_word config.users (process_text config process) ≡ Some process
unfolding process_in_word
process_again config process valid can =
    let plain = user_has_no_dot config process.user valid can.0 in
    rw (dotted_process config process, around_again (user_text config process.user.0) (decimal process.num) plain)
    (rw (user_again config process.user valid can.0, byte_again process.num can.1) refl)

pub thread_again : (config : Configuration) (thread : Thread) → IsConfiguration config.users config.workers → CanNameThread config.users thread
    → thread_in_word config.users (thread_text config thread) ≡ Some thread
unfolding thread_in_word
thread_again config thread valid can =
    let numbers = decimal thread.proc.num ++ 46 ∷ decimal thread.tid in
    let plain = user_has_no_dot config thread.proc.user valid can.0 in
    rw (dotted_text config thread, around_again (user_text config thread.proc.user.0) numbers plain)
    (rw (user_again config thread.proc.user valid can.0, around_again (decimal thread.proc.num) (decimal thread.tid) (number_has_no_dot thread.proc.num (omega arith)))
    (rw (byte_again thread.proc.num can.1, byte_again thread.tid can.2) refl))

dotted : (first second : List ℕ) → is_word first ≡ true → list_all is_word_byte second ≡ true → is_word (first ++ 46 ∷ second) ≡ true
dotted first second is plain =
    let parts = and_parts (not (eqb (length first) 0)) (list_all is_word_byte first) is in
    let longer : 0 < length (first ++ 46 ∷ second) = grind (arith, common_steps) in
    and_from (not (eqb (length (first ++ 46 ∷ second)) 0)) _ (some_length _ longer) (all_joined is_word_byte first (46 ∷ second) parts.1 plain)

pub number_in_word : (n : ℕ) → n < 2 ^ 64 → list_all is_word_byte (decimal n) ≡ true
number_in_word n small = all_weaker is_ascii_digit is_word_byte digit_in_word (decimal n) (digits n small)

pub process_is_word : (config : Configuration) (process : Proc) → IsConfiguration config.users config.workers → CanNameProcess config.users process
    → is_word (process_text config process) ≡ true
process_is_word config process valid can =
    ap is_word (dotted_process config process)
    ∙ dotted (user_text config process.user.0) (decimal process.num) (user_is_word config process.user valid can.0) (number_in_word process.num (omega arith))

pub thread_is_word : (config : Configuration) (thread : Thread) → IsConfiguration config.users config.workers → CanNameThread config.users thread
    → is_word (thread_text config thread) ≡ true
thread_is_word config thread valid can =
    let plain = user_has_no_dot config thread.proc.user valid can.0 in
    ap is_word (dotted_text config thread)
    ∙ dotted (user_text config thread.proc.user.0) (decimal thread.proc.num ++ 46 ∷ decimal thread.tid) (user_is_word config thread.proc.user valid can.0)
    (all_joined is_word_byte (decimal thread.proc.num) (46 ∷ decimal thread.tid) (number_in_word thread.proc.num (omega arith)) (number_in_word thread.tid (omega arith)))

-- flags and modes

-- two functions that have equal tables are equal at each place of the tables
tabled : {X : Type 0} (f g : ℕ → X) (first count n : ℕ) (d : X) → map f (range_with_len first count) ≡ map g (range_with_len first count)
    → first ≤ n → n < first + count → f n ≡ g n
tabled f g first count n d same low high =
    sym (get_or-map-range_with_len f first count (n - first) n d (omega arith) (omega arith))
    ∙ ap (λ xs. get_or xs (n - first) d) same
    ∙ get_or-map-range_with_len g first count (n - first) n d (omega arith) (omega arith)

given : ℕ → OFlags
given n = record { 0 = n }

flags_table : map (λ n. flags_of (flags_text (given n))) (range_with_len 1 127) ≡ map (λ n. Some (given n)) (range_with_len 1 127)
unfolding flags_of flags_text given
flags_table = refl

pub flags_again : (flags : OFlags) → 1 ≤ flags.0 → flags.0 ≤ 127 → flags_of (flags_text flags) ≡ Some flags
unfolding given
flags_again flags some few = tabled (λ n. flags_of (flags_text (given n))) (λ n. Some (given n)) 1 127 flags.0 None flags_table some (omega arith)

flags_word_table : map (λ n. is_word (flags_text (given n))) (range_with_len 1 127) ≡ map (λ n. true) (range_with_len 1 127)
unfolding flags_text given
flags_word_table = refl

pub flags_are_word : (flags : OFlags) → 1 ≤ flags.0 → flags.0 ≤ 127 → is_word (flags_text flags) ≡ true
unfolding given
flags_are_word flags some few = tabled (λ n. is_word (flags_text (given n))) (λ n. true) 1 127 flags.0 true flags_word_table some (omega arith)

mode_table : map (λ n. mode_of (mode_text n)) (range_with_len 0 512) ≡ map Some (range_with_len 0 512)
unfolding mode_of mode_text
mode_table = refl

pub mode_again : (mode : ℕ) → mode ≤ MODE → mode_of (mode_text mode) ≡ Some mode
mode_again mode few = tabled (λ n. mode_of (mode_text n)) Some 0 512 mode None mode_table (omega arith) (omega arith)

mode_word_table : map (λ n. is_word (mode_text n)) (range_with_len 0 512) ≡ map (λ n. true) (range_with_len 0 512)
unfolding mode_text
mode_word_table = refl

pub mode_is_word : (mode : ℕ) → mode ≤ MODE → is_word (mode_text mode) ≡ true
mode_is_word mode few = tabled (λ n. is_word (mode_text n)) (λ n. true) 0 512 mode true mode_word_table (omega arith) (omega arith)
