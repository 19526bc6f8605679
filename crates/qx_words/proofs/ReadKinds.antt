-- For each kind of words: what is printed of a value is a word that is read back, and what is read from a word can be printed.
use Rattle.std.proofs.Common.{◌≡◌, ℕ, ◌<◌, ◌≤◌, ◌^◌, true, List, Some, None, refl, arith, subst}
use Rattle.std.specs.Prelude.{nat_le}
use Rattle.std.proofs.lemmas.Bool.Decides.{nat_tests}
use Rattle.std.proofs.lemmas.Option.{cond_some}
use Rattle.qx_types.specs.Configuration.{Configuration, IsConfiguration, is_user_name}
use Rattle.qx_words.specs.Kinds.{AName, AUser, AProcess, AThread, ANumber, AnOffset, APath, SomeFlags, AMode, SomeBytes, AHexByte, AManager, AWhence, AnAction, ALimit, SomeConditions, CanName, Kind, Value, is_word, value_of, value_text}
use Rattle.qx_words.specs.Words.{greatest_moment, name_in_word}
use Rattle.qx_words.proofs.ReadBytes.{bytes_again, bytes_are_word, bytes_within, hex_byte_again, hex_byte_is_word, hex_byte_within}
use Rattle.qx_words.proofs.ReadFixedWords.{action_word, conditions_within, conditions_word, limit_word, manager_word, whence_word}
use Rattle.qx_words.proofs.ReadOffsets.{offset_again, offset_is_word, offset_within}
use Rattle.qx_words.proofs.ReadValues.{flags_within, mode_within, number_within, of_some, process_within, thread_within, user_within}
use Rattle.qx_words.proofs.ReadWords.{chosen, flags_again, flags_are_word, mode_again, mode_is_word, name_is_word, number_again, number_is_word, process_again, process_is_word, thread_again, thread_is_word, user_again, user_is_word}

in_64_bits : (n greatest : ℕ) → n ≤ greatest → nat_le greatest greatest_moment ≡ true → n < 2 ^ 64
in_64_bits n greatest few fits = grind (arith, nat_tests)

name_again : (name : List ℕ) → is_user_name name ≡ true → name_in_word name ≡ Some name
name_again name good = chosen (is_user_name name) (Some name) None good

name_within : (word name : List ℕ) → name_in_word word ≡ Some name → is_user_name name ≡ true
name_within word name is =
    let parts = cond_some (is_user_name word) word name is in
    subst (λ (n : List ℕ). is_user_name n ≡ true) parts.1 parts.0

pub value_again : (kind : Kind) (config : Configuration) (value : Value kind) → IsConfiguration config.users config.workers → CanName kind config.users value
    → value_of kind config.users (value_text kind config value) ≡ Some value
value_again AName config value valid can = name_again value can
value_again AUser config value valid can = user_again config value valid can
value_again AProcess config value valid can = process_again config value valid can
value_again AThread config value valid can = thread_again config value valid can
value_again (ANumber greatest fits) config value valid can = number_again greatest value can (in_64_bits greatest greatest (omega arith) fits)
value_again AnOffset config value valid can = offset_again value can
value_again APath config value valid can = refl
value_again SomeFlags config value valid can = flags_again value can.0 can.1
value_again AMode config value valid can = mode_again value can
value_again SomeBytes config value valid can = bytes_again value can
value_again AHexByte config value valid can = hex_byte_again value can
value_again AManager config value valid can = (manager_word value).1
value_again AWhence config value valid can = (whence_word value).1
value_again AnAction config value valid can = (action_word value).1
value_again ALimit config value valid can = (limit_word value).1
value_again SomeConditions config value valid can = (conditions_word value can.0 can.1).1

pub value_is_word : (kind : Kind) (config : Configuration) (value : Value kind) → IsConfiguration config.users config.workers → CanName kind config.users value
    → is_word (value_text kind config value) ≡ true
value_is_word AName config value valid can = name_is_word value can
value_is_word AUser config value valid can = user_is_word config value valid can
value_is_word AProcess config value valid can = process_is_word config value valid can
value_is_word AThread config value valid can = thread_is_word config value valid can
value_is_word (ANumber greatest fits) config value valid can = number_is_word value (in_64_bits value greatest can fits)
value_is_word AnOffset config value valid can = offset_is_word value can
value_is_word APath config value valid can = can
value_is_word SomeFlags config value valid can = flags_are_word value can.0 can.1
value_is_word AMode config value valid can = mode_is_word value can
value_is_word SomeBytes config value valid can = bytes_are_word value can
value_is_word AHexByte config value valid can = hex_byte_is_word value can
value_is_word AManager config value valid can = (manager_word value).0
value_is_word AWhence config value valid can = (whence_word value).0
value_is_word AnAction config value valid can = (action_word value).0
value_is_word ALimit config value valid can = (limit_word value).0
value_is_word SomeConditions config value valid can = (conditions_word value can.0 can.1).0

pub value_within : (kind : Kind) (users : List (List ℕ)) (word : List ℕ) (value : Value kind) → is_word word ≡ true → value_of kind users word ≡ Some value
    → CanName kind users value
value_within AName users word value is got = name_within word value got
value_within AUser users word value is got = user_within users word value got
value_within AProcess users word value is got = process_within users word value got
value_within AThread users word value is got = thread_within users word value got
value_within (ANumber greatest fits) users word value is got = number_within greatest word value got
value_within AnOffset users word value is got = offset_within word value got
value_within APath users word value is got = subst (λ (path : List ℕ). is_word path ≡ true) (of_some word value got) is
value_within SomeFlags users word value is got = flags_within word value got
value_within AMode users word value is got = mode_within word value got
value_within SomeBytes users word value is got = bytes_within word value got
value_within AHexByte users word value is got = hex_byte_within word value got
value_within AManager users word value is got = tt
value_within AWhence users word value is got = tt
value_within AnAction users word value is got = tt
value_within ALimit users word value is got = tt
value_within SomeConditions users word value is got = conditions_within word value got
