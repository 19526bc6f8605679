-- What is said by a line is read back, and what is read from a line can be said by it: once for all lines.
use Rattle.std.proofs.Common.{◌≡◌, ℕ, Bool, true, false, cond, List, [], ◌∷◌, Option, Some, None, refl, subst}
use Rattle.std.specs.List.{list_all}
use Rattle.std.specs.Str.{bytes_eq}
use Rattle.std.proofs.lemmas.Bool.{and_parts, and_from}
use Rattle.qx_types.specs.Configuration.{Configuration, IsConfiguration}
use Rattle.qx_calls.specs.Forms.{CanBeSaid, CanBeWords, Form, Line, Maker, Saying, Values, at_most, end, line_text, read_form, read_one_of, read_words, words_for, words_said, ◌then◌}
use Rattle.qx_calls.specs.inner.Forms.{made_of}
use Rattle.qx_words.specs.Kinds.{is_word, value_of, value_text}
use Rattle.qx_words.specs.Words.{words_of}
use Rattle.qx_words.proofs.PlainWords.{words_again}
use Rattle.qx_words.proofs.ReadKinds.{value_again, value_is_word, value_within}
use Rattle.qx_words.proofs.ReadValues.{bind_some, mapped, of_some}

-- words after the first

form_again : {A : Type 0} (form : Form) (made : Maker form A) (config : Configuration) (values : Values form) → IsConfiguration config.users config.workers
    → CanBeWords form config.users values → read_words form made config.users (words_for form config values) ≡ Some (made_of form made values)
form_again end made config values valid can = refl
form_again (kind then form) made config values valid can =
    rw (value_again kind config values.0 valid can.0) (form_again form (made values.0) config values.1 valid can.1)
form_again (at_most kind) made config None valid can = refl
form_again (at_most kind) made config (Some value) valid can = rw (value_again kind config value valid can) refl

are_words_for : (form : Form) (config : Configuration) (values : Values form) → IsConfiguration config.users config.workers → CanBeWords form config.users values
    → list_all is_word (words_for form config values) ≡ true
are_words_for end config values valid can = refl
are_words_for (kind then form) config values valid can =
    and_from (is_word (value_text kind config values.0)) _ (value_is_word kind config values.0 valid can.0) (are_words_for form config values.1 valid can.1)
are_words_for (at_most kind) config None valid can = refl
are_words_for (at_most kind) config (Some value) valid can = and_from (is_word (value_text kind config value)) true (value_is_word kind config value valid can) refl

words_within : {A : Type 0} (form : Form) (made : Maker form A) (users words : List (List ℕ)) (a : A) → list_all is_word words ≡ true
    → read_words form made users words ≡ Some a → (values : Values form) × CanBeWords form users values × (made_of form made values ≡ a)
words_within end made users [] a all is = (tt, tt, of_some made a is)
words_within end made users (word ∷ words) a all is = cc
words_within (kind then form) made users [] a all is = cc
words_within (kind then form) made users (word ∷ words) a all is =
    let words_are = and_parts (is_word word) (list_all is_word words) all in
    let value = bind_some (value_of kind users word) (λ value. read_words form (made value) users words) a is in
    let rest = words_within form (made value.0) users words a words_are.1 value.2 in
    ((value.0, rest.0), (value_within kind users word value.0 words_are.0 value.1, rest.1), rest.2)
words_within (at_most kind) made users [] a all is = (None, tt, of_some (made None) a is)
words_within (at_most kind) made users (word ∷ []) a all is =
    let value = mapped (λ value. made (Some value)) (value_of kind users word) a is in
    (Some value.0, value_within kind users word value.0 (and_parts (is_word word) true all).0 value.1, value.2)
words_within (at_most kind) made users (word ∷ other ∷ words) a all is = cc

-- lines

pub line_again : {A : Type 0} (line : Line A) (config : Configuration) (values : Values line.form) → IsConfiguration config.users config.workers
    → CanBeWords line.form config.users values → read_form line config.users (words_for line.form config values) ≡ Some (made_of line.form line.made values)
line_again line config values valid can = form_again line.form line.made config values valid can

pub line_within : {A : Type 0} (line : Line A) (users words : List (List ℕ)) (a : A) → list_all is_word words ≡ true
    → read_form line users words ≡ Some a → (values : Values line.form) × CanBeWords line.form users values × (made_of line.form line.made values ≡ a)
line_within line users words a all is = words_within line.form line.made users words a all is

pub are_words : (config : Configuration) (saying : Saying) → IsConfiguration config.users config.workers → is_word saying.name ≡ true → CanBeSaid config.users saying
    → list_all is_word (words_said config saying) ≡ true
are_words config saying valid name can = and_from (is_word saying.name) _ name (are_words_for saying.form config saying.values valid can)

pub text_in_words : (config : Configuration) (saying : Saying) → IsConfiguration config.users config.workers → is_word saying.name ≡ true → CanBeSaid config.users saying
    → words_of (line_text config saying) ≡ words_said config saying
text_in_words config saying valid name can = words_again (words_said config saying) (are_words config saying valid name can)

-- P holds of what a line makes of values that can be said
abbrev pub Makes : {A : Type 0} → List (List ℕ) → (A → Type 0) → List (Line A) → Type 0
Makes users P [] = Unit {0}
Makes users P (line ∷ lines) = ((values : Values line.form) → CanBeWords line.form users values → P (made_of line.form line.made values)) × Makes users P lines

-- by a test of the first word
pub by_name : {A : Type 0} (b : Bool) (x y : Option A) (found : A) (P : Type 0) → (x ≡ Some found → P) → (y ≡ Some found → P) → cond b x y ≡ Some found → P
by_name true x y found P first second is = first is
by_name false x y found P first second is = second is

pub one_of_within : {A : Type 0} (P : A → Type 0) (lines : List (Line A)) (else_read : Option A) (users : List (List ℕ)) (name : List ℕ) (words : List (List ℕ)) (a : A)
    → list_all is_word words ≡ true → Makes users P lines → (else_read ≡ Some a → P a) → read_one_of lines else_read users name words ≡ Some a → P a
one_of_within P [] else_read users name words a all makes others is = others is
one_of_within P (line ∷ lines) else_read users name words a all makes others is =
    by_name (bytes_eq name line.name) (read_form line users words) (read_one_of lines else_read users name words) a (P a)
    (λ found. let values = line_within line users words a all found in subst P values.2 (makes.0 values.0 values.1))
    (one_of_within P lines else_read users name words a all makes.1 others) is
