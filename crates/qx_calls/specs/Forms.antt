-- Lines of words, each described once: how it is read, how it is printed, and what it can say.
use Rattle.std.specs.Prelude.{ℕ, List, [], ◌∷◌, Option, Some, None, if◌then◌else◌, option_map}
use Rattle.std.specs.List.{join_with_byte}
use Rattle.std.specs.Str.{bytes_eq}
use Rattle.qx_types.specs.Configuration.{Configuration}
use Rattle.qx_types.specs.Optional.{◌>>=◌}
use Rattle.qx_words.specs.Kinds.{CanName, Kind, Value, value_of, value_text}

-- the words after a line's first; the last of them may be one that can be left out
infixr 10 ◌then◌
pub data Form : Type 0 where
  end : Form
  ◌then◌ : Kind → Form → Form
  at_most : Kind → Form

abbrev pub Values : Form → Type 0
Values end = Unit {0}
Values (kind then form) = Value kind × Values form
Values (at_most kind) = Option (Value kind)

-- what makes an A of the values
abbrev pub Maker : Form → Type 0 → Type 0
Maker end A = A
Maker (kind then form) A = Value kind → Maker form A
Maker (at_most kind) A = Option (Value kind) → A

abbrev pub read_words : {A : Type 0} (form : Form) → Maker form A → List (List ℕ) → List (List ℕ) → Option A
read_words end made users [] = Some made
read_words end made users (word ∷ words) = None
read_words (kind then form) made users [] = None
read_words (kind then form) made users (word ∷ words) = value_of kind users word >>= λ value. read_words form (made value) users words
read_words (at_most kind) made users [] = Some (made None)
read_words (at_most kind) made users (word ∷ []) = option_map (λ value. made (Some value)) (value_of kind users word)
read_words (at_most kind) made users (word ∷ other ∷ words) = None

abbrev pub words_for : (form : Form) → Configuration → Values form → List (List ℕ)
words_for end config values = []
words_for (kind then form) config values = value_text kind config values.0 ∷ words_for form config values.1
words_for (at_most kind) config None = []
words_for (at_most kind) config (Some value) = value_text kind config value ∷ []

abbrev pub CanBeWords : (form : Form) → List (List ℕ) → Values form → Type 0
CanBeWords end users values = Unit {0}
CanBeWords (kind then form) users values = CanName kind users values.0 × CanBeWords form users values.1
CanBeWords (at_most kind) users None = Unit {0}
CanBeWords (at_most kind) users (Some value) = CanName kind users value

-- what makes a B of the values, by way of what makes an A of them
abbrev pub made_into : {A B : Type 0} (form : Form) → (A → B) → Maker form A → Maker form B
made_into end next made = next made
made_into (kind then form) next made = λ value. made_into form next (made value)
made_into (at_most kind) next made = λ value. next (made value)

-- a line: its first word, the words after it, and what they make
pub record Line (A : Type 0) : Type 0 where
  pub name : List ℕ
  pub form : Form
  pub made : Maker form A

-- what the words after the first make, where the users have these names
abbrev pub read_form : {A : Type 0} → Line A → List (List ℕ) → List (List ℕ) → Option A
read_form line users words = read_words line.form line.made users words

-- by the first word, which is that of one of the lines or stands for something else
abbrev pub read_one_of : {A : Type 0} → List (Line A) → Option A → List (List ℕ) → List ℕ → List (List ℕ) → Option A
read_one_of [] else_read users name words = else_read
read_one_of (line ∷ lines) else_read users name words =
    if bytes_eq name line.name then read_form line users words else read_one_of lines else_read users name words

-- what is said by a line
pub record Saying : Type 0 where
  pub name : List ℕ
  pub form : Form
  pub values : Values form

abbrev pub by : {A : Type 0} (line : Line A) → Values line.form → Saying
by line values = record { name = line.name; form = line.form; values = values }

abbrev pub words_said : Configuration → Saying → List (List ℕ)
words_said config saying = saying.name ∷ words_for saying.form config saying.values

-- the words, parted by one space
abbrev pub line_text : Configuration → Saying → List ℕ
line_text config saying = join_with_byte 32 (words_said config saying)

abbrev pub CanBeSaid : List (List ℕ) → Saying → Type 0
CanBeSaid users saying = CanBeWords saying.form users saying.values
