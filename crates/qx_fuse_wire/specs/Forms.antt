-- Bodies of requests, each described once: its fields in their order, how they are read, and how they are spelled.
use Rattle.std.specs.Prelude.{◌≡◌, ℕ, zero, suc, ◌+◌, ◌*◌, ◌<◌, ◌^◌, Bool, ◌&&◌, ◌==◌, not, nat_lt, if◌then◌else◌, List, [], ◌∷◌, ◌++◌, length, take, drop, Option, Some, None, IsTrue, position}
use Rattle.std.specs.Int.{Width, w16, w32, w64, byte_len, from_le_bytes, to_le_bytes}
use Rattle.std.specs.List.{list_all}
use Rattle.qx_types.specs.Optional.{◌>>=◌}
use Rattle.qx_wire.specs.Reading.{number_at}

pub data Size : Type 0 where
  two_bytes : Size
  four_bytes : Size
  eight_bytes : Size

abbrev pub width : Size → Width
width two_bytes = w16
width four_bytes = w32
width eight_bytes = w64

-- a number, its lowest byte first; a name in a directory, and any text, with a zero byte behind them
pub data Field : Type 0 where
  number : Size → Field
  a_name : Field
  a_text : Field

-- the end; all bytes that are left; so many bytes that say nothing, or a field, and what stands behind
infixr 10 ◌then◌
pub data Form : Type 0 where
  end : Form
  all : Form
  skip : ℕ → Form → Form
  ◌then◌ : Field → Form → Form

abbrev pub Value : Field → Type 0
Value (number size) = ℕ
Value a_name = List ℕ
Value a_text = List ℕ

-- what stands in a body of that form, the bytes that say nothing among it
abbrev pub Values : Form → Type 0
Values end = Unit {0}
Values all = List ℕ
Values (skip count form) = List ℕ × Values form
Values (field then form) = Value field × Values form

-- what makes an A of the values, if they agree
abbrev pub Maker : Form → Type 0 → Type 0
Maker end A = Option A
Maker all A = List ℕ → Option A
Maker (skip count form) A = Maker form A
Maker (field then form) A = Value field → Maker form A

abbrev pub made_of : {A : Type 0} (form : Form) → Maker form A → Values form → Option A
made_of end made values = made
made_of all made values = made values
made_of (skip count form) made values = made_of form made values.1
made_of (field then form) made values = made_of form (made values.0) values.1

-- ---- reading

-- the bytes before the first zero byte, if there are some, and those behind it
unfoldable pub text_at : List ℕ → Option (List ℕ × List ℕ)
text_at bytes = do
  at ← position (λ byte. byte == 0) bytes
  if at == 0 then None else Some (take at bytes, drop (at + 1) bytes)

-- no byte is '/'
abbrev pub has_no_slash : List ℕ → Bool
has_no_slash text = list_all (λ byte. not (byte == 47)) text

unfoldable pub name_at : List ℕ → Option (List ℕ × List ℕ)
name_at bytes = do
  found ← text_at bytes
  if has_no_slash found.0 then Some found else None

abbrev pub field_at : (field : Field) → List ℕ → Option (Value field × List ℕ)
field_at (number size) bytes = number_at (width size) bytes
field_at a_name bytes = name_at bytes
field_at a_text bytes = text_at bytes

-- what stands behind so many bytes
abbrev pub behind : ℕ → List ℕ → Option (List ℕ)
behind count bytes = if nat_lt (length bytes) count then None else Some (drop count bytes)

abbrev pub read : {A : Type 0} (form : Form) → Maker form A → List ℕ → Option A
read end made bytes = if length bytes == 0 then made else None
read all made bytes = made bytes
read (skip count form) made bytes = behind count bytes >>= λ rest. read form made rest
read (field then form) made bytes = field_at field bytes >>= λ found. read form (made found.0) found.1

-- ---- spelling

abbrev pub field_bytes : (field : Field) → Value field → List ℕ
field_bytes (number size) n = to_le_bytes (width size) n
field_bytes a_name bytes = bytes ++ 0 ∷ []
field_bytes a_text bytes = bytes ++ 0 ∷ []

abbrev pub spelled : (form : Form) → Values form → List ℕ
spelled end values = []
spelled all values = values
spelled (skip count form) values = values.0 ++ spelled form values.1
spelled (field then form) values = field_bytes field values.0 ++ spelled form values.1

-- a byte and more, none of them zero
abbrev pub is_text : List ℕ → Bool
is_text text = nat_lt 0 (length text) && list_all (λ byte. not (byte == 0)) text

-- a number that fits its width; a name without '/'
abbrev pub Fits : (field : Field) → Value field → Type 0
Fits (number size) n = n < 2 ^ (8 * byte_len (width size))
Fits a_name bytes = IsTrue (is_text bytes && has_no_slash bytes)
Fits a_text bytes = IsTrue (is_text bytes)

abbrev pub CanBe : (form : Form) → Values form → Type 0
CanBe end values = Unit {0}
CanBe all values = Unit {0}
CanBe (skip count form) values = (length values.0 ≡ count) × CanBe form values.1
CanBe (field then form) values = Fits field values.0 × CanBe form values.1

-- ---- nodes that are forgotten

-- so many pairs of numbers of 64 bits
abbrev pub pairs : ℕ → List ℕ → List (ℕ × ℕ)
pairs zero bytes = []
pairs (suc count) bytes = (from_le_bytes w64 (take 8 bytes), from_le_bytes w64 (take 8 (drop 8 bytes))) ∷ pairs count (drop 8 (drop 8 bytes))
