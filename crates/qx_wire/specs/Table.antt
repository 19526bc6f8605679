-- The table of messages: which bytes spell which message (the kinds are those of Writing a Resource Manager, as
-- docs/FORMATS.md tells one by one; numbers and layout are this profile).
use Rattle.std.specs.Prelude.{◌≡◌, ℕ, ◌%◌, ◌<◌, ◌≤◌, ◌^◌, ℤ, pos, negsuc, Bool, ◌&&◌, ◌||◌, ◌==◌, nat_le, nat_lt, IsTrue, List, [], ◌∷◌, ◌++◌, length}
use Rattle.std.specs.Int.{Width, w8, w16, w32, w64, to_le_bytes, cast_unsigned}
use Rattle.std.specs.List.{list_all, flat_map}
use Rattle.qx_types.specs.declared.fields.NotifyAction.{NotifyAction}
use Rattle.qx_types.specs.declared.fields.NotifyAction.TheVariants as action
use Rattle.qx_types.specs.declared.fields.PulseValue.{PulseValue}
use Rattle.qx_types.specs.declared.fields.PulseValue.TheVariants.{Bits32, Bits64}
use Rattle.qx_types.specs.declared.fields.Whence.{Whence}
use Rattle.qx_types.specs.declared.fields.Whence.TheVariants as whence
use Rattle.qx_types.specs.declared.limits.TheConstants.Limits.{BODY, FIRST_CONNECTION, LAST_CONNECTION, MODE, PATH, PULSE_CODE, PULSE_VALUE, PULSE_VALUE_64, TRANSFER}
use Rattle.qx_wire.specs.declared.message.Message.{Message}
use Rattle.qx_wire.specs.declared.message.Message.TheVariants as msg
use Rattle.qx_wire.specs.Rests.{joined, is_component, is_rest}

-- ---- fields

-- a field of a body: its bytes, and whether its value is in its range
pub record Field : Type 0 where
  pub bytes : List ℕ
  pub good : Bool

-- a number, its lowest byte first
abbrev pub number : Width → (ℕ → Bool) → ℕ → Field
number width range n = record { bytes = to_le_bytes width n; good = range n }

-- some of the seven flags, READ (1) or WRITE (2) among them
abbrev pub flags : ℕ → Field
flags n = number w16 (λ n. nat_lt n 128 && nat_lt 0 (n % 4)) n

-- permission bits
abbrev pub mode : ℕ → Field
mode n = number w16 (λ n. nat_le n MODE) n

-- the kind of what is made: 2, a directory
abbrev pub directory : Field
directory = number w16 (λ n. n == 2) 2

-- how many bytes are wanted
abbrev pub count : ℕ → Field
count n = number w32 (λ n. nat_le n TRANSFER) n

abbrev pub connection_field : ℕ → Field
connection_field n = number w16 (λ n. nat_le FIRST_CONNECTION n && nat_le n LAST_CONNECTION) n

-- 64 bits with a sign
abbrev pub is_i64 : ℤ → Bool
is_i64 (pos n) = nat_lt n (2 ^ 63)
is_i64 (negsuc n) = nat_lt n (2 ^ 63)

-- in two's complement
abbrev pub offset : ℤ → Field
offset z = record { bytes = to_le_bytes w64 (cast_unsigned w64 z); good = is_i64 z }

-- INPUT (1), OUTPUT (2) or both
abbrev pub conditions_field : ℕ → Field
conditions_field n = number w8 (λ n. nat_le 1 n && nat_le n 3) n

abbrev pub pulse_code : ℕ → Field
pulse_code n = number w8 (λ n. nat_le n PULSE_CODE) n

-- of either width
abbrev pub pulse_value : PulseValue → Field
pulse_value (Bits32 n) = number w32 (λ n. nat_le n PULSE_VALUE) n
pulse_value (Bits64 n) = number w64 (λ n. nat_le n PULSE_VALUE_64) n

-- what a path has behind its mount
abbrev pub rest : List (List ℕ) → Field
rest components = record { bytes = joined components; good = is_rest components }

-- how many bytes the rest behind it has, where another one follows that
abbrev pub rest_length : List (List ℕ) → Field
rest_length components = number w16 (λ n. nat_le n PATH) (length (joined components))

-- one component, or nothing
abbrev pub name : List ℕ → Field
name bytes = record { bytes = bytes; good = length bytes == 0 || is_component bytes }

-- what is written
abbrev pub payload : List ℕ → Field
payload bytes = record { bytes = bytes; good = nat_le (length bytes) TRANSFER }

-- ---- the table

-- a line of the table, filled in
pub record TableLine : Type 0 where
  pub type : ℕ
  pub subtype : ℕ
  pub fields : List Field

abbrev pub line : ℕ → ℕ → List Field → TableLine
line type subtype fields = record { type = type; subtype = subtype; fields = fields }

abbrev pub whence_number : Whence → ℕ
whence_number whence.Set = 0
whence_number whence.Current = 1
whence_number whence.End = 2

abbrev pub action_number : NotifyAction → ℕ
action_number action.Poll = 0
action_number action.PollArm = 1
action_number action.TranArm = 2

-- the type of a notification, by the width of its value
abbrev pub notify_type : PulseValue → ℕ
notify_type (Bits32 n) = 265
notify_type (Bits64 n) = 266

-- type, subtype and fields of each message
abbrev pub row : Message → TableLine
row (msg.Open f m r) = line 256 1 (flags f.0 ∷ mode m ∷ rest r ∷ [])
row (msg.Stat r) = line 256 2 (rest r ∷ [])
row (msg.Unlink r) = line 256 3 (rest r ∷ [])
row (msg.Mknod m r) = line 256 4 (directory ∷ mode m ∷ rest r ∷ [])
row (msg.Rename rests) = line 256 5 (rest_length rests.0 ∷ rest rests.0 ∷ rest rests.1 ∷ [])
row (msg.Read n) = line 257 0 (count n ∷ [])
row (msg.Write bytes) = line 258 0 (payload bytes ∷ [])
row msg.Close = line 259 0 []
row (msg.Dup old) = line 260 0 (connection_field old.0 ∷ [])
row (msg.Lseek from by) = line 261 (whence_number from) (offset by ∷ [])
row msg.Fstat = line 262 0 []
row (msg.List after) = line 263 0 (name after ∷ [])
row (msg.Chmod m) = line 264 0 (mode m ∷ [])
row (msg.Notify act c code value) = line (notify_type value) (action_number act) (conditions_field c.0 ∷ pulse_code code ∷ pulse_value value ∷ [])

-- ---- spelling

-- each value is in its range
abbrev pub in_ranges : Message → Bool
in_ranges m = list_all (λ f. f.good) (row m).fields

-- the bytes of the fields, one after the other
abbrev pub body : List Field → List ℕ
body fields = flat_map (λ f. f.bytes) fields

-- a header of type, subtype and the body's length, and the body
abbrev pub framed : ℕ → ℕ → List ℕ → List ℕ
framed type subtype body = to_le_bytes w16 type ++ (to_le_bytes w16 subtype ++ (to_le_bytes w32 (length body) ++ body))

unfoldable pub spelling : Message → List ℕ
spelling m = framed (row m).type (row m).subtype (body (row m).fields)

-- these bytes spell the message
abbrev pub Spells : Message → List ℕ → Type 0
Spells m bytes = IsTrue (in_ranges m) × (bytes ≡ spelling m)

-- the bytes are a header and a body that fits it, of a type and subtype that no message has
pub record IsOfNoKind (bytes : List ℕ) : Type 0 where
  pub type : ℕ
  pub subtype : ℕ
  pub body : List ℕ
  pub frame : bytes ≡ framed type subtype body
  pub two_bytes : (type < 2 ^ 16) × (subtype < 2 ^ 16)
  pub fits : length body ≤ BODY
  pub no_kind : (m : Message) → (row m).type ≡ type → (row m).subtype ≡ subtype → ⊥
