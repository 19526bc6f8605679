-- What bytes mean, as a function. It need not be believed: the laws say that it is the table's meaning (Laws.antt).
use Rattle.std.specs.Prelude.{Bool, ℕ, ◌==◌, ◌&&◌, nat_le, nat_lt, if◌then◌else◌, List, [], ◌∷◌, length, take, drop, Option, Some, None}
use Rattle.std.specs.Int.{Width, w8, w16, w32, w64, byte_len, from_le_bytes, cast_signed}
use Rattle.qx_types.specs.Optional.{◌>>=◌}
use Rattle.qx_types.specs.declared.fields.NotifyAction.{NotifyAction}
use Rattle.qx_types.specs.declared.fields.NotifyAction.TheVariants as action
use Rattle.qx_types.specs.declared.fields.PulseValue.TheVariants.{Bits32, Bits64}
use Rattle.qx_types.specs.declared.fields.Whence.{Whence}
use Rattle.qx_types.specs.declared.fields.Whence.TheVariants as whence
use Rattle.qx_types.specs.declared.limits.TheConstants.Limits.{BODY}
use Rattle.qx_wire.specs.declared.message.Message.{Message}
use Rattle.qx_wire.specs.declared.message.Message.TheVariants as msg
use Rattle.qx_wire.specs.declared.message.Meaning.{Meaning}
use Rattle.qx_wire.specs.declared.message.Meaning.TheVariants.{Known, Unknown, Malformed}
use Rattle.qx_wire.specs.Rests.{components_of}
use Rattle.qx_wire.specs.Table.{in_ranges}

-- ---- one body

-- a number and the bytes after it
abbrev pub number_at : Width → List ℕ → Option (ℕ × List ℕ)
number_at width bytes = if nat_lt (length bytes) (byte_len width) then None else Some (from_le_bytes width (take (byte_len width) bytes), drop (byte_len width) bytes)

-- the message, where no bytes are left
abbrev pub ended : List ℕ → Message → Option Message
ended bytes m = if length bytes == 0 then Some m else None

unfoldable pub open_at : List ℕ → Option Message
open_at body = do
  flags ← number_at w16 body
  mode ← number_at w16 flags.1
  Some (msg.Open (record { 0 = flags.0 }) mode.0 (components_of mode.1))

unfoldable pub mknod_at : List ℕ → Option Message
mknod_at body = do
  kind ← number_at w16 body
  mode ← number_at w16 kind.1
  if kind.0 == 2 then Some (msg.Mknod mode.0 (components_of mode.1)) else None

unfoldable pub rename_at : List ℕ → Option Message
rename_at body = do
  len ← number_at w16 body
  if nat_le len.0 (length len.1) then Some (msg.Rename (components_of (take len.0 len.1), components_of (drop len.0 len.1))) else None

unfoldable pub read_at : List ℕ → Option Message
read_at body = do
  count ← number_at w32 body
  ended count.1 (msg.Read count.0)

unfoldable pub dup_at : List ℕ → Option Message
dup_at body = do
  old ← number_at w16 body
  if nat_lt old.0 256 then ended old.1 (msg.Dup (record { 0 = old.0 })) else None

unfoldable pub lseek_at : Whence → List ℕ → Option Message
lseek_at from body = do
  by ← number_at w64 body
  ended by.1 (msg.Lseek from (cast_signed w64 by.0))

unfoldable pub chmod_at : List ℕ → Option Message
chmod_at body = do
  mode ← number_at w16 body
  ended mode.1 (msg.Chmod mode.0)

unfoldable pub notify_at : NotifyAction → List ℕ → Option Message
notify_at act body = do
  conditions ← number_at w8 body
  code ← number_at w8 conditions.1
  value ← number_at w32 code.1
  ended value.1 (msg.Notify act (record { 0 = conditions.0 }) code.0 (Bits32 value.0))

unfoldable pub notify_64_at : NotifyAction → List ℕ → Option Message
notify_64_at act body = do
  conditions ← number_at w8 body
  code ← number_at w8 conditions.1
  value ← number_at w64 code.1
  ended value.1 (msg.Notify act (record { 0 = conditions.0 }) code.0 (Bits64 value.0))

-- ---- bodies of all kinds

-- what a body of that type and subtype is cut into
pub record Case : Type 0 where
  pub type : ℕ
  pub subtype : ℕ
  pub cut : Option Message

abbrev pub case : ℕ → ℕ → Option Message → Case
case type subtype cut = record { type = type; subtype = subtype; cut = cut }

abbrev pub cases : List ℕ → List Case
cases body =
    case 256 1 (open_at body) ∷
    case 256 2 (Some (msg.Stat (components_of body))) ∷
    case 256 3 (Some (msg.Unlink (components_of body))) ∷
    case 256 4 (mknod_at body) ∷
    case 256 5 (rename_at body) ∷
    case 257 0 (read_at body) ∷
    case 258 0 (Some (msg.Write body)) ∷
    case 259 0 (ended body msg.Close) ∷
    case 260 0 (dup_at body) ∷
    case 261 0 (lseek_at whence.Set body) ∷
    case 261 1 (lseek_at whence.Current body) ∷
    case 261 2 (lseek_at whence.End body) ∷
    case 262 0 (ended body msg.Fstat) ∷
    case 263 0 (Some (msg.List body)) ∷
    case 264 0 (chmod_at body) ∷
    case 265 0 (notify_at action.Poll body) ∷
    case 265 1 (notify_at action.PollArm body) ∷
    case 265 2 (notify_at action.TranArm body) ∷
    case 266 0 (notify_64_at action.Poll body) ∷
    case 266 1 (notify_64_at action.PollArm body) ∷
    case 266 2 (notify_64_at action.TranArm body) ∷
    []

abbrev pub known_or_malformed : Option Message → Meaning
known_or_malformed None = Malformed
known_or_malformed (Some m) = Known m

-- what the case of that type and subtype gives; Unknown where there is none
abbrev pub meaning_found : ℕ → ℕ → List Case → Meaning
meaning_found type subtype [] = Unknown
meaning_found type subtype (a ∷ others) = if type == a.type && subtype == a.subtype then known_or_malformed a.cut else meaning_found type subtype others

-- what a body of that type and subtype is cut into
unfoldable pub body_cut : ℕ → ℕ → List ℕ → Meaning
body_cut type subtype body = meaning_found type subtype (cases body)

-- ---- header and body

-- a header and the body behind it
pub record Frame : Type 0 where
  pub type : ℕ
  pub subtype : ℕ
  pub body : List ℕ

-- the body is as long as the header says, and not too long
unfoldable pub frame_at : List ℕ → Option Frame
frame_at bytes = do
  type ← number_at w16 bytes
  subtype ← number_at w16 type.1
  len ← number_at w32 subtype.1
  if length len.1 == len.0 && nat_le len.0 BODY then Some (record { type = type.0; subtype = subtype.0; body = len.1 }) else None

abbrev pub frame_cut : Option Frame → Meaning
frame_cut None = Malformed
frame_cut (Some frame) = body_cut frame.type frame.subtype frame.body

-- what bytes are cut into: a message whose values need not be in their ranges
unfoldable pub cut : List ℕ → Meaning
cut bytes = frame_cut (frame_at bytes)

-- a message, if its values are in their ranges
abbrev pub judged : Meaning → Meaning
judged Unknown = Unknown
judged Malformed = Malformed
judged (Known m) = if in_ranges m then Known m else Malformed

-- the same, where that is judged
abbrev pub judged_where : Bool → Meaning → Meaning
judged_where judges meaning = if judges then judged meaning else meaning

-- what bytes mean
unfoldable pub meaning : List ℕ → Meaning
meaning bytes = judged (cut bytes)
