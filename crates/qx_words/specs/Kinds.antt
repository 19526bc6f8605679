-- The kinds of words, each described once: what a word of the kind names, how it is read, how it is printed, and which values have a word.
use Rattle.std.specs.Prelude.{ℕ, ◌≤◌, ◌==◌, ◌&&◌, Bool, not, nat_le, refl, List, [], ◌∷◌, Option, Some, length, decimal, IsTrue, ℤ, FitsSigned}
use Rattle.std.specs.Fmt.{signed_decimal}
use Rattle.std.specs.Int.{w64}
use Rattle.std.specs.List.{list_all}
use Rattle.hex.specs.Hex.{IsBytes, encode_lower}
pub use Rattle.qx_devices.specs.Word.{is_word, is_word_byte}
use Rattle.qx_types.specs.Configuration.{Configuration, is_user_name}
use Rattle.qx_types.specs.declared.fields.NotifyAction.{NotifyAction}
use Rattle.qx_types.specs.declared.fields.Whence.{Whence}
use Rattle.qx_types.specs.declared.flags.Conds.{Conds}
use Rattle.qx_types.specs.declared.flags.OFlags.{OFlags}
use Rattle.qx_types.specs.declared.limits.TheConstants.Limits.{MODE}
use Rattle.qx_types.specs.declared.user_limits.LimitName.{LimitName}
use Rattle.qx_types.specs.declared.names.Manager.{Manager}
use Rattle.qx_types.specs.declared.names.Proc.{Proc}
use Rattle.qx_types.specs.declared.names.Thread.{Thread}
use Rattle.qx_types.specs.declared.names.User.{User}
use Rattle.qx_words.specs.FixedWords.{action_of, action_text, conditions_of, conditions_text, limit_of, limit_text, manager_of, manager_text, whence_of, whence_text}
use Rattle.qx_words.specs.WordText.{bytes_text, flags_text, mode_text, process_text, thread_text, user_text}
use Rattle.qx_words.specs.Words.{bytes_in_word, flags_of, greatest_byte, greatest_moment, greatest_of_four_bytes, greatest_of_two_bytes, hex_byte_of, mode_of, name_in_word, number_of, offset_of, process_in_word, thread_in_word, user_in_word}

-- one of the users with these names
abbrev pub CanNameUser : List (List ℕ) → User → Type 0
CanNameUser users user = (1 ≤ user.0) × (user.0 ≤ length users)

-- a number of one byte, whether or not there is such a process
abbrev pub CanNameProcess : List (List ℕ) → Proc → Type 0
CanNameProcess users process = CanNameUser users process.user × (process.num ≤ greatest_byte)

-- numbers of one byte, whether or not there is such a thread
abbrev pub CanNameThread : List (List ℕ) → Thread → Type 0
CanNameThread users thread = CanNameUser users thread.proc.user × (thread.proc.num ≤ greatest_byte) × (thread.tid ≤ greatest_byte)

-- `ANumber` has no sign and is at most the greatest one, which takes 64 bits at most
pub data Kind : Type 0 where
  AName : Kind
  AUser : Kind
  AProcess : Kind
  AThread : Kind
  ANumber : (greatest : ℕ) → IsTrue (nat_le greatest greatest_moment) → Kind
  AnOffset : Kind
  APath : Kind
  SomeFlags : Kind
  AMode : Kind
  SomeBytes : Kind
  AHexByte : Kind
  AManager : Kind
  AWhence : Kind
  AnAction : Kind
  ALimit : Kind
  SomeConditions : Kind

abbrev pub AByte : Kind
AByte = ANumber greatest_byte refl

abbrev pub ATwoByteNumber : Kind
ATwoByteNumber = ANumber greatest_of_two_bytes refl

abbrev pub AFourByteNumber : Kind
AFourByteNumber = ANumber greatest_of_four_bytes refl

abbrev pub AnEightByteNumber : Kind
AnEightByteNumber = ANumber greatest_moment refl

abbrev pub AMoment : Kind
AMoment = ANumber greatest_moment refl

-- what a word of the kind names
abbrev pub Value : Kind → Type 0
Value AName = List ℕ
Value AUser = User
Value AProcess = Proc
Value AThread = Thread
Value (ANumber greatest fits) = ℕ
Value AnOffset = ℤ
Value APath = List ℕ
Value SomeFlags = OFlags
Value AMode = ℕ
Value SomeBytes = List ℕ
Value AHexByte = ℕ
Value AManager = Manager
Value AWhence = Whence
Value AnAction = NotifyAction
Value ALimit = LimitName
Value SomeConditions = Conds

-- how it is read, where the users have these names
abbrev pub value_of : (kind : Kind) → List (List ℕ) → List ℕ → Option (Value kind)
value_of AName users word = name_in_word word
value_of AUser users word = user_in_word users word
value_of AProcess users word = process_in_word users word
value_of AThread users word = thread_in_word users word
value_of (ANumber greatest fits) users word = number_of greatest word
value_of AnOffset users word = offset_of word
value_of APath users word = Some word
value_of SomeFlags users word = flags_of word
value_of AMode users word = mode_of word
value_of SomeBytes users word = bytes_in_word word
value_of AHexByte users word = hex_byte_of word
value_of AManager users word = manager_of word
value_of AWhence users word = whence_of word
value_of AnAction users word = action_of word
value_of ALimit users word = limit_of word
value_of SomeConditions users word = conditions_of word

-- how it is printed
abbrev pub value_text : (kind : Kind) → Configuration → Value kind → List ℕ
value_text AName config name = name
value_text AUser config user = user_text config user.0
value_text AProcess config process = process_text config process
value_text AThread config thread = thread_text config thread
value_text (ANumber greatest fits) config number = decimal number
value_text AnOffset config offset = signed_decimal offset
value_text APath config path = path
value_text SomeFlags config flags = flags_text flags
value_text AMode config mode = mode_text mode
value_text SomeBytes config bytes = bytes_text bytes
value_text AHexByte config byte = encode_lower (byte ∷ [])
value_text AManager config manager = manager_text manager
value_text AWhence config whence = whence_text whence
value_text AnAction config action = action_text action
value_text ALimit config limit = limit_text limit
value_text SomeConditions config conditions = conditions_text conditions

-- which values have a word: flags are one or more of the seven, conditions one or both
abbrev pub CanName : (kind : Kind) → List (List ℕ) → Value kind → Type 0
CanName AName users name = IsTrue (is_user_name name)
CanName AUser users user = CanNameUser users user
CanName AProcess users process = CanNameProcess users process
CanName AThread users thread = CanNameThread users thread
CanName (ANumber greatest fits) users number = number ≤ greatest
CanName AnOffset users offset = FitsSigned w64 offset
CanName APath users path = IsTrue (is_word path)
CanName SomeFlags users flags = (1 ≤ flags.0) × (flags.0 ≤ 127)
CanName AMode users mode = mode ≤ MODE
CanName SomeBytes users bytes = IsBytes bytes
CanName AHexByte users byte = byte ≤ greatest_byte
CanName AManager users manager = Unit {0}
CanName AWhence users whence = Unit {0}
CanName AnAction users action = Unit {0}
CanName ALimit users limit = Unit {0}
CanName SomeConditions users conditions = (1 ≤ conditions.0) × (conditions.0 ≤ 3)
