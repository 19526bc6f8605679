-- What holds of the table of requests, and of what bytes mean by it.
use Rattle.std.specs.Prelude.{◌≡◌, ℕ, ◌+◌, ◌≤◌, ◌==◌, ◌↔◌, if◌then◌else◌, List, [], ◌∷◌, ◌++◌, length, Option, Some, None}
use Rattle.qx_wire.specs.Laws.{AreBytes}
use Rattle.qx_fuse_wire.specs.declared.body.Header.{Header}
use Rattle.qx_fuse_wire.specs.declared.body.Body.{Body}
use Rattle.qx_fuse_wire.specs.declared.body.Meaning.TheVariants.{Known, Unknown}
use Rattle.qx_fuse_wire.specs.declared.reply.Reply.{Reply}
use Rattle.qx_fuse_wire.specs.Replies.{body_bytes, reply_bytes}
use Rattle.qx_fuse_wire.specs.Forms.{CanBe, Form, Maker, Values, made_of, spelled}
use Rattle.qx_fuse_wire.specs.Table.{Line, header_form, header_made, table}
use Rattle.qx_fuse_wire.specs.Meaning.{extension_length, meaning}

-- values of a form that make an A
pub record Makes {A : Type 0} (form : Form) (made : Maker form A) (a : A) : Type 0 where
  pub values : Values form
  pub can : CanBe form values
  pub makes : made_of form made values ≡ Some a

-- the line of that opcode
abbrev pub line_for : List Line → ℕ → Option Line
line_for [] opcode = None
line_for (line ∷ lines) opcode = if opcode == line.opcode then Some line else line_for lines opcode

-- the bytes are a header, of which the length and the opcode are right, fields of its line that make the body, and what is not read
pub record Spells (header : Header) (body : Body) (bytes : List ℕ) : Type 0 where
  pub line : Line
  pub opcode : line_for table header.opcode ≡ Some line
  pub fields : Makes line.form line.made body
  pub extensions : List ℕ
  pub extended : length extensions ≡ extension_length header
  pub head : Makes header_form header_made (header, spelled line.form fields.values ++ extensions)
  pub are : spelled header_form head.values ≡ bytes
  pub long : header.length ≡ length bytes

-- bytes mean a request exactly if they spell it
abbrev pub KnownExactly : Type 0
KnownExactly = (bytes : List ℕ) (header : Header) (body : Body) → AreBytes bytes → (meaning bytes ≡ Known header body) ↔ Spells header body bytes

-- the bytes are a header that agrees with them, and no line has its opcode
pub record IsOfNoLine (header : Header) (bytes : List ℕ) : Type 0 where
  pub rest : List ℕ
  pub head : Makes header_form header_made (header, rest)
  pub are : spelled header_form head.values ≡ bytes
  pub long : header.length ≡ length bytes
  pub extended : extension_length header ≤ length rest
  pub no_line : line_for table header.opcode ≡ None

-- bytes are unknown exactly if they are of no line
abbrev pub UnknownExactly : Type 0
UnknownExactly = (bytes : List ℕ) (header : Header) → AreBytes bytes → (meaning bytes ≡ Unknown header) ↔ IsOfNoLine header bytes

-- a reply's length, which stands first in it, is that of its header and its body
abbrev pub ReplyLength : Type 0
ReplyLength = (unique : ℕ) (it : Reply) → length (reply_bytes unique it) ≡ 16 + length (body_bytes it)
