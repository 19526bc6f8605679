-- What bytes mean as a request.
use Rattle.std.specs.Prelude.{ℕ, ◌*◌, ◌-◌, ◌&&◌, ◌==◌, nat_le, if◌then◌else◌, List, [], ◌∷◌, length, take, Option, Some, None}
use Rattle.qx_fuse_wire.specs.declared.body.Header.{Header}
use Rattle.qx_fuse_wire.specs.declared.body.Body.{Body}
use Rattle.qx_fuse_wire.specs.declared.body.Meaning.{Meaning}
use Rattle.qx_fuse_wire.specs.declared.body.Meaning.TheVariants.{Known, Unknown, Malformed, Short}
use Rattle.qx_fuse_wire.specs.Forms.{read}
use Rattle.qx_fuse_wire.specs.Table.{Line, header_form, header_made, read_line, table}

-- a header, and what stands behind it
unfoldable pub header_at : List ℕ → Option (Header × List ℕ)
header_at bytes = read header_form header_made bytes

abbrev pub known_or_malformed : Header → Option Body → Meaning
known_or_malformed header None = Malformed header
known_or_malformed header (Some body) = Known header body

-- by the line of the header's opcode; Unknown where there is none
abbrev pub found : Header → List Line → List ℕ → Meaning
found header [] bytes = Unknown header
found header (line ∷ lines) bytes = if header.opcode == line.opcode then known_or_malformed header (read_line line bytes) else found header lines bytes

unfoldable pub body_meaning : Header → List ℕ → Meaning
body_meaning header bytes = found header table bytes

-- how many bytes stand behind the body
abbrev pub extension_length : Header → ℕ
extension_length header = 8 * header.extensions

-- as many bytes as the header says, in all and behind the body
abbrev pub framed : ℕ → Option (Header × List ℕ) → Meaning
framed size None = Short
framed size (Some (header, rest)) =
    if header.length == size && nat_le (extension_length header) (length rest)
    then body_meaning header (take (length rest - extension_length header) rest)
    else Malformed header

unfoldable pub meaning : List ℕ → Meaning
meaning bytes = framed (length bytes) (header_at bytes)
