-- What holds of the table alone, and of the meaning of bytes by the table.
use Rattle.std.specs.Prelude.{◌≡◌, ℕ, ◌<◌, ◌↔◌, List, All}
use Rattle.qx_wire.specs.declared.message.Message.{Message}
use Rattle.qx_wire.specs.declared.message.Meaning.{Meaning}
use Rattle.qx_wire.specs.declared.message.Meaning.TheVariants.{Known, Unknown, Malformed}
use Rattle.qx_wire.specs.Table.{Spells, IsOfNoKind}
use Rattle.qx_wire.specs.Reading.{meaning}

-- a message has one spelling
abbrev pub OneSpelling : Type 0
OneSpelling = (m : Message) (a b : List ℕ) → Spells m a → Spells m b → a ≡ b

-- bytes spell at most one message
abbrev pub OneMessage : Type 0
OneMessage = (bytes : List ℕ) (m n : Message) → Spells m bytes → Spells n bytes → m ≡ n

-- each number is a byte
abbrev pub AreBytes : List ℕ → Type 0
AreBytes bytes = All (λ byte. byte < 256) bytes

-- where it is a message, that message has the property
abbrev pub IfKnown : Meaning → (Message → Type 0) → Type 0
IfKnown (Known m) Property = Property m
IfKnown Unknown Property = Unit {0}
IfKnown Malformed Property = Unit {0}

-- bytes mean a message exactly if they spell it
abbrev pub KnownExactly : Type 0
KnownExactly = (bytes : List ℕ) (m : Message) → AreBytes bytes → (meaning bytes ≡ Known m) ↔ Spells m bytes

-- bytes are unknown exactly if they fit their header and are of no kind
abbrev pub UnknownExactly : Type 0
UnknownExactly = (bytes : List ℕ) → AreBytes bytes → (meaning bytes ≡ Unknown) ↔ IsOfNoKind bytes
