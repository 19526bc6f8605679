-- What only the proofs need of Counts.
use Rattle.std.specs.Prelude.{ℕ, ◌≡◌, ◌+◌, ◌-◌, Bool, true, List, Option, Some, None, count_by, option_map, if◌then◌else◌}
use Rattle.qx_types.specs.declared.flags.OFlags.{OFlags}
use Rattle.qx_machine.specs.declared.rows.Attribute.{Attribute}
use Rattle.qx_machine.specs.declared.rows.Ocb.{Ocb}
use Rattle.qx_machine.specs.Inodes.{is_open, reads, writes}
use Rattle.qx_isolation.specs.Rows.{row_at}
use Rattle.qx_attr.specs.declared.attr.Attr.{Attr}

abbrev pub attribute_of : Option Attr → Option Attribute
attribute_of = option_map (λ attr. attr.attribute)

-- an inode that nothing has open
abbrev pub unopened : Attribute → Attr
unopened attribute = record { attribute = attribute; blocks = 0; readers = 0; writers = 0 }

abbrev pub one : Bool → ℕ
one test = if test then 1 else 0

-- with one more open control block, and with one less
abbrev pub counted : OFlags → Attr → Attr
counted flags attr = record attr { blocks = attr.blocks + 1; readers = attr.readers + one (reads flags); writers = attr.writers + one (writes flags) }

abbrev pub uncounted : OFlags → Attr → Attr
uncounted flags attr = record attr { blocks = attr.blocks - 1; readers = attr.readers - one (reads flags); writers = attr.writers - one (writes flags) }

abbrev pub count_in : (Attr → ℕ) → Option Attr → ℕ
count_in count None = 0
count_in count (Some attr) = count attr

-- what stands beside each attribute is how many of its open control blocks have such flags
abbrev pub IsCounted : (Attr → ℕ) → (OFlags → Bool) → List (Option Attr) → List (Option Ocb) → Type 0
IsCounted count which attrs blocks = (inode : ℕ) → count_in count (row_at attrs inode) ≡ count_by (is_open which inode) blocks

pub record AreCounted (attrs : List (Option Attr)) (blocks : List (Option Ocb)) : Type 0 where
  pub blocks_are : IsCounted (λ attr. attr.blocks) (λ flags. true) attrs blocks
  pub readers_are : IsCounted (λ attr. attr.readers) reads attrs blocks
  pub writers_are : IsCounted (λ attr. attr.writers) writes attrs blocks
