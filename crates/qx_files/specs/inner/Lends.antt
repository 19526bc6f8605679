-- What lends the bytes of a file, and ends with what was left in them.
use Rattle.std.specs.Prelude.{ℕ, List, Option, Some, slice_set}
use Rattle.std.specs.Borrow.{LendsIf, Fml, MutBor}
use Rattle.qx_files.specs.Blocks.{Held}
use Rattle.qx_files.specs.contracts.contents.Contents as contents
use Rattle.qx_files.specs.contracts.data.Data as bytes

abbrev pub lends_bytes : MutBor (List (Option Held)) → ℕ → Option (MutBor Held) → Fml
lends_bytes lender inode r = LendsIf contents.the_row bytes.the_row lender r (λ left. slice_set lender.now inode (Some left)) lender.now
