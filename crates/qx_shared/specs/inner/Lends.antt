-- What lends a pipe of a user, and ends with what was left in it.
use Rattle.std.specs.Prelude.{ℕ, Option, Some, slice_set}
use Rattle.std.specs.Borrow.{LendsIf, Fml, MutBor}
use Rattle.qx_shared.specs.Row.{PipeRow}
use Rattle.qx_shared.specs.inner.Row.{Rows}
use Rattle.qx_shared.specs.contracts.row.PipeRow as pipe
use Rattle.qx_shared.specs.contracts.row.UserPipes as pipes

abbrev pub lends_row : MutBor Rows → ℕ → Option (MutBor PipeRow) → Fml
lends_row lender inode r = LendsIf pipes.the_row pipe.the_row lender r (λ left. slice_set lender.now inode (Some left)) lender.now
