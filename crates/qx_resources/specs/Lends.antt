-- What lends a row of its own, and ends with what was left in the row.
use Rattle.std.specs.Prelude.{ℕ, List, Option, Some, slice_set}
use Rattle.std.specs.Borrow.{LendsIf, Fml, MutBor}
use Rattle.qx_resources.specs.State.{Kept}
use Rattle.qx_resources.specs.contracts.all.AllResources as all
use Rattle.qx_resources.specs.contracts.resources.Resources as resources

abbrev pub lends_resources : MutBor (List (Option Kept)) → ℕ → Option (MutBor Kept) → Fml
lends_resources lender user r = LendsIf all.the_row resources.the_row lender r (λ row. slice_set lender.now user (Some row)) lender.now
