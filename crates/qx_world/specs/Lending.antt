-- What a trace ends as, where an outcome in it is lent.
use Rattle.std.specs.Prelude.{⊤}
use Rattle.std.specs.Borrow.{follows_so, MutBor, Fml}
use mathlib.Core.Option.{none}
use Rattle.qx_world.specs.contracts.trace.Traced.{the_row}
use Rattle.qx_world.specs.Trace.{Trace}

-- once the loan is over, this holds of the trace
abbrev pub Ends : MutBor Trace → (Trace → Type 0) → Fml
Ends t P = follows_so the_row the_row t.ghost_name none (λ _ _. ⊤) P
