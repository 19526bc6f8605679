-- What a `Table` ends as, where a `&mut` to a value of it is returned.
use Rattle.std.specs.Prelude.{ℕ}
use Rattle.std.specs.Borrow.{Lends, Fml, RattleType, MutBor}
use Rattle.qx_lists.specs.Table.{Table, with_value}
use Rattle.qx_lists.specs.contracts.Table.{the_row}

-- once the borrow r ends, the node has the last value written through r
abbrev pub lends_value : (T : RattleType) → MutBor (Table T.Denot) → ℕ → MutBor T.Denot → Fml
lends_value T t node r = Lends (the_row T) T t r (with_value t.now node)
