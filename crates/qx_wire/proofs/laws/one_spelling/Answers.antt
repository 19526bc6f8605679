use Rattle.std.proofs.Common.{◌∙◌, sym}
use Rattle.qx_wire.proofs.laws.one_spelling.Goals as goal

pub returns : goal.returns
returns c = record { one_spelling = λ m a b p q. p.1 ∙ sym q.1 }
