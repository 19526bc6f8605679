use Rattle.qx_wire.proofs.FieldLemmas.{IsBytes-from_All}
use Rattle.qx_wire.proofs.TableLemmas.{unknown_of_no_kind, of_no_kind_unknown}
use Rattle.qx_wire.proofs.laws.unknown_exactly.Goals as goal

pub returns : goal.returns
returns c = record { unknown_exactly = λ bytes fits. (unknown_of_no_kind bytes (IsBytes-from_All bytes fits), of_no_kind_unknown bytes (IsBytes-from_All bytes fits)) }
