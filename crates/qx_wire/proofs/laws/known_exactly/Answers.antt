use Rattle.qx_wire.proofs.FieldLemmas.{IsBytes-from_All}
use Rattle.qx_wire.proofs.TableLemmas.{known_spells, spells_known}
use Rattle.qx_wire.proofs.laws.known_exactly.Goals as goal

pub returns : goal.returns
returns c = record { known_exactly = λ bytes m fits. (known_spells bytes m (IsBytes-from_All bytes fits), spells_known bytes m) }
