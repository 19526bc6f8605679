use Rattle.qx_wire.proofs.FieldLemmas.{IsBytes-from_All}
use Rattle.qx_fuse_wire.proofs.MeaningLemmas.{known_spells, spells_known}
use Rattle.qx_fuse_wire.proofs.laws.known_exactly.Goals as goal

pub returns : goal.returns
returns c = record { known_exactly = λ bytes header body are. (λ means. known_spells bytes header body (IsBytes-from_All bytes are) means, λ spells. spells_known bytes header body spells) }
