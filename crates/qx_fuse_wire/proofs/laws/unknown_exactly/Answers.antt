use Rattle.qx_wire.proofs.FieldLemmas.{IsBytes-from_All}
use Rattle.qx_fuse_wire.proofs.MeaningLemmas.{of_no_line_unknown, unknown_of_no_line}
use Rattle.qx_fuse_wire.proofs.laws.unknown_exactly.Goals as goal

pub returns : goal.returns
returns c = record { unknown_exactly = λ bytes header are. (λ means. unknown_of_no_line bytes header (IsBytes-from_All bytes are) means, λ is. of_no_line_unknown bytes header is) }
