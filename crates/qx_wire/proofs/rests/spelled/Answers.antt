use Rattle.std.proofs.Common.{arith}
use Rattle.qx_wire.proofs.RestLemmas.{rests_again}
use Rattle.qx_wire.proofs.rests.spelled.Goals as goal

pub returns : goal.returns
returns c = record { bytes = rests_again c.args.bytes.now (λ i. omega (arith, c.type_inv.bytes i)) c.requires.rests }
