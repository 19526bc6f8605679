use Rattle.std.proofs.Common.{◌∙◌, sym}
use Rattle.qx_wire.proofs.RestLemmas.{next_last}
use Rattle.qx_wire.proofs.rest.first_of.Goals as goal

pub returns-in-None : goal.returns-in-None
returns-in-None c = next_last c.args.bytes.now (sym c.slash_in.ensures ∙ c.in-None.is)
