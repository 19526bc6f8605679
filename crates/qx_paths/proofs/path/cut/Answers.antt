use Rattle.std.proofs.Common.{◌∙◌, sym}
use Rattle.qx_paths.proofs.PathLemmas.{cut_nowhere, cut_there}
use Rattle.qx_paths.proofs.path.cut.Goals as goal

pub returns-in-None-clause-parted : goal.returns-in-None-clause-parted
returns-in-None-clause-parted c = cut_nowhere c.args.named.now c.requires.some (sym c.slash_in.ensures ∙ c.in-None.is)

pub returns-in-Some-clause-parted : goal.returns-in-Some-clause-parted
returns-in-Some-clause-parted c = cut_there c.args.named.now c.in-Some.at c.requires.some c.requires.clear (sym c.slash_in.ensures ∙ c.in-Some.is)
