use Rattle.std.proofs.Common.{◌∙◌, sym}
use Rattle.std.proofs.lemmas.Bool.{eqb-true}
use Rattle.qx_paths.proofs.PathLemmas.{no_bytes}
use Rattle.qx_paths.proofs.path.first_of.Goals as goal

pub returns-then-is_empty-clause-parted : goal.returns-then-is_empty-clause-parted
returns-then-is_empty-clause-parted c = sym c.without_slashes-named.ensures.same ∙ no_bytes _ (eqb-true _ _ (sym c.is_empty.ensures ∙ c.if-is_empty.true))
