use Rattle.qx_names.proofs.PathLemmas.{path_is}
use Rattle.qx_names.proofs.ShowsLemmas.{names_shown}
use Rattle.qx_names.proofs.names.Names.named_once.Goals as goal

pub returns-clause-once : goal.returns-clause-once
returns-clause-once c = rw (← c.self.view_is) ((names_shown _ _ c.self.inside.kept).single)

pub returns-clause-path : goal.returns-clause-path
returns-clause-path c = rw (← c.self.view_is) (path_is _ _ _ (names_shown _ _ c.self.inside.kept))
