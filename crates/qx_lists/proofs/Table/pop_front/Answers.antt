use Rattle.std.proofs.Common.{sym, ap, ◌∙◌}
use Rattle.qx_lists.specs.Table.{with_nodes}
use Rattle.qx_lists.proofs.ListLemmas.{without-first}
use Rattle.qx_lists.proofs.ShowsLemmas.{unchanged_empty}
use Rattle.qx_lists.proofs.Table.pop_front.Goals as goal

pub returns-in_err-first-clause-rest : goal.returns-in_err-first-clause-rest
returns-in_err-first-clause-rest g c = unchanged_empty _ c.args.list c.requires (sym c.in_err-first.ensures.first)

pub returns-clause-rest : goal.returns-clause-rest
returns-clause-rest g c =
    c.unlink.ensures.unlinked ∙ ap (with_nodes c.args.self.now c.args.list) (without-first _ c.in_ok-first.first (c.know.ensures.distinct c.args.list) (sym c.in_ok-first.ensures.first))
