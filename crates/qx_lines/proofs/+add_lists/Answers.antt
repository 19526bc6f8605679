use Rattle.std.proofs.Common.{[], ◌∙◌, ap}
use Rattle.std.specs.FinMap as map
use Rattle.qx_lists.proofs.MapLemmas.{get-insert_same}
use Rattle.qx_lines.proofs.NewLemmas.{gone_again}
use Rattle.qx_lines.proofs.+add_lists.Goals as goal

pub free_list-requires : goal.free_list-requires
free_list-requires g n c =
    ap (λ table. map.get table.lists c.in_ok-list.list) (c.in-Err.ensures.err ∙ c.in_ok-list.ensures.made) ∙ get-insert_same c.args.table.now.lists c.in_ok-list.list []

pub returns-in-Err-clause-err : goal.returns-in-Err-clause-err
returns-in-Err-clause-err g n c = c.free_list.ensures ∙ gone_again c.args.table.now c.add_lists.new.table c.in_ok-list.list (c.in-Err.ensures.err ∙ c.in_ok-list.ensures.made) c.in_ok-list.ensures.was_new
