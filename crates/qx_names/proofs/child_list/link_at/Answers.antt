use Rattle.std.proofs.Common.{◌≡◌, [], nat_eq, unwrap_or, ap, subst, sym, ◌∙◌}
use Rattle.std.specs.List.{IsDistinct}
use Rattle.qx_lists.specs.Table.{nodes_of, put_before, with_nodes}
use Rattle.qx_names.proofs.IndexLemmas.{put_before-index}
use Rattle.qx_names.proofs.child_list.link_at.Goals as goal

pub returns-in-Some : goal.returns-in-Some
returns-in-Some c =
    let nodes : nodes_of c.args.table.now c.args.list ≡ c.args.index.now = ap (λ o. unwrap_or o []) c.requires.list in
    let distinct = subst (IsDistinct nat_eq) nodes (c.know.ensures.distinct c.args.list) in
    c.insert_before.ensures
    ∙ ap (with_nodes c.args.table.now c.args.list) (ap (put_before c.args.node c.in-Some.next) nodes ∙ put_before-index c.args.index.now c.args.place c.args.node c.in-Some.next distinct (sym c.node_at.ensures ∙ c.in-Some.is))
