use Rattle.std.proofs.Common.{Some, sym, ◌∙◌, ap, option_map, unwrap_or}
use Rattle.std.proofs.lemmas.Option.{slice_get-map}
use Rattle.qx_lines.specs.Line.{nodes_in}
use Rattle.qx_lists.proofs.WalkLemmas.{contains-index}
use Rattle.qx_queues.specs.inner.Kept.{entry_of_node, nobodys}
use Rattle.qx_queues.proofs.OwnLemmas.{in_own}
use Rattle.qx_queues.proofs.queues.first_of.Goals as goal

pub value-requires : goal.value-requires
value-requires c =
    let own = in_own c.args.table.now c.args.line.now c.in_ok-node.node (contains-index _ 0 _ (sym c.in_ok-node.ensures)) in
    c.requires.there own.0 c.in_ok-node.node own.2

pub returns : goal.returns
returns c = record { first = ap Some (c.queued.ensures.entry ∙ sym (ap (λ o. (unwrap_or o nobodys).queued) c.value.ensures)) ∙ ap (option_map (entry_of_node c.args.table.now)) c.in_ok-node.ensures ∙ sym (slice_get-map (entry_of_node c.args.table.now) (nodes_in c.args.table.now c.args.line.now) 0) }
