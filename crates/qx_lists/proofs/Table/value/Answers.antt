use Rattle.std.proofs.Common.{ap, ◌∙◌, option_map}
use Rattle.qx_lists.proofs.ShowsLemmas.{node_there}
use Rattle.qx_lists.proofs.ValueLemmas.{get-node_values}
use Rattle.qx_lists.proofs.Table.value.Goals as goal

pub node-requires : goal.node-requires
node-requires g c = record { there = node_there _ c.args.node (rw (← c.self.view_is) at c.requires) }

pub returns : goal.returns
returns g c = rw (← c.self.view_is) (get-node_values _ c.args.node ∙ ap (option_map (λ n. n.value)) c.node.ensures.node)
