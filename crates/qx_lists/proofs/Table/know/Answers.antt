use Rattle.std.proofs.Common.{arith}
use Rattle.qx_lists.proofs.ListLemmas.{distinct_from_apart, length-keys}
use Rattle.qx_lists.proofs.ShowsLemmas.{shown_shows, member_value, nodes_apart}
use Rattle.qx_lists.proofs.ValueLemmas.{len-node_values}
use Rattle.qx_lists.proofs.Table.know.Goals as goal

pub returns-clause-distinct : goal.returns-clause-distinct
returns-clause-distinct g c = rw (← c.self.view_is) (λ list. distinct_from_apart _ (nodes_apart _ _ list (shown_shows _ c.self.inside.kept)))

pub returns-clause-apart : goal.returns-clause-apart
returns-clause-apart g c = rw (← c.self.view_is) (shown_shows _ c.self.inside.kept).apart

pub returns-clause-there : goal.returns-clause-there
returns-clause-there g c = rw (← c.self.view_is) (member_value _ _ (shown_shows _ c.self.inside.kept))

pub returns-clause-bounded : goal.returns-clause-bounded
returns-clause-bounded g c =
    let shows = shown_shows _ c.self.inside.kept in
    rw (← c.self.view_is) (λ list. length-keys _ _ (nodes_apart _ _ list shows) (member_value _ _ shows list))

pub returns-clause-counted : goal.returns-clause-counted
returns-clause-counted g c = rw (← c.self.view_is) (omega (arith, len-node_values c.self.inside.rings.nodes, c.len-count.ensures))
