use Rattle.std.proofs.Common.{arith}
use Rattle.std.specs.FinMap as map
use Rattle.qx_lists.proofs.ShowsLemmas.{no_list, contents_are, closed}
use Rattle.qx_lists.proofs.ValueLemmas.{node_values-empty}
use Rattle.qx_lists.proofs.Table.new.Goals as goal

pub invariant_of-result : goal.invariant_of-result
invariant_of-result g c =
    closed (record { nodes = c.new.result; lists = c.new-2.result }) 0 map.empty (no_list _ (λ list. rw c.new-2.ensures.empty)) (rw (c.new.ensures.empty, c.new.ensures.capacity) (omega arith))

pub returns : goal.returns
returns g c =
    contents_are _ _ 0 map.empty map.empty (no_list (record { nodes = c.new.result; lists = c.new-2.result }) (λ list. rw c.new-2.ensures.empty)) (node_values-empty c.new.result c.new.ensures.empty)
