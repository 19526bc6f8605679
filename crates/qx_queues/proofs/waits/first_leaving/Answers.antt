use Rattle.std.proofs.Common.{◌≡◌, ◌+◌, Some, slice_get, unwrap_or, add-one, arith, sym, ap, ◌∙◌}
use Rattle.qx_lists.specs.Table.{nodes_of}
use Rattle.qx_lists.proofs.WalkLemmas.{contains-index, next_after-index, nodes_from-smaller, past_the_end}
use Rattle.qx_queues.specs.inner.Kept.{nobodys, waiting_of_node}
use Rattle.qx_queues.specs.Waiting.{call_carried}
use Rattle.qx_queues.specs.Waits.{leaves}
use Rattle.qx_queues.proofs.WalkLemmas.{first-leaves, none-leaves, stays-more}
use Rattle.qx_queues.proofs.waits.first_leaving.Goals as goal

pub value-requires : goal.value-requires
value-requires c = c.know.ensures.there c.args.list c.in-Some.node (contains-index _ _ _ (c.nodes.invariant.next ∙ c.in-Some.is))

pub call-requires : goal.call-requires
call-requires c = record { waits = rw (ap (λ o. unwrap_or o nobodys) c.value.ensures) at (c.requires.wait c.in-Some.node (contains-index _ _ _ (c.nodes.invariant.next ∙ c.in-Some.is))) }

pub next-next-requires : goal.next-next-requires
next-next-requires c = contains-index _ _ _ (c.nodes.invariant.next ∙ c.in-Some.is)

pub returns-then-means : goal.returns-then-means
returns-then-means c =
    let meant : leaves c.args.which (call_carried (waiting_of_node c.args.table.now c.in-Some.node)) ≡ c.means.result = ap (λ o. leaves c.args.which (call_carried (unwrap_or o nobodys))) c.value.ensures ∙ sym (c.means.ensures ∙ ap (leaves c.args.which) c.call.ensures.call) in
    sym (first-leaves _ (nodes_of c.args.table.now c.args.list) c.nodes.invariant.index c.in-Some.node c.nodes.invariant.stayed (c.nodes.invariant.next ∙ c.in-Some.is) (meant ∙ c.if-means.true))

pub nodes-preserved : goal.nodes-preserved
nodes-preserved c =
    let nodes = nodes_of c.args.table.now c.args.list in
    let here : slice_get nodes c.nodes.invariant.index ≡ Some c.in-Some.node = c.nodes.invariant.next ∙ c.in-Some.is in
    let meant : leaves c.args.which (call_carried (waiting_of_node c.args.table.now c.in-Some.node)) ≡ c.means.result = ap (λ o. leaves c.args.which (call_carried (unwrap_or o nobodys))) c.value.ensures ∙ sym (c.means.ensures ∙ ap (leaves c.args.which) c.call.ensures.call) in
    record {
      index = c.nodes.invariant.index + 1;
      next = rw add-one (sym (c.next-next.ensures ∙ next_after-index nodes _ _ (c.know.ensures.distinct c.args.list) here));
      stayed = stays-more (λ node. leaves c.args.which (call_carried (waiting_of_node c.args.table.now node))) nodes _ _ c.nodes.invariant.stayed here (meant ∙ c.if-means.false);
    }

pub nodes-smaller : goal.nodes-smaller
nodes-smaller c =
    let nodes = nodes_of c.args.table.now c.args.list in
    let apart = c.know.ensures.distinct c.args.list in
    let here : slice_get nodes c.nodes.invariant.index ≡ Some c.in-Some.node = c.nodes.invariant.next ∙ c.in-Some.is in
    rw c.in-Some.is (nodes_from-smaller nodes c.nodes.invariant.index _ c.next-next.result apart here (sym (c.next-next.ensures ∙ next_after-index nodes _ _ apart here)))

pub returns : goal.returns
returns c =
    let whole = past_the_end (nodes_of c.args.table.now c.args.list) c.nodes.invariant.index (c.nodes.invariant.next ∙ c.in_default.is) in
    ap (λ nodes. slice_get nodes 0) (sym (none-leaves (λ node. leaves c.args.which (call_carried (waiting_of_node c.args.table.now node))) _ (λ k within. c.nodes.invariant.stayed k (omega (arith, whole)))))
