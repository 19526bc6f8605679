use Rattle.std.proofs.Common.{◌≡◌, ◌+◌, false, true, Some, slice_get, unwrap_or, add-one, arith, sym, ap, ◌∙◌}
use Rattle.std.proofs.lemmas.Bool.Decides.{nat_tests}
use Rattle.qx_lists.specs.Table.{nodes_of}
use Rattle.qx_lists.proofs.WalkLemmas.{contains-index, next_after-index, nodes_from-smaller, past_the_end}
use Rattle.qx_machine.specs.Events.{is_on}
use Rattle.qx_notify.specs.inner.Kept.{event_at, no_event}
use Rattle.qx_notify.proofs.NodeLemmas.{fails-more, first-passes, none-passes}
use Rattle.qx_notify.proofs.lists.find.Goals as goal

pub nodes-smaller : goal.nodes-smaller
nodes-smaller c =
    let nodes = nodes_of c.args.table.now c.args.list in
    let apart = c.know.ensures.distinct c.args.list in
    let here : slice_get nodes c.nodes.invariant.index ≡ Some c.in-Some.node = c.nodes.invariant.next ∙ c.in-Some.is in
    rw c.in-Some.is (nodes_from-smaller nodes c.nodes.invariant.index _ c.next-next.result apart here (sym (c.next-next.ensures ∙ next_after-index nodes _ _ apart here)))

pub value-requires : goal.value-requires
value-requires c = c.know.ensures.there c.args.list c.in-Some.node (contains-index _ _ _ (c.nodes.invariant.next ∙ c.in-Some.is))

pub next-next-requires : goal.next-next-requires
next-next-requires c = contains-index _ _ _ (c.nodes.invariant.next ∙ c.in-Some.is)

pub returns-then-value-block : goal.returns-then-value-block
returns-then-value-block c =
    let meant : is_on c.args.block (event_at c.args.table.now c.in-Some.node) ≡ true = rw (ap (λ o. unwrap_or o no_event) c.value.ensures) (grind (arith, nat_tests)) in
    sym (first-passes (λ node. is_on c.args.block (event_at c.args.table.now node)) (nodes_of c.args.table.now c.args.list) c.nodes.invariant.index c.in-Some.node c.nodes.invariant.failed (c.nodes.invariant.next ∙ c.in-Some.is) meant)

pub nodes-preserved : goal.nodes-preserved
nodes-preserved c =
    let nodes = nodes_of c.args.table.now c.args.list in
    let here : slice_get nodes c.nodes.invariant.index ≡ Some c.in-Some.node = c.nodes.invariant.next ∙ c.in-Some.is in
    let other : is_on c.args.block (event_at c.args.table.now c.in-Some.node) ≡ false = rw (ap (λ o. unwrap_or o no_event) c.value.ensures) (grind (arith, nat_tests)) in
    record {
      index = c.nodes.invariant.index + 1;
      next = rw add-one (sym (c.next-next.ensures ∙ next_after-index nodes _ _ (c.know.ensures.distinct c.args.list) here));
      failed = fails-more (λ node. is_on c.args.block (event_at c.args.table.now node)) nodes _ _ c.nodes.invariant.failed here other;
    }

pub returns : goal.returns
returns c =
    let whole = past_the_end (nodes_of c.args.table.now c.args.list) c.nodes.invariant.index (c.nodes.invariant.next ∙ c.in_default.is) in
    ap (λ nodes. slice_get nodes 0) (sym (none-passes (λ node. is_on c.args.block (event_at c.args.table.now node)) _ (λ k within. c.nodes.invariant.failed k (omega (arith, whole)))))
