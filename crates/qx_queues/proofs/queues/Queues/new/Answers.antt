use Rattle.std.proofs.Common.{◌≡◌, ◌+◌, [], length, length-append, map, replicate, ap, arith, ◌∙◌}
use Rattle.std.proofs.lemmas.List.{length-replicate}
use Rattle.std.specs.FinMap as maps
use Rattle.qx_types.specs.Managers.{manager_count}
use Rattle.qx_queues.specs.inner.Kept.{AreListsOfTable, given_at}
use Rattle.qx_queues.specs.Nodes.{asked_in, no_nodes, no_process_nodes, node_of}
use Rattle.qx_queues.proofs.BesideLemmas.{empty-line, first_list, no_pipes-line, waiting-none}
use Rattle.qx_queues.proofs.KeptLemmas.{Kept-line, Kept-none, shown-none}
use Rattle.qx_queues.proofs.MarkLemmas.{none_marked}
use Rattle.qx_queues.proofs.NodesLemmas.{node_of-none, nodes_at-none}
use Rattle.qx_queues.proofs.PresenceLemmas.{same_queues, servers-none, threads-none}
use Rattle.qx_queues.proofs.PulseLemmas.{KnowsPulses-none}
use Rattle.qx_queues.proofs.queues.Queues.new.Goals as goal

pub managers-init : goal.managers-init
managers-init c =
    let lists = ap (λ t. t.lists) c.in_ok-answered.ensures.made ∙ ap (λ t. maps.insert t.lists c.in_ok-answered.answered []) c.new-table.ensures in
    let first = first_list c.add_list.new.self c.in_ok-answered.answered lists in
    let values = ap (λ t. t.values) c.in_ok-answered.ensures.made ∙ ap (λ t. t.values) c.new-table.ensures in
    let kept : AreListsOfTable c.add_list.new.self [] c.in_ok-answered.answered (node_of (no_nodes c.args.users)) = Kept-none c.add_list.new.self c.in_ok-answered.answered _ values first.empty first.there (node_of-none c.args.users) in
    (ap length c.new-lines.ensures.items, ap (λ t. t.room) c.in_ok-answered.ensures.made ∙ ap (λ t. t.room) c.new-table.ensures, rw c.new-lines.ensures.items kept, rw c.new-lines.ensures.items first.no_pipes, first.empty)

pub managers-preserved : goal.managers-preserved
managers-preserved c = (
  ap length c.in_ok-push.ensures.items ∙ length-append c.managers.lines.items _ ∙ ap (λ n. n + 1) c.managers.invariant.0,
  c.in_ok-line.ensures.elsewhere.room ∙ c.managers.invariant.1,
  rw c.in_ok-push.ensures.items (Kept-line c.managers.table _ c.managers.lines.items _ _ c.in_ok-line.ensures.empty c.in_ok-line.ensures.of c.in_ok-line.ensures.was_new c.in_ok-line.ensures.elsewhere c.managers.invariant.2),
  rw c.in_ok-push.ensures.items (no_pipes-line c.managers.table c.new-in-managers.new.table c.managers.lines.items _ c.in_ok-answered.answered c.in_ok-line.ensures.elsewhere.lists c.managers.invariant.3),
  empty-line c.managers.table c.new-in-managers.new.table c.in_ok-line.line c.in_ok-line.ensures.empty c.in_ok-line.ensures.elsewhere.lists c.managers.invariant.4,
)

pub invariant_of-result : goal.invariant_of-result
invariant_of-result c = (
  omega (arith, c.managers.invariant.0, c.managers-test.false, c.managers.auto.counter-end, c.count-end.ensures.count),
  rw c.in_ok-nodes.ensures.none c.managers.invariant.2,
  KnowsPulses-none _ _ _ (shown-none c.managers.table c.managers.invariant.4 c.managers.lines.items) (λ thread. rw c.in_ok-nodes.ensures.none (ap asked_in (nodes_at-none c.args.users thread))),
  none_marked c.managers.table c.managers.lines.items c.managers.invariant.2.line c.managers.invariant.4,
)

pub returns : goal.returns
returns c =
    let all : length c.managers.lines.items ≡ manager_count = omega (arith, c.managers.invariant.0, c.managers-test.false, c.managers.auto.counter-end, c.count-end.ensures.count) in
    rw c.in_ok-nodes.ensures.none (record { empty = same_queues (shown-none c.managers.table c.managers.invariant.4 c.managers.lines.items ∙ ap (λ n. replicate n []) all) (threads-none c.args.users) (servers-none c.args.users) (length-replicate (c.args.users + 1) no_process_nodes) c.managers.invariant.1 (waiting-none c.managers.table c.managers.lines.items c.in_ok-answered.answered c.managers.invariant.3) (ap (map (given_at c.managers.table)) (c.managers.invariant.4 c.in_ok-answered.answered)) })
