use Rattle.std.proofs.Common.{ap, ◌∙◌, ◌||◌}
use Rattle.std.specs.FinSet as set
use Rattle.qx_queues.specs.Queues.{thread_cmp}
use Rattle.qx_queues.proofs.EntryLemmas.{is_same_thread-self, or_true}
use Rattle.qx_queues.proofs.SetLemmas.{has-thread}
use Rattle.test_lower.proofs.nodes.with_thread.Goals as goal

pub add-requires-clause-fresh : goal.add-requires-clause-fresh
add-requires-clause-fresh c = rw (c.in_ok-reserve.ensures.ok, c.in_ok-queues.ensures.empty) (set.contains-empty thread_cmp c.args.thread)

pub returns : goal.returns
returns c = rw c.add.ensures.added (
  c.args.thread.tid,
  has-thread c.reserve.new.self.threads c.args.thread c.args.thread ∙ ap (λ b. set.contains c.reserve.new.self.threads c.args.thread || b) (is_same_thread-self c.args.thread) ∙ or_true (set.contains c.reserve.new.self.threads c.args.thread),
)
