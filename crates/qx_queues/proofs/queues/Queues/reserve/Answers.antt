use Rattle.std.proofs.Common.{ap, refl}
use Rattle.qx_queues.specs.inner.Kept.{entries}
use Rattle.qx_queues.proofs.BesideLemmas.{same_calls-room}
use Rattle.qx_queues.proofs.KeptLemmas.{Kept-room, shown-kept}
use Rattle.qx_queues.proofs.PresenceLemmas.{same_queues}
use Rattle.qx_queues.proofs.PulseLemmas.{KnowsPulses-same}
use Rattle.qx_queues.proofs.queues.Queues.reserve.Goals as goal

pub invariant_of-self : goal.invariant_of-self
invariant_of-self c = rw c.in_err-reserve.ensures.err c.self.invariant

pub invariant_of-self-2 : goal.invariant_of-self-2
invariant_of-self-2 c = (c.self.invariant.0, Kept-room c.self.inside.table _ _ _ (ap (λ t. t.lists) c.in_ok-reserve.ensures.ok) (ap (λ t. t.values) c.in_ok-reserve.ensures.ok) c.self.invariant.1, KnowsPulses-same _ _ _ _ (shown-kept c.self.inside.table c.reserve.new.self c.self.inside.lines.items (λ line. ap (λ t. entries t line) c.in_ok-reserve.ensures.ok)) (λ thread. refl) c.self.invariant.2, c.self.invariant.3)

pub returns-clause-ok : goal.returns-clause-ok
returns-clause-ok c =
    let calls = same_calls-room c.self.inside.table c.reserve.new.self c.self.inside.lines.items c.self.inside.answered (ap (λ t. t.lists) c.in_ok-reserve.ensures.ok) (ap (λ t. t.values) c.in_ok-reserve.ensures.ok) in
    rw (← c.self.view_is) (same_queues (shown-kept c.self.inside.table c.reserve.new.self c.self.inside.lines.items (λ line. ap (λ t. entries t line) c.in_ok-reserve.ensures.ok)) refl refl refl (ap (λ t. t.room) c.in_ok-reserve.ensures.ok) calls.waiting calls.given)
