use Rattle.std.proofs.Common.{◌≡◌, drop}
use Rattle.test_desk.specs.Asking.{answer_for}
use Rattle.test_desk.proofs.replies.answer_for.Given as goal

-- what was met so far holds no answer
abbrev pub invariant-seen : goal.invariant-seen
invariant-seen l = answer_for l.process (drop l.one-index l.seen) ≡ answer_for l.process l.seen
