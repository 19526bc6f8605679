use Rattle.std.proofs.Common.{◌≡◌, [], length}
use Rattle.qx_shared.specs.Shared.{Shared}
use Rattle.qx_chan.specs.inner.Answers.{given_lines, given_users}
use Rattle.qx_chan.specs.inner.Kept.{Answering}
use Rattle.qx_chan.proofs.answers.give_all.Given as goal

-- what is left to be given comes to what was to be given at first
abbrev pub invariant-loop-taken : goal.invariant-loop-taken
invariant-loop-taken l = record {
  users : given_users l.users l.queues.answered ≡ given_users l.initial.users l.initial.queues.answered;
  queues : ◌≡◌ {A = Shared} (record l.queues { lines = given_lines l.users l.queues.lines l.queues.answered; answered = [] }) (record l.initial.queues { lines = given_lines l.initial.users l.initial.queues.lines l.initial.queues.answered; answered = [] });
  kept : Answering l.users l.queues;
}

abbrev pub decreases-loop-taken : goal.decreases-loop-taken
decreases-loop-taken l = length l.queues.answered
