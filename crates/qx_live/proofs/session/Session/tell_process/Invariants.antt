use Rattle.std.proofs.Common.{◌≡◌, ◌+◌, ◌-◌}
use Rattle.qx_types.specs.declared.limits.TheConstants.Limits.{THREADS}
use Rattle.qx_live.specs.Live.{after_steps}
use Rattle.qx_live.specs.Sessions.{session_of, told_from}
use Rattle.qx_live.proofs.session.Session.tell_process.Given as goal

-- what is told from the next thread on leads where all of it led
abbrev pub invariant-threads : goal.invariant-threads
invariant-threads l =
    after_steps (session_of l.self) (told_from l.user.0 l.process l.tid l.self.world) ≡ after_steps (session_of l.initial.self) (told_from l.user.0 l.process l.thread l.initial.self.world)

-- there are fewer after each
abbrev pub decreases-threads : goal.decreases-threads
decreases-threads l = THREADS + 1 - l.tid
