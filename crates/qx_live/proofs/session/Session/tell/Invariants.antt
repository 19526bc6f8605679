use Rattle.std.proofs.Common.{◌≡◌, ◌-◌}
use Rattle.qx_types.specs.declared.limits.TheConstants.Limits.{PROCESSES}
use Rattle.qx_live.specs.Live.{after_steps}
use Rattle.qx_live.specs.Sessions.{processes_behind, session_of}
use Rattle.qx_live.proofs.session.Session.tell.Given as goal

-- what the processes behind the last one are told leads where all of it led
abbrev pub invariant-processes : goal.invariant-processes
invariant-processes l =
    after_steps (session_of l.self) (processes_behind l.user.0 l.last l.self.world) ≡ after_steps (session_of l.initial.self) (processes_behind l.user.0 l.process l.initial.self.world)

-- there are fewer after each
abbrev pub decreases-processes : goal.decreases-processes
decreases-processes l = PROCESSES - l.last
