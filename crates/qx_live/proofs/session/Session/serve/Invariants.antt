use Rattle.std.proofs.Common.{◌≡◌}
use Rattle.qx_live.specs.Sessions.{served, session_of}
use Rattle.qx_live.proofs.session.Session.serve.Given as goal

-- the rounds that are left lead where all of them led
abbrev pub invariant-rounds : goal.invariant-rounds
invariant-rounds l = served l.user.0 l.moment l.rounds (session_of l.self) ≡ served l.user.0 l.moment l.left (session_of l.initial.self)

-- there are fewer after each
abbrev pub decreases-rounds : goal.decreases-rounds
decreases-rounds l = l.rounds
