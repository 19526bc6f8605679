use Rattle.std.proofs.Common.{◌≡◌, ◌++◌, None, drop}
use Rattle.qx_live.specs.Live.{live_steps}
use Rattle.qx_live.specs.Sessions.{due_of, session_of}
use Rattle.qx_play.specs.Play.{world_played}
use Rattle.qx_play.proofs.live.play_session.Given as goal

-- the lines that are left lead where all of them lead, from the world at which the session is
abbrev pub invariant-lines : goal.invariant-lines
invariant-lines l = record {
  config : l.traced.config ≡ l.initial.traced.config;
  none_due : due_of l.session ≡ None;
  same : (session_of l.session).world ≡ world_played l.traced.config l.traced.steps;
  steps : l.traced.steps ++ live_steps (world_played l.traced.config l.traced.steps) (drop l.line-index l.lines)
      ≡ l.initial.traced.steps ++ live_steps (world_played l.initial.traced.config l.initial.traced.steps) l.lines;
}
