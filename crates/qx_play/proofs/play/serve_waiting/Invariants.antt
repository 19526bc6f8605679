use Rattle.std.proofs.Common.{◌≡◌, ◌-◌, ◌++◌}
use Rattle.qx_live.specs.Chosen.{rounds}
use Rattle.qx_play.specs.Play.{world_played}
use Rattle.qx_play.proofs.play.serve_waiting.Given as goal

-- the rounds that are left lead where all of them led
abbrev pub invariant-rounds : goal.invariant-rounds
invariant-rounds l = record {
  config : l.traced.config ≡ l.initial.traced.config;
  steps : l.traced.steps ++ rounds (l.most - l.counter) l.moment (world_played l.traced.config l.traced.steps)
      ≡ l.initial.traced.steps ++ rounds l.most l.moment (world_played l.initial.traced.config l.initial.traced.steps);
}
