use Rattle.std.proofs.Common.{◌≡◌, ◌++◌, drop}
use Rattle.qx_play.specs.inner.Taken.{taken_steps}
use Rattle.qx_play.proofs.live.take_told.Given as goal

-- what is left to take leads where all of it led
abbrev pub invariant-told : goal.invariant-told
invariant-told l = record {
  config : l.traced.config ≡ l.initial.traced.config;
  steps : l.traced.steps ++ taken_steps (drop l.seen-index l.told) ≡ l.initial.traced.steps ++ taken_steps l.told;
}
