use Rattle.std.proofs.Common.{◌≡◌, take}
use Rattle.qx_machine.specs.Machine.{boot}
use Rattle.qx_machine.specs.Runs.{erase_from}
use Rattle.qx_world.proofs.trace.Traced.erased.Given as goal

abbrev pub invariant-loop-place : goal.invariant-loop-place
invariant-loop-place l = record {
  config : l.erased.config ≡ l.self.config;
  steps : l.erased.steps ≡ erase_from l.user.0 (boot l.self.config) (take l.place l.self.steps);
}
