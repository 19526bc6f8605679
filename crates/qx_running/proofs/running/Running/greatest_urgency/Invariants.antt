use Rattle.std.proofs.Common.{◌≡◌, ◌≤◌, drop, max}
use Rattle.qx_types.specs.Managers.{managers}
use Rattle.qx_running.specs.Running.{greatest_urgency}
use Rattle.qx_running.proofs.running.Running.greatest_urgency.Given as goal

-- the most urgent of the managers is among those that are left, or was met before; each turn leaves one less at least
abbrev pub invariant-managers : goal.invariant-managers
invariant-managers l = record {
  most : max l.most (greatest_urgency l.self.world (drop l.number managers)) ≡ greatest_urgency l.self.world managers;
  fewer : l.counter ≤ l.number;
}
