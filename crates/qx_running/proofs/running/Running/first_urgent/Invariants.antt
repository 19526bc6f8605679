use Rattle.std.proofs.Common.{◌≡◌, ◌≤◌, drop}
use Rattle.std.specs.Prelude.{find}
use Rattle.qx_types.specs.Managers.{managers}
use Rattle.qx_running.specs.Running.{is_as_urgent}
use Rattle.qx_running.proofs.running.Running.first_urgent.Given as goal

-- the first one is among those that are left; each turn leaves one less at least
abbrev pub invariant-managers : goal.invariant-managers
invariant-managers l = record {
  first : find (is_as_urgent l.self.world l.most) (drop l.number managers) ≡ find (is_as_urgent l.self.world l.most) (drop l.from managers);
  fewer : l.counter ≤ l.number;
}
