use Rattle.std.proofs.Common.{◌≡◌, ◌+◌, ◌*◌, ◌≤◌, drop}
use Rattle.qx_types.specs.Managers.{managers}
use Rattle.qx_live.proofs.Emptied.{waits_among}
use Rattle.qx_live.proofs.waiting.waiting.Given as goal

-- what waits at the managers that were met, and at those that are left; each turn leaves one less at least
abbrev pub invariant-lines : goal.invariant-lines
invariant-lines l = record {
  sum : l.waiting + waits_among l.world (drop l.number managers) ≡ waits_among l.world managers;
  small : l.waiting ≤ l.counter * 18446744073709551615;
  fewer : l.counter ≤ l.number;
}
