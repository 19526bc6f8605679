use Rattle.std.proofs.Common.{◌≡◌, ◌≤◌, drop, None}
use Rattle.qx_paths.specs.Mounts.{longest}
use Rattle.qx_paths.specs.inner.Rows.{own}
use Rattle.qx_paths.proofs.mounts.longest.Given as goal

pub record Counts (l : goal.Live-loop-row) : Type 0 where
  pub best : longest l.path l.best l.number (own l.user.0 (drop l.row-index l.rows)) ≡ longest l.path None 0 (own l.user.0 l.rows)
  pub few : l.number ≤ l.row-index

abbrev pub invariant-loop-row : goal.invariant-loop-row
invariant-loop-row l = Counts l
