use Rattle.std.proofs.Common.{◌≡◌, drop}
use Rattle.std.specs.List.{list_any}
use Rattle.qx_paths.specs.Prefixes.{is_at}
use Rattle.qx_paths.specs.inner.Rows.{own}
use Rattle.qx_paths.proofs.mounts.has_at.Given as goal

abbrev pub invariant-loop-row : goal.invariant-loop-row
invariant-loop-row l = list_any (is_at l.path) (own l.user.0 (drop l.row-index l.rows)) ≡ list_any (is_at l.path) (own l.user.0 l.rows)
