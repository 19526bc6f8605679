use Rattle.std.proofs.Common.{◌≡◌, Option, Some, None, IfSome, sym, ◌∙◌, true}
use Rattle.qx_types.specs.declared.names.Manager.{Manager}
use Rattle.qx_isolation.specs.Rows.{row_at}
use Rattle.qx_process.specs.Reads.{is_served}
use Rattle.qx_process.proofs.AttachLemmas.{side_served}
use Rattle.qx_process.proofs.process.Process.side.Goals as goal

pub returns-clause-served : goal.returns-clause-served
returns-clause-served c = by_row c.copied.result (c.copied.ensures ∙ c.row.ensures.row)
  where
    by_row : (side : Option Manager) → side ≡ row_at c.self.inside.sides c.args.thread → IfSome side (λ manager. is_served manager c.args.self.now ≡ true)
    by_row None is = tt
    by_row (Some manager) is =
        rw (← c.self.view_is) (side_served (record { threads = c.self.inside.threads.items; connections = c.self.inside.connections.items; sides = c.self.inside.sides; servers = c.self.inside.servers.items; held = c.self.inside.held.items }) c.args.thread manager c.self.invariant.0 c.self.invariant.1 (sym is))
