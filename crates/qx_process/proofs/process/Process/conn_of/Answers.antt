use Rattle.std.proofs.Common.{◌≡◌, Option, Some, None, IfSome, sym, ◌∙◌, ap, true, Bor}
use Rattle.std.specs.Option.{option_copied}
use Rattle.qx_machine.specs.declared.rows.Connection.{Connection}
use Rattle.qx_isolation.specs.Rows.{row_at}
use Rattle.qx_process.specs.Reads.{is_served}
use Rattle.qx_process.proofs.AttachLemmas.{connection_served}
use Rattle.qx_process.proofs.process.Process.conn_of.Goals as goal

pub returns-clause-served : goal.returns-clause-served
returns-clause-served c = by_row c.row.result (c.row.ensures.row ∙ ap (λ all. row_at all c.args.coid.0) c.as_slice.ensures.value)
  where
    by_row : (row : Option (Bor Connection)) → option_copied row ≡ row_at c.self.inside.connections.items c.args.coid.0 → IfSome row (λ connection. is_served connection.now.manager c.args.self.now ≡ true)
    by_row None is = tt
    by_row (Some connection) is = rw (← c.self.view_is) (connection_served (record { threads = c.self.inside.threads.items; connections = c.self.inside.connections.items; sides = c.self.inside.sides; servers = c.self.inside.servers.items; held = c.self.inside.held.items }) c.args.coid.0 connection.now c.self.invariant.0 c.self.invariant.1 (sym is))
