use Rattle.std.proofs.Common.{ap, ◌∙◌}
use Rattle.qx_types.specs.declared.limits.TheConstants.Limits.{FIRST_CONNECTION}
use Rattle.qx_isolation.specs.Rows.{row_at}
use Rattle.qx_isolation.proofs.Places.{lowest_from_free}
use Rattle.qx_clients.proofs.judge.free_connection.Goals as goal

pub returns-clause-unused : goal.returns-clause-unused
returns-clause-unused c =
    let connections = c.args.process.now.connections in
    ap (row_at connections) c.free_connection-number.ensures.number ∙ lowest_from_free FIRST_CONNECTION connections
