use Rattle.std.proofs.Common.{◌≡◌, refl, sym, Some}
use Rattle.qx_isolation.specs.Rows.{row_at}
use Rattle.qx_rows.proofs.RowLemmas.{set-row}
use Rattle.qx_clients.proofs.processes.Processes.thread_mut.Goals as goal

pub returns : goal.returns
returns c =
    let process = c.in_ok-process_mut.field-0.now in
    let there : row_at c.args.self.now c.args.process ≡ Some process = sym c.in_ok-process_mut.ensures.row in
    rw (set-row c.args.self.now c.args.process process there, there) (refl, record { writes_back = tt; row = c.thread_mut.ensures.row })
