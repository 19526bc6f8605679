use Rattle.std.proofs.Common.{rules, ◌≡◌, ◌<◌, ◌≤◌, ◌∙◌, sym, refl, length, get_or, slice_set}
use Rattle.qx_types.specs.declared.limits.TheConstants.Limits.{PROCESSES}
use Rattle.qx_isolation.specs.Rows.{row_at}
use Rattle.qx_rows.proofs.RowLemmas.{set-same, row_at-place}
use Rattle.qx_clients.proofs.LendLemmas.{if_there}
use Rattle.qx_clients.proofs.processes.Processes.process_mut.Goals as goal

pub returns : goal.returns
returns c =
    let rows = c.self.inside.rows.items in
    let place = c.in_ok-self-inside.field-0.now in
    let read : place ≡ get_or rows c.args.process place = c.in_ok-self-inside.ensures.value in
    let same : slice_set rows c.args.process place ≡ rows = set-same rows c.args.process place read in
    let here : c.args.process < length rows = search rules in
    let few : c.args.process ≤ PROCESSES = search rules in
    let there : row_at rows c.args.process ≡ place = row_at-place rows c.args.process place here (search rules) in
    rw (same, ← c.self.view_is) (refl, record { writes_back = tt; row = c.as_mut.ensures.value ∙ sym there; within = if_there _ few })
