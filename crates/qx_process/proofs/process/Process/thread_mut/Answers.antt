use Rattle.std.proofs.Common.{rules, ◌≡◌, ◌<◌, ◌∙◌, sym, refl, length, get_or, slice_set}
use Rattle.qx_isolation.specs.Rows.{row_at}
use Rattle.qx_rows.proofs.RowLemmas.{set-same, row_at-place}
use Rattle.qx_process.proofs.process.Process.thread_mut.Goals as goal

pub returns : goal.returns
returns c =
    let threads = c.self.inside.threads.items in
    let place = c.in_ok-self-inside.field-0.now in
    let read : place ≡ get_or threads c.args.thread place = c.in_ok-self-inside.ensures.value in
    let same : slice_set threads c.args.thread place ≡ threads = set-same threads c.args.thread place read in
    let here : c.args.thread < length threads = search rules in
    let there : row_at threads c.args.thread ≡ place = row_at-place threads c.args.thread place here (search rules) in
    rw (same, ← c.self.view_is) (refl, record { writes_back = tt; row = c.as_mut.ensures.value ∙ sym there })
