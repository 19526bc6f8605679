use Rattle.std.proofs.Common.{rules, ◌≡◌, ◌<◌, ◌∙◌, sym, refl, length, get_or, slice_set}
use Rattle.qx_isolation.specs.Rows.{row_at}
use Rattle.qx_rows.proofs.RowLemmas.{set-same, row_at-place}
use Rattle.qx_resources.proofs.all.AllResources.user_mut.Goals as goal

pub returns : goal.returns
returns c =
    let rows = c.self.inside.rows.items in
    let place = c.in_ok-self-inside.field-0.now in
    let read : place ≡ get_or rows c.args.user.0 place = c.in_ok-self-inside.ensures.value in
    let same : slice_set rows c.args.user.0 place ≡ rows = set-same rows c.args.user.0 place read in
    let here : c.args.user.0 < length rows = search rules in
    let there : row_at rows c.args.user.0 ≡ place = row_at-place rows c.args.user.0 place here (search rules) in
    rw (same, ← c.self.view_is) (refl, record { writes_back = tt; row = c.as_mut.ensures.value ∙ sym there })
