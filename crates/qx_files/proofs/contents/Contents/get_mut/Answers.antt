use Rattle.std.proofs.Common.{rules, ◌≡◌, ◌<◌, ◌∙◌, sym, refl, length, get_or, slice_set}
use Rattle.qx_isolation.specs.Rows.{row_at}
use Rattle.qx_rows.proofs.RowLemmas.{set-same, row_at-place}
use Rattle.qx_files.proofs.contents.Contents.get_mut.Goals as goal

pub returns : goal.returns
returns c =
    let places = c.self.inside.places.items in
    let place = c.in_ok-self-inside.field-0.now in
    let read : place ≡ get_or places c.args.inode place = c.in_ok-self-inside.ensures.value in
    let same : slice_set places c.args.inode place ≡ places = set-same places c.args.inode place read in
    let here : c.args.inode < length places = search rules in
    let there : row_at places c.args.inode ≡ place = row_at-place places c.args.inode place here (search rules) in
    rw (same, ← c.self.view_is) (refl, record { writes_back = tt; bytes = c.as_mut.ensures.value ∙ sym there })
