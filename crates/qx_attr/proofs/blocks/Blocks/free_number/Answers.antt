use Rattle.std.proofs.Common.{◌≡◌, ap, sym, ◌∙◌}
use Rattle.qx_isolation.proofs.Places.{lowest_from_free}
use Rattle.qx_isolation.specs.Rows.{lowest_from, row_at}
use Rattle.qx_attr.specs.inner.Blocks.{NumberedRows}
use Rattle.qx_attr.proofs.BlockLemmas.{lowest}
use Rattle.qx_attr.proofs.blocks.Blocks.free_number.Goals as goal

pub returns : goal.returns
returns c =
    let same = lowest c.self.inside.values c.self.inside.keys.items c.self.invariant.keyed in
    let rows = c.args.self.now.rows in
    let is : c.lowest_free.result ≡ lowest_from 1 rows = c.lowest_free.ensures.number ∙ (ap (lowest_from 1) c.as_slice.ensures.value ∙ (sym same ∙ ap (λ (table : NumberedRows). lowest_from 1 table.rows) c.self.view_is)) in
    record { number = is; free = ap (row_at rows) is ∙ lowest_from_free 1 rows }
