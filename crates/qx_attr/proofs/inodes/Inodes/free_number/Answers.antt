use Rattle.std.proofs.Common.{◌≡◌, ap, refl, sym, ◌∙◌}
use Rattle.qx_isolation.proofs.Places.{lowest_from_free}
use Rattle.qx_isolation.specs.Rows.{lowest_from, row_at}
use Rattle.qx_attr.specs.Counts.{Reserved}
use Rattle.qx_attr.specs.inner.Counts.{attribute_of}
use Rattle.qx_attr.proofs.TableLemmas.{lowest_map}
use Rattle.qx_attr.proofs.inodes.Inodes.free_number.Goals as goal

pub returns : goal.returns
returns c =
    let same = lowest_map attribute_of c.self.inside.attrs.items refl (λ n attr is. refl) in
    let rows = c.args.self.now.inodes.attributes in
    let is : c.lowest_free.result ≡ lowest_from 1 rows = c.lowest_free.ensures.number ∙ (ap (lowest_from 1) c.as_slice.ensures.value ∙ (sym same ∙ ap (λ (all : Reserved). lowest_from 1 all.inodes.attributes) c.self.view_is)) in
    record { number = is; free = ap (row_at rows) is ∙ lowest_from_free 1 rows }
