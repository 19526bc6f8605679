use Rattle.std.proofs.Common.{◌≡◌, ◌≤◌, ◌-◌, ◌++◌, ◌∷◌, [], None, ap, arith, is_some, length, refl, sym, ◌∙◌}
use Rattle.qx_isolation.proofs.Places.{lowest_from_free}
use Rattle.qx_isolation.specs.Rows.{lowest_from, row_at}
use Rattle.qx_attr.specs.inner.Blocks.{NumberedRows}
use Rattle.qx_attr.proofs.BlockLemmas.{keyed-put, lowest, rows-put}
use Rattle.qx_attr.proofs.CountLemmas.{count-put}
use Rattle.qx_attr.proofs.MadeLemmas.{made_put}
use Rattle.qx_attr.proofs.TableLemmas.{longer_put, lowest_within}
use Rattle.qx_attr.proofs.blocks.Blocks.put.Goals as goal

pub invariant_of-self : goal.invariant_of-self
invariant_of-self c =
    let inside = c.self.inside in
    let keys = inside.keys.items in
    let key = c.insert_reserved-key in
    let is : c.args.number ≡ lowest_from 1 keys = c.requires.lowest ∙ (ap (λ (table : NumberedRows). lowest_from 1 table.rows) (sym c.self.view_is) ∙ lowest inside.values keys c.self.invariant.keyed) in
    let within : c.args.number ≤ length keys = rw is (lowest_within keys c.self.invariant.some) in
    let free : row_at keys c.args.number ≡ None = ap (row_at keys) is ∙ lowest_from_free 1 keys in
    let one_more = count-put is_some refl keys c.args.number key.result free in
    let longer = longer_put keys c.args.number key.result in
    rw (c.put_reserved.ensures.row, c.push_reserved.ensures.items) (record {
      keyed = keyed-put inside.values key.new.self keys c.args.number key.result c.args.block c.self.invariant.keyed key.ensures.was_vacant key.ensures.updates;
      held = omega (arith, one_more);
      once = made_put keys inside.made.items c.args.number c.self.invariant.once key.result within free;
      some = omega (arith, longer);
      numbers = omega arith;
      no_more = omega (arith, longer);
      slots = omega (arith, ap (λ (table : NumberedRows). table.room) c.self.view_is);
      places = omega arith;
    })

pub returns : goal.returns
returns c =
    let key = c.insert_reserved-key in
    let put = rows-put c.self.inside.values key.new.self c.self.inside.keys.items c.args.number key.result c.args.block c.self.invariant.keyed key.ensures.was_vacant key.ensures.updates in
    rw (c.put_reserved.ensures.row, c.push_reserved.ensures.items, ← c.self.view_is) (record { row = λ i. record { rows = put i; made = c.self.inside.made.items ++ c.args.number ∷ []; room = c.self.inside.room - 1 } })
