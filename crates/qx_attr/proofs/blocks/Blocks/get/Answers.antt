use Rattle.std.proofs.Common.{◌≡◌, ◌∙◌, Some, ap, rules, sym}
use Rattle.std.specs.Option.{option_copied}
use Rattle.qx_isolation.specs.Rows.{row_at}
use Rattle.qx_attr.specs.inner.Blocks.{rows_of, value_at}
use Rattle.qx_attr.proofs.BlockLemmas.{row-of}
use Rattle.qx_attr.proofs.blocks.Blocks.get.Goals as goal

pub unwrap_unchecked-requires : goal.unwrap_unchecked-requires
unwrap_unchecked-requires c =
    let is : row_at c.self.inside.keys.items c.args.number ≡ Some c.in_ok-key.field-0.now = rw (← c.as_slice.ensures.value) (sym c.in_ok-key.ensures.row) in
    let there = c.self.invariant.keyed.there c.args.number c.in_ok-key.field-0.now is in
    search rules

pub returns : goal.returns
returns c =
    let values = c.self.inside.values in
    let is : row_at c.self.inside.keys.items c.args.number ≡ Some c.in_ok-key.field-0.now = rw (← c.as_slice.ensures.value) (sym c.in_ok-key.ensures.row) in
    let row : row_at (rows_of values c.self.inside.keys.items) c.args.number ≡ option_copied c.get.result = row-of values c.self.inside.keys.items c.args.number ∙ (ap (value_at values) is ∙ sym c.get.ensures) in
    rw (← c.self.view_is) (record { row = sym (row ∙ ap option_copied c.unwrap_unchecked.ensures.value) })
