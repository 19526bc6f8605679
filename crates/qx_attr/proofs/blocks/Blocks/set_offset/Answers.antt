use Rattle.std.proofs.Common.{◌≡◌, None, Some, sym}
use Rattle.slab.specs.Slab.{get}
use Rattle.qx_machine.specs.Inodes.{moved_to}
use Rattle.qx_isolation.specs.Rows.{row_at}
use Rattle.qx_attr.specs.inner.Blocks.{rows_of}
use Rattle.qx_attr.proofs.BlockLemmas.{nothing-changed, nothing-there, rows-changed}
use Rattle.qx_attr.proofs.TableLemmas.{no_value}
use Rattle.qx_attr.proofs.blocks.Blocks.set_offset.Goals as goal

pub assert_unchecked-requires : goal.assert_unchecked-requires
assert_unchecked-requires c =
    let key = c.in-Some.key in
    let is : row_at c.self.inside.keys.items c.args.number ≡ Some key = cc in
    absurd (no_value (get c.self.inside.values key) (sym c.in_default-get_mut.ensures.value) (c.self.invariant.keyed.there c.args.number key is))

pub returns-in_default : goal.returns-in_default
returns-in_default c =
    let none : row_at c.self.inside.keys.items c.args.number ≡ None = cc in
    let same = nothing-changed (rows_of c.self.inside.values c.self.inside.keys.items) c.args.number (moved_to c.args.offset) (nothing-there c.self.inside.values c.self.inside.keys.items c.args.number none) in
    rw (← c.self.view_is) (record { moved = λ i. record { rows = sym same i; made = c.self.inside.made.items; room = c.self.inside.room } })

pub returns : goal.returns
returns c =
    let key = c.in-Some.key in
    let block = c.in-Some-get_mut.block.now in
    let is : row_at c.self.inside.keys.items c.args.number ≡ Some key = cc in
    let had : get c.self.inside.values key ≡ Some block = sym c.in-Some-get_mut.ensures.value in
    let moved = rows-changed c.self.inside.values c.self.inside.keys.items c.args.number key (moved_to c.args.offset) block c.self.invariant.keyed is had in
    rw (← c.self.view_is) (record { moved = λ i. record { rows = moved i; made = c.self.inside.made.items; room = c.self.inside.room } })
