use Rattle.std.proofs.Common.{◌≡◌, ◌==◌, None, Some, arith, filter, not, refl, slice_set}
use Rattle.std.proofs.Math.ListN.{length-set}
use Rattle.qx_isolation.specs.Rows.{row_at}
use Rattle.qx_attr.specs.inner.Counts.{uncounted}
use Rattle.qx_attr.proofs.BlockLemmas.{nothing-freed}
use Rattle.qx_attr.proofs.CountLemmas.{counted_close, inode_there, same_attributes, within_table}
use Rattle.qx_attr.proofs.inodes.Inodes.close_block.Goals as goal

-- no block is there, and none goes
pub invariant_of-self : goal.invariant_of-self
invariant_of-self c =
    let none : row_at c.self.inside.blocks.rows c.args.number ≡ None = cc in
    rw (c.remove.ensures.row, nothing-freed c.self.inside.blocks.rows c.args.number none) c.self.invariant

pub returns-in_default : goal.returns-in_default
returns-in_default c = rw (c.remove.ensures.row, ← c.self.view_is) (record { closed = refl })

pub there-attr-requires : goal.there-attr-requires
there-attr-requires c =
    let is : row_at c.self.inside.blocks.rows c.args.number ≡ Some c.in-Some.block = cc in
    let there = inode_there c.self.inside.attrs.items c.self.inside.blocks.rows c.args.number c.in-Some.block c.self.invariant.counted is in
    record { there = rw c.as_slice.ensures.value there }

pub invariant_of-self-2 : goal.invariant_of-self-2
invariant_of-self-2 c =
    let attrs = c.self.inside.attrs.items in
    let rows = c.self.inside.blocks.rows in
    let is : row_at rows c.args.number ≡ Some c.in-Some.block = cc in
    let attr = c.there-attr.result.now in
    let there : row_at attrs c.in-Some.block.inode ≡ Some attr = cc in
    let long = length-set rows c.args.number None in
    let few = c.self.invariant.few in
    let same = length-set attrs c.in-Some.block.inode (Some (uncounted c.in-Some.block.flags attr)) in
    rw (c.remove.ensures.row, c.uncounted.ensures) (record {
      counted = counted_close attrs rows c.args.number c.in-Some.block attr there c.self.invariant.counted is;
      few = omega (arith, long, few);
      few_inodes = omega (arith, same);
      own_inodes = c.self.invariant.own_inodes;
      own_blocks = c.self.invariant.own_blocks;
      numbers = c.self.invariant.numbers;
      no_more = omega (arith, same);
    })

pub returns : goal.returns
returns c =
    let attrs = c.self.inside.attrs.items in
    let attr = c.there-attr.result.now in
    let there : row_at attrs c.in-Some.block.inode ≡ Some attr = cc in
    let same = same_attributes attrs c.in-Some.block.inode attr (uncounted c.in-Some.block.flags attr) there refl in
    let blocks = c.self.inside.blocks in
    rw (c.remove.ensures.row, c.uncounted.ensures, ← c.self.view_is) (record {
      closed = λ i. record { inodes = record { attributes = same i; blocks = slice_set blocks.rows c.args.number None; made = filter (λ other. not (other == c.args.number)) blocks.made; most_inodes = c.self.inside.most_inodes; most_blocks = c.self.inside.most_blocks }; room = blocks.room };
    })

pub index_mut-requires : goal.index_mut-requires
index_mut-requires c = rw c.as_slice.ensures.len at (within_table c.as_slice.result.now c.in-Some.block.inode c.there-attr.result.now c.there-attr.ensures.row)
