use Rattle.std.proofs.Common.{◌≡◌, ◌-◌, ◌++◌, ◌∷◌, [], None, Some, ap, arith, refl, sym, ◌∙◌}
use Rattle.std.proofs.Math.ListN.{length-set}
use Rattle.qx_isolation.proofs.Places.{lowest_from_free}
use Rattle.qx_types.specs.declared.limits.TheConstants.Limits.{BLOCKS}
use Rattle.qx_isolation.specs.Rows.{lowest_from, put_row, row_at}
use Rattle.qx_attr.specs.Counts.{Reserved}
use Rattle.qx_attr.specs.inner.Counts.{counted}
use Rattle.qx_attr.proofs.CountLemmas.{counted_open, few_rows, same_attributes}
use Rattle.qx_attr.proofs.inodes.Inodes.put_block.Goals as goal

pub invariant_of-self : goal.invariant_of-self
invariant_of-self c =
    let attrs = c.self.inside.attrs.items in
    let rows = c.self.inside.blocks.rows in
    let attr = c.there-attr.result.now in
    let there : row_at attrs c.args.block.inode ≡ Some attr = cc in
    let is : c.args.number ≡ lowest_from 1 rows = c.requires.lowest ∙ ap (λ (all : Reserved). lowest_from 1 all.inodes.blocks) (sym c.self.view_is) in
    let free : row_at rows c.args.number ≡ None = ap (row_at rows) is ∙ lowest_from_free 1 rows in
    let long = length-set attrs c.args.block.inode (Some (counted c.args.block.flags attr)) in
    rw (c.put.ensures.row, c.counted.ensures) (record {
      counted = counted_open attrs rows c.args.number c.args.block attr there c.self.invariant.counted free;
      few = few_rows rows c.args.number BLOCKS c.args.block c.requires.few c.self.invariant.few;
      few_inodes = omega (arith, long);
      own_inodes = c.self.invariant.own_inodes;
      own_blocks = c.self.invariant.own_blocks;
      numbers = omega arith;
      no_more = omega (arith, long);
    })

pub returns : goal.returns
returns c =
    let attrs = c.self.inside.attrs.items in
    let attr = c.there-attr.result.now in
    let there : row_at attrs c.args.block.inode ≡ Some attr = cc in
    let same = same_attributes attrs c.args.block.inode attr (counted c.args.block.flags attr) there refl in
    rw (c.put.ensures.row, c.counted.ensures, ← c.self.view_is) (λ i. record { inodes = record { attributes = same i; blocks = put_row c.self.inside.blocks.rows c.args.number c.args.block; made = c.self.inside.blocks.made ++ c.args.number ∷ []; most_inodes = c.self.inside.most_inodes; most_blocks = c.self.inside.most_blocks }; room = c.self.inside.blocks.room - 1 })
